pub mod Checking
pub mod ModelBounds
