pub mod Fresh
pub mod Injective
