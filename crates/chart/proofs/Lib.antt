pub mod Filling
pub mod Sizes
pub mod Stack
pub mod Bounds
pub mod Limits
