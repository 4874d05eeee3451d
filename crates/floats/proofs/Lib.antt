pub mod Pattern
pub mod Ranges
pub mod Sizes
pub mod WholePart
pub mod Following
