pub mod Passages
pub mod Crossing
pub mod Trying
pub mod ByAxis
pub mod OnTheMap
