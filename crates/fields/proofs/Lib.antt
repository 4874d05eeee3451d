pub mod Bytes
pub mod Floats
pub mod NaNs
pub mod Stores
