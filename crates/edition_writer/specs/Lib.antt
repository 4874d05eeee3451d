pub mod Writing
pub mod Bands
