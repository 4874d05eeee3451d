pub mod Sound
pub mod Taken
