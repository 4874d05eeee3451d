pub mod OneByte
pub mod Bands
pub mod Grids
pub mod Sounds
pub mod Steps
pub mod Taken
