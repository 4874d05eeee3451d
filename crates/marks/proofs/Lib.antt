pub mod Marking
pub mod Banding
pub mod BandLaws
