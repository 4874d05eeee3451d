pub mod Runs
pub mod Pieces
pub mod Moved
pub mod Keeping
pub mod MovedUp
pub mod MovedBack
