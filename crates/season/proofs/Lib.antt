pub mod Joining
pub mod Night
pub mod Running
pub mod Sums
pub mod Runs
pub mod Good
