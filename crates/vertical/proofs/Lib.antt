pub mod InProfile
pub mod Climbing
