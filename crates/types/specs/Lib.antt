-- What each type of the code stands for in the rules.
pub mod Points
pub mod Models
pub mod Beams
pub mod Samples
pub mod Refusals
pub mod Answers
