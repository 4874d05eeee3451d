-- The structs that C sees, as what the rules answer. Each is fixed throughout: where a call is refused, what was asked
-- for is 0.
pub mod Refusals
pub mod Heads
pub mod Structs
pub mod Answers
pub mod Lines
