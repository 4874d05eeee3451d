pub mod Clips
pub mod Spans
