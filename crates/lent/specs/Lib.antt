-- What a sweep leaves in a head lent by reference, and the beams of a lent slice.
pub mod LentHead
pub mod LentBeams
