-- What the proofs of this crate share.
pub mod Entering
pub mod InSlice
pub mod Opening
