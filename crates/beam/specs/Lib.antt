-- What marks and beams leave of the lent lists.
pub mod Applying
pub mod Walking
