-- What the laws need of floats beside `lib.Ieee`, in every format: sums and comparisons by value, the one form of a
-- value, sizes, zeros and ones, differences and quotients, and coordinates that are followed by whole steps. The laws
-- themselves are in the files beside this one. Assumes nothing.
pub mod Tests
pub mod Values
pub mod OneForm
pub mod Sizes
pub mod Zeros
pub mod Differences
pub mod Quotients
pub mod Inside
pub mod Nans
