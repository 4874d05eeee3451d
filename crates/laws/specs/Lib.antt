-- What the proofs of code cite, over the format and the axes: two axes and three, and two widths of floats, share every
-- law here. What no proof of code cites stands in `theorems`, above the code.
pub mod Floats
pub mod Checks
pub mod Places
pub mod LineSteps
pub mod Following
pub mod Room
pub mod Filling
pub mod Literals
