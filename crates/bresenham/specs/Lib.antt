-- What the code's line, axes and steps stand for in the rules, and the one number that the rules do not name: a size's
-- whole part.
pub mod Axes
pub mod Lines
