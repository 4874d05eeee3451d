-- Marks of numbers and of patterns: the highest bit says that one is not within the bounds. Definitions only.
use Rattle.std.specs.Prelude.{ℕ, ◌+◌, ◌%◌, cond, Float}
use Rattle.std.specs.Float.{binary64}
use Rattle.std.specs.Float.Ieee.{le, to_bits}
use Rattle.rules.specs.Floats.{zero_f}

abbrev pub highest : ℕ
highest = 0x8000_0000_0000_0000

-- the first pattern without a sign that is above the ceiling's; 0 if none is within the bounds
unfoldable pub first_above : Float → ℕ
first_above ceiling = cond (le zero_f ceiling) (to_bits binary64 ceiling % highest + 1) 0
