-- The requirements' opening: "Floats are IEEE 754 binary64, nearest-even, one rounding per operation, no fused steps."
-- The library's `lib.Ieee` is that arithmetic. A rule takes the format as its first argument and is used at `binary64`.
-- Here are the few numbers that the rules name; as values they serve every format. Definitions only.
use Rattle.std.specs.Prelude.{ℕ, Bool, true, false, ◌&&◌, List, [], ◌∷◌, pos, negsuc, Float}
use Rattle.std.specs.Float.{nan, inf, fin, Format}
use Rattle.std.specs.Float.Ieee.{of_int}
use Rattle.std.specs.Float.Ieee.Scale.{finite}

abbrev pub zero_f : Float
zero_f = fin false 0 (pos 0)

abbrev pub half_f : Float
half_f = fin false 1 (negsuc 0)

abbrev pub one_f : Float
one_f = fin false 1 (pos 0)

-- an extent or a cell's index as a float
unfoldable pub number_f : Format → ℕ → Float
number_f f n = of_int f (pos n)

-- |x|: the sign goes, also a zero's
unfoldable pub mag : Float → Float
mag nan = nan
mag (inf s) = inf false
mag (fin s m e) = fin false m e

unfoldable pub all_finite : List Float → Bool
all_finite [] = true
all_finite (x ∷ xs) = finite x && all_finite xs
