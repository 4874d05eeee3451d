-- The limits' decimals, as the requirements print them, and the code's literals: each limit is the binary64 nearest to
-- its decimals, half a digit of 2^-52 away at most; and the code's literal is that limit. By computing. Assumes
-- nothing.
use Prim.Native.Nat.{ℕ, ◌+◌, ◌-◌, ◌*◌, ◌^◌}
use mathlib.Core.Path.{◌≡◌, refl}
use mathlib.Core.Bool.{Bool, true, ◌&&◌}
use mathlib.Core.List.{[], ◌∷◌}
use lib.Dec.{ltb}
use lib.Ieee.{Float, binary64, of_bits, neg}
use Rattle.rules.specs.LayerChart.{limits}

-- m * 2^-52 is less than half a step of 2^-52, and of a smaller float's 2^-53, from d * 10^-16
abbrev nearest : ℕ → ℕ → Bool
nearest m d = ltb (4 * (m * 10 ^ 16 - d * 2 ^ 52) + 4 * (d * 2 ^ 52 - m * 10 ^ 16)) (10 ^ 16)

pub sixteen_decimals : nearest 8763600222181975 19459101490553132 && nearest 4947709893870347 10986122886681098 && nearest 2300554088843817 5108256237659907 ≡ true
sixteen_decimals = refl

-- the code's literals, signs and order
abbrev pub ln7_code : Float
ln7_code = of_bits binary64 4611442419394828887

abbrev pub ln3_code : Float
ln3_code = of_bits binary64 4607626529066517259

abbrev pub ln5by3_code : Float
ln5by3_code = of_bits binary64 4602776327722964050

pub limits_are : limits ≡ neg ln7_code ∷ neg ln3_code ∷ neg ln5by3_code ∷ of_bits binary64 0 ∷ ln5by3_code ∷ ln3_code ∷ ln7_code ∷ []
unfolding of_bits neg
limits_are = refl
