-- From what can be said of a float, that it is a whole multiple of the unit and of no great size, to its number of
-- units. Assumes nothing.
use Rattle.std.specs.Prelude.{◌≡◌, refl, ℕ, ◌+◌, ◌*◌, ◌/◌, ◌%◌, ◌^◌, ◌<◌, Bool, true, false, cond, T, Float}
use Rattle.std.proofs.Common.{sym, ap, ◌∙◌, div-add-mod', add-zero, arith, eqb→eq, pow_pos}
use Rattle.std.specs.Float.{nan, inf, fin, Format}
use Rattle.std.specs.Float.Ieee.{prec, up, down, fits}
use Rattle.std.specs.Float.Ieee.Fits.{round-fits}
use Rattle.std.specs.Float.Ieee.Exact.{HasValue}
use Rattle.laws.specs.Floats.OneForm.{value_unique}
use Rattle.theorems.specs.PromiseThree.Dyadic.{Units, Signed, at, at_val}
use Rattle.theorems.specs.PromiseThree.{places, multiple}

-- how many units, and the sign
abbrev pub many : Format → Float → ℕ
many f nan = 0
many f (inf s) = 0
many f (fin s m e) = m * up e * 2 ^ places f / down e

abbrev pub negative : Float → Bool
negative nan = false
negative (inf s) = s
negative (fin s m e) = s

-- ---- a multiple is its number of units
pub own_value : (f : Format) (x : Float) → T (multiple f x) → HasValue x (negative x) (many f x) (2 ^ places f)
unfolding multiple
own_value f nan t = absurd t
own_value f (inf s) t = absurd t
own_value f (fin s m e) t = (
  refl,
  sym (div-add-mod' (m * up e * 2 ^ places f) (down e)) ∙ ap (λ (x : ℕ). m * up e * 2 ^ places f / down e * down e + x) (eqb→eq (m * up e * 2 ^ places f % down e) 0 t)
      ∙ add-zero (m * up e * 2 ^ places f / down e * down e),
)

pub multiple_is : (f : Format) (x : Float) → T (fits f x) → T (multiple f x) → many f x < 2 ^ prec f → x ≡ at f (negative x) (many f x)
multiple_is f x p t h =
    value_unique f x (at f (negative x) (many f x)) (negative x) (many f x) (2 ^ places f) (pow_pos (places f)) p
    (round-fits f (negative x) (many f x) (2 ^ places f)) (own_value f x t) (at_val f (negative x) (many f x) h)

-- the two numbers whose difference it is
abbrev pub plus : Format → Float → ℕ
plus f x = cond (negative x) 0 (many f x)

abbrev pub less : Format → Float → ℕ
less f x = cond (negative x) (many f x) 0

pub multiple-units : (f : Format) (x : Float) → T (fits f x) → T (multiple f x) → many f x < 2 ^ prec f → Units f x (plus f x) (less f x)
multiple-units f x p t h = record { sign = negative x; count = many f x; is = multiple_is f x p t h; small = h; apart = go (negative x) (many f x) }
  where
    go : (s : Bool) (n : ℕ) → Signed s n (cond s 0 n) (cond s n 0)
    go true n = omega arith
    go false n = omega arith
