-- A model's numbers are finite where they have their sign and size, so the tests of sign and size are all that is
-- needed. Assumes nothing.
use Rattle.std.specs.Prelude.{Bool, true, false, ◌&&◌, ◌≡◌, refl, Float}
use Rattle.std.proofs.Math.Bool.{and-false}
use Rattle.std.specs.Float.{nan, inf, fin}
use Rattle.std.specs.Float.Ieee.{lt, le, eq, neg}
use Rattle.std.specs.Float.Ieee.Scale.{finite}
use Rattle.rules.specs.Floats.{zero_f}
use Rattle.rules.specs.TheGridAndItsBounds.{Pair, most_size, pair_bounded}

-- the sizes of a pair's numbers and of the ceiling
unfoldable pub sizes_bounded : Float → Pair → Bool
sizes_bounded ceiling p = le p.occupied most_size && le (neg most_size) p.free && le ceiling most_size

positive_finite : (x : Float) → lt zero_f x ≡ true → le x most_size ≡ true → finite x ≡ true
unfolding lt le eq
positive_finite nan p q = p
positive_finite (inf true) p q = p
positive_finite (inf false) p q = q
positive_finite (fin s m e) p q = refl

negative-finite : (x : Float) → lt x zero_f ≡ true → le (neg most_size) x ≡ true → finite x ≡ true
unfolding lt le eq neg
negative-finite nan p q = p
negative-finite (inf true) p q = q
negative-finite (inf false) p q = p
negative-finite (fin s m e) p q = refl

-- three tests that follow from three others add nothing to them
nothing_added : (a b c x y z : Bool) → (x ≡ true → a ≡ true) → (y ≡ true → b ≡ true) → (z ≡ true → c ≡ true) → (a && b && c && x && y && z) ≡ (x && y && z)
nothing_added a b c false y z p q r = rw and-false
nothing_added a b c true false z p q r = rw and-false
nothing_added a b c true true false p q r = rw and-false
nothing_added a b c true true true p q r = rw (p refl, q refl, r refl)

pub bounded_by_size : (c : Float) (m : Pair) → lt zero_f m.occupied ≡ true → lt m.free zero_f ≡ true → lt zero_f c ≡ true → pair_bounded c m ≡ sizes_bounded c m
unfolding pair_bounded sizes_bounded
bounded_by_size c m p q r =
    rw (p, q, r)
    (nothing_added (finite m.occupied) (finite m.free) (finite c) (le m.occupied most_size) (le (neg most_size) m.free) (le c most_size)
    (positive_finite m.occupied p) (negative-finite m.free q) (positive_finite c r))
