-- Bands: the pair that a cell uses passes every test that all pairs pass; with equal pairs every cell has the same
-- pair, whatever the cuts; a height is below a cut where the place lies below that many layers. Of any number of bands.
-- Assumes nothing.
use Prim.Native.Nat.{ℕ, ◌*◌, ◌/◌, ◌≤◌, ◌<◌}
use mathlib.Core.Bool.{Bool, true, false, cond}
use mathlib.Core.List.{List, [], ◌∷◌}
use mathlib.Core.Logic.{◌⊎◌, inl, inr}
use mathlib.Core.Path.{◌≡◌, refl, sym}
use native.Mathlib.Omega.{arith}
use native.Mathlib.Nat.{div-lt_iff_lt-mul, not-le_of_lt}
use lib.Dec.{T, ltb, ltb→lt}
use lib.Ieee.Fits.{and_l, and_r}
use borrow.Author.Tests.{ltb-true, ltb-false, lt-ltb, le-ltb}
use Rattle.rules.specs.TheGridAndItsBounds.{Pair, Band, Model, all_pairs, pair_at, rising, cuts_below, last_extent, cuts_in_bounds}
use Rattle.rules.specs.MapRecord.{bands_from}
use Rattle.laws.specs.Floats.Tests.{order}

either : (test : Pair → Bool) (c : Bool) (p q : Pair) → T (test p) → T (test q) → T (test (cond c p q))
either test true p q t u = t
either test false p q t u = u

pub pair_passes : (test : Pair → Bool) (height : ℕ) (p : Pair) (bs : List Band) → T (all_pairs test p bs) → T (test (pair_at height p bs))
unfolding all_pairs pair_at
pair_passes test height p [] t = t
pair_passes test height p (b ∷ bs) t =
    either test (ltb height b.cut) p (pair_at height b.pair bs) (and_l (test p) (all_pairs test b.pair bs) t)
    (pair_passes test height b.pair bs (and_r (test p) (all_pairs test b.pair bs) t))

-- bands that all have the lowest one's pair
pub one-pair : (height : ℕ) (p : Pair) (cuts : List ℕ) → pair_at height p (bands_from p cuts) ≡ p
unfolding pair_at bands_from
one-pair height p [] = refl
one-pair height p (c ∷ cs) = alike (ltb height c) (one-pair height p cs)
  where
    alike : (b : Bool) → pair_at height p (bands_from p cs) ≡ p → cond b p (pair_at height p (bands_from p cs)) ≡ p
    alike true e = refl
    alike false e = e

-- a height is a place's number of whole layers, so that comparing it with a cut needs no division
pub below_cut : (place layer cut : ℕ) → 0 < layer → ltb (place / layer) cut ≡ ltb place (cut * layer)
below_cut place layer cut some = go (ltb (place / layer) cut) refl
  where
    at_least : cut ≤ place / layer → (place < cut * layer) ⊎ (cut * layer ≤ place) → cut * layer ≤ place
    at_least l (inl h) = absurd (not-le_of_lt ((div-lt_iff_lt-mul some).1 h) l)
    at_least l (inr h) = h

    go : (b : Bool) → ltb (place / layer) cut ≡ b → b ≡ ltb place (cut * layer)
    go true e = sym (lt-ltb place (cut * layer) ((div-lt_iff_lt-mul some).0 (ltb-true (place / layer) cut e)))
    go false e = sym (le-ltb place (cut * layer) (at_least (ltb-false (place / layer) cut e) (order place (cut * layer))))

-- cuts that rise to the last extent lie below it
abbrev pub CutsBelow : List Band → ℕ → Type 0
CutsBelow [] extent = Unit {0}
CutsBelow (b ∷ bs) extent = (b.cut < extent) × CutsBelow bs extent

rising-below : (least : ℕ) (bs : List Band) (extent : ℕ) → T (rising least bs extent) → (least < extent) × CutsBelow bs extent
unfolding rising
rising-below least [] extent t = (ltb→lt least extent t, tt)
rising-below least (b ∷ bs) extent t =
    let r = rising-below b.cut bs extent (and_r (ltb least b.cut) (rising b.cut bs extent) t) in
    let l = ltb→lt least b.cut (and_l (ltb least b.cut) (rising b.cut bs extent) t) in
    (omega (arith, l, r.0), (r.0, r.1))

pub cuts-below : (es : List ℕ) (m : Model) → T (cuts_in_bounds es m) → CutsBelow m.above (last_extent es)
unfolding cuts_in_bounds
cuts-below es m t = go m.above t
  where
    go : (bs : List Band) → T (cuts_below (last_extent es) bs) → CutsBelow bs (last_extent es)
    go [] u = tt
    go (b ∷ bs) u = unfold cuts_below in (rising-below 0 (b ∷ bs) (last_extent es) u).1
