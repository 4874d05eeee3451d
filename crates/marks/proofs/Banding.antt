-- The band of a place, by the layers below its cuts; and that those are few enough to be counted. Of the rules' models
-- alone, so of every format. Assumes nothing.
use Prim.Native.Nat.{ℕ, ◌*◌, ◌/◌, ◌≤◌, ◌<◌}
use mathlib.Core.List.{List, [], ◌∷◌}
use mathlib.Core.Path.{◌≡◌, refl, ap, ◌∙◌}
use native.Mathlib.Nat.{mul-one, mul-le-mul, le_trans, le_of_lt}
use native.Mathlib.Omega.{arith}
use lib.Dec.{T, ltb}
use lib.Ieee.{Float}
use borrow.Author.Tests.{lt-ltb, le-ltb}
use Rattle.rules.specs.TheGridAndItsBounds.{Pair, Model, plain_model, floor, pair_at, layer_of, last_extent, cuts_in_bounds}
use Rattle.rules.specs.MarksAndFrames.{steps_at}
use Rattle.laws.specs.Checks.{InBounds}
use Rattle.marks.proofs.BandLaws.{below_cut, cuts-below}

module _ (ex ey ez : ℕ) (inside : InBounds (ex ∷ ey ∷ ez ∷ [])) where
  abbrev es : List ℕ
  es = ex ∷ ey ∷ ez ∷ []

  -- a layer has cells, and not too many
  some-cells : 2 * 2 ≤ ex * ey
  some-cells = mul-le-mul inside.0.0 inside.0.2.0

  pub layer_most : ex * ey ≤ 4096 * 4096
  layer_most = mul-le-mul inside.0.1 inside.0.2.1

  -- a height is compared with a cut by the place
  height-below : (at cut : ℕ) → ltb (at / layer_of es) cut ≡ ltb at (cut * (ex * ey))
  unfolding layer_of
  height-below at cut = ap (λ (n : ℕ). ltb (at / (ex * n)) cut) (mul-one ey) ∙ below_cut at (ex * ey) cut (omega (arith, some-cells))

  -- three bands
  module _ (low middle high : Pair) (first second : ℕ) (ceiling : Float) where
    abbrev bands : Model
    bands =
        record {
          lowest = low;
          above = record { cut = first; pair = middle } ∷ record { cut = second; pair = high } ∷ [];
          ceiling = ceiling;
          layer = layer_of es;
        }

    -- the layers below a cut have not too many cells either
    pub cuts-most : T (cuts_in_bounds es bands) → (first * (ex * ey) ≤ 4096 * (4096 * 4096)) × (second * (ex * ey) ≤ 4096 * (4096 * 4096))
    unfolding last_extent
    cuts-most t =
        let c = cuts-below es bands t in
        let z = inside.0.2.2.1 in
        (mul-le-mul (le_trans (le_of_lt c.0) z) layer_most, mul-le-mul (le_trans (le_of_lt c.1.0) z) layer_most)

    pub steps_low : (at : ℕ) → at < first * (ex * ey) → steps_at (plain_model low ceiling) at ≡ steps_at bands at
    unfolding steps_at pair_at floor
    steps_low at l = rw (height-below at first ∙ lt-ltb at (first * (ex * ey)) l) refl

    pub steps_middle : (at : ℕ) → first * (ex * ey) ≤ at → at < second * (ex * ey) → steps_at (plain_model middle ceiling) at ≡ steps_at bands at
    unfolding steps_at pair_at floor
    steps_middle at l u =
        rw (height-below at first ∙ le-ltb at (first * (ex * ey)) l, height-below at second ∙ lt-ltb at (second * (ex * ey)) u) refl

    pub steps_high : (at : ℕ) → first * (ex * ey) ≤ at → second * (ex * ey) ≤ at → steps_at (plain_model high ceiling) at ≡ steps_at bands at
    unfolding steps_at pair_at floor
    steps_high at l u =
        rw (height-below at first ∙ le-ltb at (first * (ex * ey)) l, height-below at second ∙ le-ltb at (second * (ex * ey)) u) refl
