-- Points tried and clipped axis by axis, in every format: what the code's answer of the first axis says of the point.
-- Assumes nothing.
use Rattle.std.proofs.Common.{◌≡◌, ℕ, Bool, true, false, ◌&&◌, List, [], ◌∷◌, sym, ◌∙◌}
use mathlib.Core.Bool.{and-true, or-false}
use lib.Ieee.{Float, Format, lt, le}
use lib.Ieee.Scale.{finite}
use Rattle.rules.specs.Floats.{one_f, number_f, all_finite}
use Rattle.rules.specs.Coordinates.{within}
use Rattle.rules.specs.OneBeam.{larger_of, smaller_of, all_within, both_beyond, is_inside}

-- ---- the larger and the smaller of two
module _ (a b : Float) where
  pub larger-other : lt a b ≡ true → b ≡ larger_of a b
  unfolding larger_of
  larger-other h = rw h

  pub larger-first : lt a b ≡ false → a ≡ larger_of a b
  unfolding larger_of
  larger-first h = rw h

  pub smaller_other : lt b a ≡ true → b ≡ smaller_of a b
  unfolding smaller_of
  smaller_other h = rw h

  pub smaller_first : lt b a ≡ false → a ≡ smaller_of a b
  unfolding smaller_of
  smaller_first h = rw h

-- ---- all finite: r is the code's answer of the first coordinate
module _ (x : Float) {r : Bool} (t : r ≡ finite x) where
  pub not-all-finite : (xs : List Float) → r ≡ false → false ≡ all_finite (x ∷ xs)
  unfolding all_finite
  not-all-finite xs h = simp (sym t ∙ h)

  pub finite_then : (xs : List Float) {b : Bool} → r ≡ true → b ≡ all_finite xs → b ≡ all_finite (x ∷ xs)
  unfolding all_finite
  finite_then xs h e = simp (sym t ∙ h, e)

  pub last-finite : r ≡ all_finite (x ∷ [])
  unfolding all_finite
  last-finite = simp (and-true, t)

-- ---- all within the map
module _ (f : Format) (n : ℕ) (x : Float) {r : Bool} (t : r ≡ within f n x) where
  pub not-all-within : (es : List ℕ) (xs : List Float) → r ≡ false → false ≡ all_within f (n ∷ es) (x ∷ xs)
  unfolding all_within
  not-all-within es xs h = simp (sym t ∙ h)

  pub within_then : (es : List ℕ) (xs : List Float) {b : Bool} → r ≡ true → b ≡ all_within f es xs → b ≡ all_within f (n ∷ es) (x ∷ xs)
  unfolding all_within
  within_then es xs h e = simp (sym t ∙ h, e)

  pub last_within : r ≡ all_within f (n ∷ []) (x ∷ [])
  unfolding all_within
  last_within = simp (and-true, t)

-- ---- both ends beyond an upper face
module _ (f : Format) (n : ℕ) (x y : Float) {r : Bool} (t : r ≡ (le (number_f f n) x && le (number_f f n) y)) where
  pub beyond_one : (es : List ℕ) (xs ys : List Float) → r ≡ true → true ≡ both_beyond f (n ∷ es) (x ∷ xs) (y ∷ ys)
  unfolding both_beyond
  beyond_one es xs ys h = simp (sym t ∙ h)

  pub beyond_then : (es : List ℕ) (xs ys : List Float) {b : Bool} → r ≡ false → b ≡ both_beyond f es xs ys → b ≡ both_beyond f (n ∷ es) (x ∷ xs) (y ∷ ys)
  unfolding both_beyond
  beyond_then es xs ys h e = simp (sym t ∙ h, e)

  pub last_beyond : r ≡ both_beyond f (n ∷ []) (x ∷ []) (y ∷ [])
  unfolding both_beyond
  last_beyond = simp (or-false, t)

-- ---- whether the endpoint is on the map: o is the code's one, b its answer of the point
module _ (f : Format) (es : List ℕ) (t : Float) (exit : List Float) {o : Float} (one : o ≡ one_f) where
  pub reaches : {b : Bool} → le o t ≡ true → b ≡ all_within f es exit → b ≡ is_inside f es t exit
  unfolding is_inside
  reaches h e = simp (rw one at h, e)

  pub stops-short : le o t ≡ false → false ≡ is_inside f es t exit
  unfolding is_inside
  stops-short h = simp (rw one at h)
