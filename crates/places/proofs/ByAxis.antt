-- The cell that contains a point, in every format, and the place of a cell, over any number of axes: one axis by the
-- code's tests, and the axes one after the other by what the code's calls answered. Assumes nothing.
use Rattle.std.proofs.Common.{◌≡◌, ℕ, suc, Bool, true, false, cond, not, List, [], ◌∷◌, ℤ, sym, refl, ap, ◌∙◌}
use lib.Ieee.{Float, Format, lt, le}
use lib.Ieee.Scale.{finite}
use Rattle.rules.specs.Floats.{zero_f, number_f}
use Rattle.rules.specs.RefusalNumbers.{Answer, given, refused, Refusal, out_of_bounds, non_finite_coordinate}
use Rattle.rules.specs.Coordinates.{within, truncated, with_bit, outside_axes, axis_containing, containing_from, cell_containing, along, or_off, off_axes, on_grid_from, flat_index}

-- ---- one coordinate: z is the code's zero, and limit its extent as a float
module _ (f : Format) (e : ℕ) (x : Float) {z limit : Float} (zero : z ≡ zero_f) (l : limit ≡ number_f f e) where
  pub from-zero-on : le z x ≡ true → lt x limit ≡ within f e x
  unfolding within
  from-zero-on h = simp (rw zero at h, l)

pub under_zero : (f : Format) (e : ℕ) (x : Float) {z : Float} → z ≡ zero_f → le z x ≡ false → false ≡ within f e x
unfolding within
under_zero f e x zero h = simp (rw zero at h)

-- a and b are the code's answers whether it is finite and within, i the index that it found
module _ (f : Format) (off k e : ℕ) (x : Float) {a : Bool} (asked : a ≡ finite x) where
  pub not_finite : a ≡ false → refused (non_finite_coordinate k) ≡ axis_containing f off k e x
  unfolding axis_containing
  not_finite h = simp (sym asked ∙ h)

  module _ {b : Bool} {i : ℤ} (h : a ≡ true) (known : b ≡ within f e x) (index : i ≡ truncated x) where
    pub has_a_cell : b ≡ true → given i ≡ axis_containing f off k e x
    unfolding axis_containing
    has_a_cell g = simp (index, sym asked ∙ h, sym known ∙ g)

    pub has_none : b ≡ false → refused (out_of_bounds k i e off) ≡ axis_containing f off k e x
    unfolding axis_containing
    has_none g = simp (index, sym asked ∙ h, sym known ∙ g)

-- ---- the set of the axes that a refusal reports
module _ (f : Format) (e : ℕ) (x : Float) (others : ℕ) {a : Bool} (asked : a ≡ finite x) where
  pub with_its_bit : {b : Bool} {r : ℕ} → a ≡ true → b ≡ within f e x → r ≡ with_bit (not b) others → r ≡ cond (finite x) (with_bit (not (within f e x)) others) 0
  with_its_bit h p q = simp (q, p, sym asked ∙ h)

  pub no_axis_lem : a ≡ false → 0 ≡ cond (finite x) (with_bit (not (within f e x)) others) 0
  no_axis_lem h = simp (sym asked ∙ h)

-- ---- the axes in turn: a is what the code's call on the first of them answered, with the set that the code had found
module _ (f : Format) (k e : ℕ) (x : Float) (es : List ℕ) (xs : List Float) {off set : ℕ} {a : Answer ℤ} (found : set ≡ off) (asked : a ≡ axis_containing f set k e x) where
  answered : axis_containing f off k e x ≡ a
  answered = sym (asked ∙ ap (λ (n : ℕ). axis_containing f n k e x) found)

  pub axis_refuses : {r : Refusal} → a ≡ refused r → refused r ≡ containing_from f off k (e ∷ es) (x ∷ xs)
  unfolding containing_from
  axis_refuses p = simp (answered ∙ p)

  pub later_refuses : {i : ℤ} {r : Refusal} → a ≡ given i → refused r ≡ containing_from f off (suc k) es xs → refused r ≡ containing_from f off k (e ∷ es) (x ∷ xs)
  unfolding containing_from
  later_refuses p q = simp (answered ∙ p, ← q)

  -- j is the index as a struct holds it
  pub axis_gives : {i j : ℤ} {cs : List ℤ} → a ≡ given i → j ≡ i → given cs ≡ containing_from f off (suc k) es xs → given (j ∷ cs) ≡ containing_from f off k (e ∷ es) (x ∷ xs)
  unfolding containing_from
  axis_gives p h q = simp (answered ∙ p, ← q, h)

module _ (f : Format) where
  pub no_axes : (off k : ℕ) → given [] ≡ containing_from f off k [] []
  unfolding containing_from
  no_axes off k = refl

  pub from_first : (es : List ℕ) (xs : List Float) {a : Answer (List ℤ)} → a ≡ containing_from f (outside_axes f es xs) 0 es xs → a ≡ cell_containing f es xs
  unfolding cell_containing
  from_first es xs h = h

-- ---- the place of a cell: a is what the code's call on an axis answered, with the set that the code had found, of the
-- index j that it passed
module _ (k e : ℕ) {i j : ℤ} {off set : ℕ} {a : Answer ℕ} (found : set ≡ off) (asked : a ≡ or_off set k e j (along e j)) (same : j ≡ i) where
  pub on_axis : or_off off k e i (along e i) ≡ a
  on_axis = sym (asked ∙ ap (λ (n : ℕ). or_off n k e j (along e j)) found ∙ ap (λ (z : ℤ). or_off off k e z (along e z)) same)

module _ (off k e : ℕ) (i : ℤ) (es : List ℕ) (is : List ℤ) {r : Refusal} where
  pub off_here : or_off off k e i (along e i) ≡ refused r → refused r ≡ on_grid_from off k (e ∷ es) (i ∷ is)
  unfolding on_grid_from
  off_here h = simp h

  pub off_later : {n : ℕ} → or_off off k e i (along e i) ≡ given n → refused r ≡ on_grid_from off (suc k) es is → refused r ≡ on_grid_from off k (e ∷ es) (i ∷ is)
  unfolding on_grid_from
  off_later h q = simp (h, ← q)

pub has_no_place : (es : List ℕ) (is : List ℤ) {r : Refusal} → refused r ≡ on_grid_from (off_axes es is) 0 es is → refused r ≡ flat_index es is
unfolding flat_index
has_no_place es is h = simp (← h)
