-- One axis of a line in every format, by the tests that the code made of it: z and o are the code's zero and one.
-- Assumes nothing.
use Prim.Native.Nat.{ℕ}
use mathlib.Core.Bool.{true, false}
use mathlib.Core.Path.{◌≡◌}
use lib.Ieee.{Float, Format, add, sub, div, neg, lt, le, eq, to_unsigned}
use borrow.Author.Tests.{eq-eqb, ne_eqb}
use Rattle.rules.specs.Floats.{zero_f, one_f}
use Rattle.rules.specs.TheLine.{Axis, Primary, delta, larger, increment, step_to, axis_of, cells_yielded, primary_after, other_after, axis_after}
use Rattle.laws.specs.Following.{axis_moves}

-- ---- set up between two coordinates
module _ (k : ℕ) (d : Float) (best : Primary) where
  pub takes_over : le best.delta d ≡ true → record { axis = k; delta = d } ≡ larger k d best
  unfolding larger
  takes_over h = simp h

  pub stays_best : le best.delta d ≡ false → best ≡ larger k d best
  unfolding larger
  stays_best h = simp h

module _ (x y : Float) {o : Float} (one : o ≡ one_f) where
  pub steps_up : lt x y ≡ true → o ≡ step_to x y
  unfolding step_to
  steps_up h = simp (one, h)

  pub steps_down : lt x y ≡ false → neg o ≡ step_to x y
  unfolding step_to
  steps_down h = simp (one, h)

module _ (f : Format) where
  module _ (longest d : Float) {z : Float} (zero : z ≡ zero_f) where
    pub adds_nothing : eq longest z ≡ true → z ≡ increment f longest d
    unfolding increment
    adds_nothing h = simp (zero, rw zero at h)

    pub adds_its_part : eq longest z ≡ false → div f d longest ≡ increment f longest d
    unfolding increment
    adds_its_part h = simp (rw zero at h)

  -- d, i and s are what the code's calls answered
  pub axis_is : (longest x y : Float) {z d i s : Float} → z ≡ zero_f → d ≡ delta f x y → i ≡ increment f longest d → s ≡ step_to x y
      → record { current = x; end = y; increment = i; step = s; error = z } ≡ axis_of f longest x y
  unfolding axis_of
  axis_is longest x y z d i s = simp (z, s, i, d)

  pub yielded : (longest : Float) {o : Float} {n : ℕ} → o ≡ one_f → n ≡ to_unsigned 64 (add f longest o) → n ≡ cells_yielded f longest
  unfolding cells_yielded
  yielded longest one h = simp (h, one)

  -- ---- a step
  module _ (t : Float) (a : Axis) where
    abbrev reached : Float
    reached = add f a.error a.increment

    pub moves_across : {o : Float} → o ≡ one_f → le t reached ≡ true
        → record { current = add f a.current a.step; end = a.end; increment = a.increment; step = a.step; error = sub f reached o } ≡ other_after f t a
    unfolding other_after
    moves_across one h = simp (one, h)

    pub waits : le t reached ≡ false
        → record { current = a.current; end = a.end; increment = a.increment; step = a.step; error = reached } ≡ other_after f t a
    unfolding other_after
    waits h = simp h

    module _ (k p : ℕ) where
      pub as_primary : {r : Axis} → k ≡ p → r ≡ primary_after f a → r ≡ axis_after f k p t a
      unfolding axis_after
      as_primary h e = simp (eq-eqb _ _ h, e)

      pub as_other : {r : Axis} → (k ≡ p → ⊥) → r ≡ other_after f t a → r ≡ axis_after f k p t a
      unfolding axis_after
      as_other h e = simp (ne_eqb _ _ h, e)

      pub moves_always : k ≡ p → true ≡ axis_moves f k p t a
      moves_always h = simp (eq-eqb _ _ h)

      pub moves_at : (k ≡ p → ⊥) → le t reached ≡ axis_moves f k p t a
      moves_at h = simp (ne_eqb _ _ h)
