-- Requirements, "The line": the plotter between two points, over any number of axes. Definitions only.
use Rattle.std.specs.Prelude.{ℕ, zero, suc, ◌-◌, Bool, true, false, cond, ◌||◌, List, [], ◌∷◌, map, ℤ, eqb, leb, length, Float}
use Rattle.std.specs.Float.{Format}
use Rattle.std.specs.Float.Ieee.{add, sub, neg, div, lt, le, eq, to_unsigned}
use Rattle.rules.specs.Floats.{zero_f, one_f, number_f, mag, all_finite}
use Rattle.rules.specs.RefusalNumbers.{Answer, given, refused, ray}
use Rattle.rules.specs.Coordinates.{truncated_point}

-- what a line keeps of one axis, and the line: the original's fields
pub record Axis : Type 0 where
  pub current : Float
  pub end : Float
  pub increment : Float
  pub step : Float
  pub error : Float

pub record Line : Type 0 where
  pub axes : List Axis
  pub primary : ℕ
  pub threshold : Float
  pub remaining : ℕ

-- "Deltas are |end-start|; any not finite is refused with 7."
unfoldable pub delta : Format → Float → Float → Float
delta f x y = mag (sub f y x)

unfoldable pub deltas : Format → List Float → List Float → List Float
deltas f [] ys = []
deltas f (x ∷ xs) [] = []
deltas f (x ∷ xs) (y ∷ ys) = delta f x y ∷ deltas f xs ys

-- "Primary: largest delta, last of equals."
pub record Primary : Type 0 where
  pub axis : ℕ
  pub delta : Float

unfoldable pub larger : ℕ → Float → Primary → Primary
larger k d best = cond (le best.delta d) (record { axis = k; delta = d }) best

unfoldable pub primary_from : ℕ → Primary → List Float → Primary
primary_from k best [] = best
primary_from k best (d ∷ ds) = primary_from (suc k) (larger k d best) ds

unfoldable pub primary_of : List Float → Primary
primary_of ds = primary_from 0 (record { axis = 0; delta = zero_f }) ds

-- "Increment = delta / primary delta, all 0 if that is 0."
unfoldable pub increment : Format → Float → Float → Float
increment f p d = cond (eq p zero_f) zero_f (div f d p)

-- "Step +1 where end > start, else -1."
unfoldable pub step_to : Float → Float → Float
step_to x y = cond (lt x y) one_f (neg one_f)

unfoldable pub axis_of : Format → Float → Float → Float → Axis
axis_of f p x y = record { current = x; end = y; increment = increment f p (delta f x y); step = step_to x y; error = zero_f }

unfoldable pub axes_of : Format → Float → List Float → List Float → List Axis
axes_of f p [] ys = []
axes_of f p (x ∷ xs) [] = []
axes_of f p (x ∷ xs) (y ∷ ys) = axis_of f p x y ∷ axes_of f p xs ys

-- "Threshold = 1 - 1/(N+1)."
unfoldable pub threshold_of : Format → ℕ → Float
threshold_of f n = sub f one_f (div f one_f (number_f f (suc n)))

-- "Cells yielded: truncation of (primary delta + 1), saturating at 2^64 - 1."
unfoldable pub cells_yielded : Format → Float → ℕ
cells_yielded f p = to_unsigned 64 (add f p one_f)

unfoldable pub line_between : Format → Primary → List Float → List Float → Line
line_between f p xs ys =
    record {
      axes = axes_of f p.delta xs ys;
      primary = p.axis;
      threshold = threshold_of f (length xs);
      remaining = cells_yielded f p.delta;
    }

unfoldable pub plotter : Format → List Float → List Float → Answer Line
plotter f xs ys = cond (all_finite (deltas f xs ys)) (given (line_between f (primary_of (deltas f xs ys)) xs ys)) (refused ray)

-- "every other axis adds its increment to its error, and at error >= threshold moves one step and takes 1 off"
unfoldable pub other_after : Format → Float → Axis → Axis
other_after f t a =
    let e : Float = add f a.error a.increment in
    cond (le t e)
    (record { current = add f a.current a.step; end = a.end; increment = a.increment; step = a.step; error = sub f e one_f })
    (record { current = a.current; end = a.end; increment = a.increment; step = a.step; error = e })

-- "the primary moves one step"
unfoldable pub primary_after : Format → Axis → Axis
primary_after f a =
    record { current = add f a.current a.step; end = a.end; increment = a.increment; step = a.step; error = a.error }

unfoldable pub axis_after : Format → ℕ → ℕ → Float → Axis → Axis
axis_after f k p t a = cond (eqb k p) (primary_after f a) (other_after f t a)

unfoldable pub axes_after : Format → ℕ → ℕ → Float → List Axis → List Axis
axes_after f k p t [] = []
axes_after f k p t (a ∷ as') = axis_after f k p t a ∷ axes_after f (suc k) p t as'

-- a step yields a cell and the line after it, or none
pub data Step : Type 0 where
  yields : List ℤ → Line → Step
  none : Step

abbrev pub currents : List Axis → List Float
currents as' = map (λ (a : Axis). a.current) as'

abbrev pub ends : List Axis → List Float
ends as' = map (λ (a : Axis). a.end) as'

-- "The last cell is the truncated end."
unfoldable pub last_step : Line → Step
last_step l =
    yields (truncated_point (ends l.axes)) (record { axes = l.axes; primary = l.primary; threshold = l.threshold; remaining = 0 })

-- "Each but the last is the truncated current point; afterwards every other axis .. the primary moves one step."
unfoldable pub earlier_step : Format → Line → Step
earlier_step f l =
    yields (truncated_point (currents l.axes))
    (record {
      axes = axes_after f 0 l.primary l.threshold l.axes;
      primary = l.primary;
      threshold = l.threshold;
      remaining = l.remaining - 1;
    })

-- "A step past the last cell, or on a line whose primary is not below N (added), yields none and leaves the line
-- unchanged."
unfoldable pub step_of : Format → Line → Step
step_of f l =
    cond (eqb l.remaining 0 || leb (length l.axes) l.primary) none
    (cond (eqb l.remaining 1) (last_step l) (earlier_step f l))

-- the cells in order: at most n steps of the line
abbrev pub and_on : Step → (Line → List (List ℤ)) → List (List ℤ)
and_on (yields c l) go = c ∷ go l
and_on none go = []

unfoldable pub cells_within : Format → ℕ → Line → List (List ℤ)
cells_within f zero l = []
cells_within f (suc n) l = and_on (step_of f l) (λ m. cells_within f n m)

unfoldable pub line_cells : Format → Line → List (List ℤ)
line_cells f l = cells_within f l.remaining l
