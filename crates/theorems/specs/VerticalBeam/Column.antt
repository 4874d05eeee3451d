-- The line straight up a column, from one cell's centre to another's: its third axis is the primary, the other two have
-- no increment and never move, and each step is one cell. Of every format. Assumes nothing.
use Rattle.std.specs.Prelude.{◌≡◌, Bool, ◌&&◌, ℤ, pos, ltb, leb, Float}
use Rattle.std.proofs.Math.Path.{refl, ap, ap₂}
use Rattle.std.proofs.Common.{sym, ◌∙◌, zero-lt-suc, arith}
use mathlib.Core.List.{List, [], ◌∷◌, ◌++◌}
use Rattle.std.proofs.Math.Bool.{true, false, cond}
use Prim.Native.Nat.{ℕ, zero, suc, ◌+◌, ◌-◌, ◌*◌, ◌≤◌, ◌<◌}
use borrow.Author.Tests.{lt-ltb, le-ltb, le-leb, eq-eqb, ne_eqb}
use Rattle.std.proofs.Math.Dec.{eqb}
use Rattle.std.specs.Float.{Format, binary32, binary64}
use Rattle.std.specs.Float.Ieee.{add, sub, neg, sum, div, lt, le, eq, round, of_int, to_unsigned}
use Rattle.std.specs.Float.Ieee.Scale.{finite}
use Rattle.rules.specs.Floats.{zero_f, one_f, number_f, mag, all_finite}
use Rattle.rules.specs.RefusalNumbers.{given, refused, ray, and_then}
use Rattle.rules.specs.TheGridAndItsBounds.{most_extent, strides}
use Rattle.rules.specs.Coordinates.{truncated, truncated_point, flat_index, along, on_grid_from, off_axes, times_strides}
use Rattle.rules.specs.TheLine.{Axis, Line, Primary, delta, deltas, larger, primary_from, primary_of, increment, step_to, axis_of, axes_of}
use Rattle.rules.specs.TheLine.{threshold_of, cells_yielded, line_between, plotter, other_after, primary_after, axis_after, axes_after, ends, currents, line_cells}
use Rattle.rules.specs.MarksAndFrames.{Mark}
use Rattle.rules.specs.OneBeam.{mark_of, marks_along}
use Rattle.rules.specs.VerticalBeam.{column_place, column_marks}
use Rattle.laws.specs.LineSteps.{line_after, line_ended, goes_on, ends_here, one_more_cell, no_cells}
use Rattle.vertical.proofs.InProfile.{on-grid}
use Rattle.theorems.specs.VerticalBeam.Halves.{half, most_halves, half_value, no_halves, two_halves, add_halves, sub_halves, div_nothing, lt_halves}
use Rattle.theorems.specs.VerticalBeam.Halves.{eq_halves, le_halves, mag_halves, finite_halves, centre-cell, whole_count}

-- a cell's centre, in halves
abbrev pub centre : Format → ℕ → Float
centre f n = half f (2 * n + 1)

-- an axis that never moves, and the one that goes up: its increment and its step do not matter where no step is taken
abbrev stays : Format → ℕ → Axis
stays f c = record { current = centre f c; end = centre f c; increment = zero_f; step = neg one_f; error = zero_f }

abbrev climbs : Format → ℕ → ℕ → Float → Float → Axis
climbs f z end i s = record { current = centre f z; end = centre f end; increment = i; step = s; error = zero_f }

abbrev column : Format → ℕ → ℕ → ℕ → ℕ → Float → Float → ℕ → Line
column f x y z end i s n =
    record { axes = stays f x ∷ stays f y ∷ climbs f z end i s ∷ []; primary = 2; threshold = threshold_of f 3; remaining = suc n }

-- ---- a step
above_nothing : (f : Format) → le (threshold_of f 3) zero_f ≡ false
unfolding le lt eq threshold_of sub add neg sum div round number_f of_int
above_nothing binary32 = refl
above_nothing binary64 = refl

no_error : (f : Format) → add f zero_f zero_f ≡ zero_f
no_error f = ap₂ (add f) (sym (no_halves f)) (sym (no_halves f)) ∙ add_halves f 0 0 (omega arith) (omega arith) ∙ no_halves f

still : (f : Format) (c : ℕ) → other_after f (threshold_of f 3) (stays f c) ≡ stays f c
unfolding other_after
still f c =
    ap (λ (e : Float). cond {A = Axis} (le (threshold_of f 3) e)
    (record { current = add f (centre f c) (neg one_f); end = centre f c; increment = zero_f; step = neg one_f; error = sub f e one_f })
    (record { current = centre f c; end = centre f c; increment = zero_f; step = neg one_f; error = e }))
    (no_error f)
    ∙ ap (λ (b : Bool). cond {A = Axis} b
    (record { current = add f (centre f c) (neg one_f); end = centre f c; increment = zero_f; step = neg one_f; error = sub f zero_f one_f }) (stays f c))
    (above_nothing f)

one_up : (f : Format) (z : ℕ) → z ≤ most_extent → add f (centre f z) one_f ≡ centre f (suc z)
one_up f z h =
    ap (add f (centre f z)) (sym (two_halves f)) ∙ add_halves f (2 * z + 1) 2 (omega arith) (omega arith) ∙ ap (half f) (omega arith)

climbed : (f : Format) (z end : ℕ) (i : Float) → z ≤ most_extent → primary_after f (climbs f z end i one_f) ≡ climbs f (suc z) end i one_f
unfolding primary_after
climbed f z end i h = ap (λ (c : Float). record { current = c; end = centre f end; increment = i; step = one_f; error = zero_f }) (one_up f z h)

after_step : (f : Format) (x y z end : ℕ) (i : Float) (n : ℕ) → z ≤ most_extent
    → line_after f (column f x y z end i one_f (suc n)) ≡ column f x y (suc z) end i one_f n
unfolding axes_after axis_after
after_step f x y z end i n h =
    ap₂ (λ (a b : Axis). record { axes = a ∷ b ∷ primary_after f (climbs f z end i one_f) ∷ []; primary = 2; threshold = threshold_of f 3; remaining = suc (suc n) - 1 })
    (still f x) (still f y)
    ∙ ap₂ (λ (a : Axis) (k : ℕ). record { axes = stays f x ∷ stays f y ∷ a ∷ []; primary = 2; threshold = threshold_of f 3; remaining = k })
    (climbed f z end i h) (omega arith)

-- ---- the cells
abbrev cell : ℕ → ℕ → ℕ → List ℤ
cell x y z = pos x ∷ pos y ∷ pos z ∷ []

abbrev pub column_cells : ℕ → ℕ → ℕ → ℕ → List (List ℤ)
column_cells x y z zero = cell x y z ∷ []
column_cells x y z (suc n) = cell x y z ∷ column_cells x y (suc z) n

at_centres : (f : Format) (x y z : ℕ) → x ≤ most_extent → y ≤ most_extent → z ≤ most_extent
    → truncated_point (centre f x ∷ centre f y ∷ centre f z ∷ []) ≡ cell x y z
unfolding truncated_point
at_centres f x y z hx hy hz =
    ap₂ (λ (i j : ℤ). i ∷ j ∷ truncated (centre f z) ∷ []) (centre-cell f x hx) (centre-cell f y hy)
    ∙ ap (λ (k : ℤ). pos x ∷ pos y ∷ k ∷ []) (centre-cell f z hz)

cells_up : (f : Format) (x y z end : ℕ) (i s : Float) (n : ℕ) → x ≤ most_extent → y ≤ most_extent → end ≤ most_extent → z + n ≡ end → (0 < n → s ≡ one_f)
    → line_cells f (column f x y z end i s n) ≡ column_cells x y z n
cells_up f x y z end i s zero hx hy hz e u =
    let l = column f x y z end i s 0 in
    one_more_cell f l (line_ended l) _ (ends_here f l (omega arith) refl)
    ∙ ap₂ (λ (c : List ℤ) (cs : List (List ℤ)). c ∷ cs)
    (at_centres f x y end hx hy hz ∙ ap (cell x y) (omega arith)) (no_cells f (line_ended l) refl)
cells_up f x y z end i s (suc n) hx hy hz e u =
    let l = column f x y z end i one_f (suc n) in
    ap (λ (t : Float). line_cells f (column f x y z end i t (suc n))) (u (zero-lt-suc n))
    ∙ one_more_cell f l (line_after f l) _ (goes_on f l (omega arith) (omega arith))
    ∙ ap₂ (λ (c : List ℤ) (m : Line). c ∷ line_cells f m) (at_centres f x y z hx hy (omega arith)) (after_step f x y z end i n (omega arith))
    ∙ ap (λ (cs : List (List ℤ)). cell x y z ∷ cs) (cells_up f x y (suc z) end i one_f n hx hy hz (omega arith) (λ p. refl))

-- ---- the line that the plotter draws
module _ (f : Format) (x y z n : ℕ) (hx : x ≤ most_extent) (hy : y ≤ most_extent) (hz : z + n < most_extent) where
  abbrev start : List Float
  start = centre f x ∷ centre f y ∷ centre f z ∷ []

  abbrev finish : List Float
  finish = centre f x ∷ centre f y ∷ centre f (z + n) ∷ []

  flat : (c : ℕ) → c ≤ most_extent → delta f (centre f c) (centre f c) ≡ zero_f
  unfolding delta
  flat c h =
      ap mag (sub_halves f (2 * c + 1) (2 * c + 1) (omega arith) (omega arith)) ∙ mag_halves f (2 * c + 1 - (2 * c + 1))
      ∙ ap (half f) (omega arith) ∙ no_halves f

  steep : delta f (centre f z) (centre f (z + n)) ≡ half f (2 * n)
  unfolding delta
  steep =
      ap mag (sub_halves f (2 * (z + n) + 1) (2 * z + 1) (omega arith) (omega arith)) ∙ mag_halves f (2 * (z + n) + 1 - (2 * z + 1)) ∙ ap (half f) (omega arith)

  deltas_are : deltas f start finish ≡ zero_f ∷ zero_f ∷ half f (2 * n) ∷ []
  unfolding deltas
  deltas_are =
      ap₂ (λ (a b : Float). a ∷ b ∷ delta f (centre f z) (centre f (z + n)) ∷ []) (flat x hx) (flat y hy) ∙ ap (λ (c : Float). zero_f ∷ zero_f ∷ c ∷ []) steep

  deltas-finite : all_finite (zero_f ∷ zero_f ∷ half f (2 * n) ∷ []) ≡ true
  unfolding all_finite
  deltas-finite = ap (λ (b : Bool). b && true) (finite_halves f (2 * n) (omega arith))

  highest : primary_of (zero_f ∷ zero_f ∷ half f (2 * n) ∷ []) ≡ record { axis = 2; delta = half f (2 * n) }
  unfolding primary_of primary_from larger le
  highest = ap (λ (b : Bool). cond b (record { axis = 2; delta = half f (2 * n) }) (record { axis = 1; delta = zero_f })) up
    where
      up : le zero_f (half f (2 * n)) ≡ true
      up = ap (λ (a : Float). le a (half f (2 * n))) (sym (no_halves f)) ∙ le_halves f 0 (2 * n) (omega arith) (omega arith) ∙ le-leb 0 (2 * n) (omega arith)

  no_increment : increment f (half f (2 * n)) zero_f ≡ zero_f
  unfolding increment
  no_increment = ap (λ (b : Bool). cond b zero_f (div f zero_f (half f (2 * n)))) level_is ∙ go n (omega arith)
    where
      level_is : eq (half f (2 * n)) zero_f ≡ eqb (2 * n) 0
      level_is = ap (eq (half f (2 * n))) (sym (no_halves f)) ∙ eq_halves f (2 * n) 0 (omega arith) (omega arith)

      go : (k : ℕ) → 2 * k ≤ most_halves → cond (eqb (2 * k) 0) zero_f (div f zero_f (half f (2 * k))) ≡ zero_f
      go zero h = refl
      go (suc k) h =
          ap (λ (b : Bool). cond b zero_f (div f zero_f (half f (2 * suc k)))) (ne_eqb (2 * suc k) 0 (λ e. omega arith))
          ∙ div_nothing f (half f (2 * suc k)) (2 * suc k) (omega arith) (half_value f (2 * suc k) h)

  no_step : (c : ℕ) → c ≤ most_extent → step_to (centre f c) (centre f c) ≡ neg one_f
  unfolding step_to
  no_step c h =
      ap (λ (b : Bool). cond b one_f (neg one_f)) (lt_halves f (2 * c + 1) (2 * c + 1) (omega arith) (omega arith) ∙ le-ltb (2 * c + 1) (2 * c + 1) (omega arith))

  up_step : 0 < n → step_to (centre f z) (centre f (z + n)) ≡ one_f
  unfolding step_to
  up_step h =
      ap (λ (b : Bool). cond b one_f (neg one_f)) (lt_halves f (2 * z + 1) (2 * (z + n) + 1) (omega arith) (omega arith) ∙ lt-ltb (2 * z + 1) (2 * (z + n) + 1) (omega arith))

  flat-axis : (c : ℕ) → c ≤ most_extent → axis_of f (half f (2 * n)) (centre f c) (centre f c) ≡ stays f c
  unfolding axis_of
  flat-axis c h =
      ap₂ (λ (i s : Float). record { current = centre f c; end = centre f c; increment = i; step = s; error = zero_f })
      (ap (increment f (half f (2 * n))) (flat c h) ∙ no_increment) (no_step c h)

  abbrev slope : Float
  slope = increment f (half f (2 * n)) (delta f (centre f z) (centre f (z + n)))

  abbrev risen : Float
  risen = step_to (centre f z) (centre f (z + n))

  yielded : cells_yielded f (half f (2 * n)) ≡ suc n
  unfolding cells_yielded
  yielded =
      ap (to_unsigned 64) (ap (add f (half f (2 * n))) (sym (two_halves f)) ∙ add_halves f (2 * n) 2 (omega arith) (omega arith) ∙ ap (half f) (omega arith))
      ∙ whole_count f (suc n) (omega arith)

  abbrev between : Axis → Axis → ℕ → Line
  between a b k = record { axes = a ∷ b ∷ climbs f z (z + n) slope risen ∷ []; primary = 2; threshold = threshold_of f 3; remaining = k }

  drawn : plotter f start finish ≡ given (column f x y z (z + n) slope risen n)
  unfolding plotter line_between axes_of axis_of
  drawn =
      ap (λ (ds : List Float). cond (all_finite ds) (given (line_between f (primary_of ds) start finish)) (refused ray)) deltas_are
      ∙ ap₂ (λ (b : Bool) (p : Primary). cond b (given (line_between f p start finish)) (refused ray)) deltas-finite highest
      ∙ ap₂ (λ (a b : Axis). given (between a b (cells_yielded f (half f (2 * n))))) (flat-axis x hx) (flat-axis y hy)
      ∙ ap (λ (k : ℕ). given (between (stays f x) (stays f y) k)) yielded

  pub line-up : (es : List ℕ) (last : Bool)
      → and_then (plotter f start finish) (λ l. given (marks_along es last (line_cells f l))) ≡ given (marks_along es last (column_cells x y z n))
  line-up es last =
      ap (λ a. and_then a (λ (l : Line). given (marks_along es last (line_cells f l)))) drawn
      ∙ ap (λ (cs : List (List ℤ)). given (marks_along es last cs)) (cells_up f x y z (z + n) slope risen n hx hy (omega arith) refl up_step)

-- ---- the marks
module _ (ex ey ez : ℕ) (last : Bool) (x y : ℕ) (hx : x < ex) (hy : y < ey) where
  not_last : (c : List ℤ) (z n : ℕ) → marks_along (ex ∷ ey ∷ ez ∷ []) last (c ∷ column_cells x y z n)
      ≡ mark_of false (flat_index (ex ∷ ey ∷ ez ∷ []) c) ++ marks_along (ex ∷ ey ∷ ez ∷ []) last (column_cells x y z n)
  unfolding marks_along
  not_last c z zero = refl
  not_last c z (suc n) = refl

  pub marks_up : (z n : ℕ) → z + n < ez → marks_along (ex ∷ ey ∷ ez ∷ []) last (column_cells x y z n) ≡ column_marks (ex ∷ ey ∷ ez ∷ []) x y last z n
  unfolding marks_along column_marks
  marks_up z zero h = ap (mark_of last) (on-grid ex ey ez x y z hx hy (omega arith))
  marks_up z (suc n) h =
      not_last (cell x y z) (suc z) n
      ∙ ap₂ (λ a (xs : List Mark). mark_of false a ++ xs) (on-grid ex ey ez x y z hx hy (omega arith)) (marks_up (suc z) n (omega arith))
