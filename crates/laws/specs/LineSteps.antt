-- A line's cells, step by step: what one step gives of the cells, and of the marks of a beam along them. Over any
-- number of axes. Assumes nothing.
use Rattle.std.specs.Prelude.{ℕ, zero, suc, ◌-◌, ◌<◌, Bool, true, false, cond, ◌||◌, List, [], ◌∷◌, ◌++◌, ◌≡◌, refl, ℤ, eqb, leb, length, Float}
use Rattle.std.proofs.Common.{append-nil, sym, ap, ◌∙◌, subst, arith}
use Rattle.std.specs.Float.{Format}
use borrow.Author.Tests.{leb-false, eqb-true, eqb-false, eq-eqb, lt-leb, ne_eqb}
use Rattle.rules.specs.Coordinates.{flat_index, truncated_point}
use Rattle.rules.specs.TheLine.{Axis, Line, Step, yields, none, axes_after, currents, ends, last_step, earlier_step, step_of, and_on, cells_within, line_cells}
use Rattle.rules.specs.OneBeam.{mark_of, marks_along}

-- the line after a step that is not the last
abbrev pub line_after : Format → Line → Line
line_after f l =
    record { axes = axes_after f 0 l.primary l.threshold l.axes; primary = l.primary; threshold = l.threshold; remaining = l.remaining - 1 }

-- and the line after the last step
abbrev pub line_ended : Line → Line
line_ended l = record { axes = l.axes; primary = l.primary; threshold = l.threshold; remaining = 0 }

module _ (f : Format) (l : Line) (below : l.primary < length l.axes) where
  pub goes_on : 1 < l.remaining → step_of f l ≡ yields (truncated_point (currents l.axes)) (line_after f l)
  unfolding step_of earlier_step
  goes_on h = simp (ne_eqb l.remaining 0 (λ z. omega arith), lt-leb _ _ below, ne_eqb l.remaining 1 (λ z. omega arith))

  pub ends_here : l.remaining ≡ 1 → step_of f l ≡ yields (truncated_point (ends l.axes)) (line_ended l)
  unfolding step_of last_step
  ends_here h = simp (ne_eqb l.remaining 0 (λ z. omega arith), lt-leb _ _ below, eq-eqb l.remaining 1 h)

pub axes_kept : (f : Format) (k p : ℕ) (t : Float) (as' : List Axis) → length (axes_after f k p t as') ≡ length as'
unfolding axes_after
axes_kept f k p t [] = refl
axes_kept f k p t (a ∷ as') = ap suc (axes_kept f (suc k) p t as')

above : (n : ℕ) → (n ≡ 0 → ⊥) → n ≡ suc (n - 1)
above zero h = absurd (h refl)
above (suc n) h = omega arith

-- what a step that yields a cell shows of the line and of the line after it
pub record Stepped (l m : Line) : Type 0 where
  pub one_less : l.remaining ≡ suc m.remaining
  pub primary-kept : m.primary ≡ l.primary
  pub axes_kept : length m.axes ≡ length l.axes
  pub primary-below : l.primary < length l.axes

pub stepped : (f : Format) (l m : Line) (c : List ℤ) → step_of f l ≡ yields c m → Stepped l m
unfolding step_of last_step earlier_step
stepped f l m c e = go (eqb l.remaining 0) (leb (length l.axes) l.primary) (eqb l.remaining 1) refl refl refl e
  where
    last : Line
    last = record { axes = l.axes; primary = l.primary; threshold = l.threshold; remaining = 0 }

    earlier : Line
    earlier = record { axes = axes_after f 0 l.primary l.threshold l.axes; primary = l.primary; threshold = l.threshold; remaining = l.remaining - 1 }

    go : (a b d : Bool) → eqb l.remaining 0 ≡ a → leb (length l.axes) l.primary ≡ b → eqb l.remaining 1 ≡ d
        → cond (a || b) none (cond d (last_step l) (earlier_step f l)) ≡ yields c m → Stepped l m
    go true b d p q r h = let z : ◌≡◌ {A = ℕ} 0 1 = cc in absurd (omega arith)
    go false true d p q r h = let z : ◌≡◌ {A = ℕ} 0 1 = cc in absurd (omega arith)
    go false false true p q r h =
        let w : last ≡ m = cc in
        subst (λ (n : Line). Stepped l n) w
        (record { one_less = eqb-true l.remaining 1 r; primary-kept = refl; axes_kept = refl; primary-below = leb-false (length l.axes) l.primary q })
    go false false false p q r h =
        let w : earlier ≡ m = cc in
        let nz = eqb-false l.remaining 0 p in
        subst (λ (n : Line). Stepped l n) w
        (record {
          one_less = above l.remaining nz;
          primary-kept = refl;
          axes_kept = axes_kept f 0 l.primary l.threshold l.axes;
          primary-below = leb-false (length l.axes) l.primary q;
        })

-- a line that yields nothing has no cells
pub done : (f : Format) (l : Line) → step_of f l ≡ none → line_cells f l ≡ []
unfolding line_cells cells_within
done f l e = go l.remaining
  where
    go : (n : ℕ) → cells_within f n l ≡ []
    go zero = refl
    go (suc n) = rw e

-- a cell, and the cells of the line after it
pub one_more_cell : (f : Format) (l m : Line) (c : List ℤ) → step_of f l ≡ yields c m → line_cells f l ≡ c ∷ line_cells f m
unfolding line_cells cells_within
one_more_cell f l m c e =
    ap (λ (n : ℕ). cells_within f n l) (stepped f l m c e).one_less ∙ ap (λ (s : Step). and_on s (λ x. cells_within f m.remaining x)) e

-- a line with cells left and its primary among its axes yields one
not_done : (f : Format) (l : Line) (n : ℕ) → l.remaining ≡ suc n → l.primary < length l.axes → (c : List ℤ) × (m : Line) × (step_of f l ≡ yields c m)
unfolding step_of last_step earlier_step
not_done f l n r p = go (eqb l.remaining 1) refl
  where
    go : (d : Bool) → eqb l.remaining 1 ≡ d
        → (c : List ℤ) × (m : Line)
        × (cond (eqb l.remaining 0 || leb (length l.axes) l.primary) none (cond (eqb l.remaining 1) (last_step l) (earlier_step f l)) ≡ yields c m)
    go true e = (
      truncated_point (ends l.axes),
      record { axes = l.axes; primary = l.primary; threshold = l.threshold; remaining = 0 },
      rw (ne_eqb l.remaining 0 (λ z. omega arith), lt-leb _ _ p, e) refl,
    )
    go false e = (
      truncated_point (currents l.axes),
      record { axes = axes_after f 0 l.primary l.threshold l.axes; primary = l.primary; threshold = l.threshold; remaining = l.remaining - 1 },
      rw (ne_eqb l.remaining 0 (λ z. omega arith), lt-leb _ _ p, e) refl,
    )

pub no_cells : (f : Format) (l : Line) → l.remaining ≡ 0 → line_cells f l ≡ []
unfolding line_cells cells_within
no_cells f l r = ap (λ (n : ℕ). cells_within f n l) r

-- the mark of a step's cell, and the marks along the line after it: the last cell is the one after which nothing
-- remains
pub marks_step : (f : Format) (es : List ℕ) (last : Bool) (l m : Line) (c : List ℤ) → step_of f l ≡ yields c m
    → marks_along es last (line_cells f l) ≡ mark_of (cond (eqb m.remaining 0) last false) (flat_index es c) ++ marks_along es last (line_cells f m)
unfolding marks_along
marks_step f es last l m c e = ap (marks_along es last) (one_more_cell f l m c e) ∙ go m.remaining refl
  where
    go : (n : ℕ) → m.remaining ≡ n
        → marks_along es last (c ∷ line_cells f m) ≡ mark_of (cond (eqb m.remaining 0) last false) (flat_index es c) ++ marks_along es last (line_cells f m)
    go zero r = rw (no_cells f m r, r) (sym (append-nil (mark_of last (flat_index es c))))
    go (suc n) r =
        let s = stepped f l m c e in
        let below : m.primary < length m.axes = rw (s.primary-kept, s.axes_kept) s.primary-below in
        let t = not_done f m n r below in
        rw (one_more_cell f m t.1 t.0 t.2, ne_eqb m.remaining 0 (λ z. omega arith)) refl
