-- Marks and calls on a whole map: what they keep of its odds and stamps. Over any format. Assumes nothing.
use Rattle.std.specs.Prelude.{ℕ, zero, suc, ◌≤◌, ◌<◌, ◌≡◌, refl, leb, get_or, set, Float}
use Rattle.std.proofs.Math.Bool.{true}
use mathlib.Core.List.{List, [], ◌∷◌}
use Rattle.std.proofs.Common.{sym, subst, arith, le-leb, leb-true}
use Rattle.std.proofs.Math.ListN.{length}
use Rattle.std.specs.Float.Ieee.{nan, fits}
use Rattle.std.specs.Float.{Format}
use Rattle.rules.specs.TheGridAndItsBounds.{Model, Head, Grid, bounded}
use Rattle.rules.specs.MarksAndFrames.{frame_of, Mark, mark_at, steps_at, cell_at, with_cell, marked}
use Rattle.rules.specs.MapRecord.{from_floor_to_ceiling, odds_in_bounds}
use Rattle.rules.specs.EditionTwo.{none_above}
use Rattle.record_laws.specs.Words.{Each}
use Rattle.record_laws.specs.Each.{each_cons, each_tail, both}
use Rattle.theorems.specs.StationsLists.Words.{Call, left}
use Rattle.theorems.specs.SweepResumes.AnyCall.{calls_made}
use Rattle.theorems.specs.SweepResumes.Bounds.{mark_within, mark_fits, mark_stamp}

-- ---- one number of a list
within-at : (m : Model) (xs : List Float) (i : ℕ) → odds_in_bounds m xs ≡ true → i < length xs → from_floor_to_ceiling m (get_or xs i nan) ≡ true
unfolding odds_in_bounds
within-at m [] i e l = absurd (omega arith)
within-at m (x ∷ xs) zero e l = (both (from_floor_to_ceiling m x) (odds_in_bounds m xs) e).0
within-at m (x ∷ xs) (suc i) e l = within-at m xs i (both (from_floor_to_ceiling m x) (odds_in_bounds m xs) e).1 (omega arith)

within-set : (m : Model) (xs : List Float) (i : ℕ) (y : Float) → odds_in_bounds m xs ≡ true → (i < length xs → from_floor_to_ceiling m y ≡ true)
    → odds_in_bounds m (set xs i y) ≡ true
unfolding odds_in_bounds
within-set m [] i y e w = refl
within-set m (x ∷ xs) zero y e w = let t = both (from_floor_to_ceiling m x) (odds_in_bounds m xs) e in rw (w (omega arith), t.1) refl
within-set m (x ∷ xs) (suc i) y e w =
    let t = both (from_floor_to_ceiling m x) (odds_in_bounds m xs) e in rw t.0 (within-set m xs i y t.1 (λ l. w (omega arith)))

none-above-at : (k : ℕ) (ss : List ℕ) (i : ℕ) → none_above k ss ≡ true → frame_of (get_or ss i 0) ≤ k
unfolding none_above
none-above-at k [] i e = omega arith
none-above-at k (s ∷ ss) zero e = leb-true (frame_of s) k (both (leb (frame_of s) k) (none_above k ss) e).0
none-above-at k (s ∷ ss) (suc i) e = none-above-at k ss i (both (leb (frame_of s) k) (none_above k ss) e).1

none-above-set : (k : ℕ) (ss : List ℕ) (i stamp : ℕ) → none_above k ss ≡ true → frame_of stamp ≤ k → none_above k (set ss i stamp) ≡ true
unfolding none_above
none-above-set k [] i stamp e l = refl
none-above-set k (s ∷ ss) zero stamp e l = rw (le-leb (frame_of stamp) k l, (both (leb (frame_of s) k) (none_above k ss) e).1) refl
none-above-set k (s ∷ ss) (suc i) stamp e l =
    let t = both (leb (frame_of s) k) (none_above k ss) e in rw t.0 (none-above-set k ss i stamp t.1 l)

each_set : {A : Type 0} (P : A → Type 0) (d : A) (xs : List A) (i : ℕ) (y : A) → Each P d xs → (i < length xs → P y) → Each P d (set xs i y)
each_set P d [] i y h p = h
each_set P d (x ∷ xs) zero y h p = each_cons P d y xs (p (omega arith)) (each_tail P d x xs h)
each_set P d (x ∷ xs) (suc i) y h p = each_cons P d x (set xs i y) (h 0 (omega arith)) (each_set P d xs i y (each_tail P d x xs h) (λ l. p (omega arith)))

-- ---- marks
module _ (f : Format) (m : Model) (k : ℕ) where
  pub marks_none_above : (xs : List Mark) (g : Grid) → none_above k g.stamps ≡ true → none_above k (marked f m k xs g).stamps ≡ true
  unfolding marked mark_at
  marks_none_above [] g e = e
  marks_none_above (x ∷ xs) g e = marks_none_above xs (with_cell g x.place (mark_at f m k x g).cell) (none-above-set k g.stamps x.place _ e new)
    where
      new : frame_of (mark_at f m k x g).cell.stamp ≤ k
      new = mark_stamp f (steps_at m x.place) k x.occupied (cell_at g x.place) (none-above-at k g.stamps x.place e)

  pub marks_within : bounded m ≡ true → (xs : List Mark) (g : Grid) → odds_in_bounds m g.odds ≡ true → odds_in_bounds m (marked f m k xs g).odds ≡ true
  unfolding marked mark_at
  marks_within b [] g e = e
  marks_within b (x ∷ xs) g e = marks_within b xs (with_cell g x.place (mark_at f m k x g).cell) (within-set m g.odds x.place _ e new)
    where
      new : x.place < length g.odds → from_floor_to_ceiling m (mark_at f m k x g).cell.odds ≡ true
      new l = mark_within m b x.place f k x.occupied (cell_at g x.place) (within-at m g.odds x.place e l)

  pub marks_fit : bounded m ≡ true → fits f m.ceiling ≡ true → (xs : List Mark) (g : Grid) → Each (λ (o : Float). fits f o ≡ true) nan g.odds
      → Each (λ (o : Float). fits f o ≡ true) nan (marked f m k xs g).odds
  unfolding marked mark_at
  marks_fit b c [] g e = e
  marks_fit b c (x ∷ xs) g e =
      marks_fit b c xs (with_cell g x.place (mark_at f m k x g).cell) (each_set (λ (o : Float). fits f o ≡ true) nan g.odds x.place _ e new)
    where
      new : x.place < length g.odds → fits f (mark_at f m k x g).cell.odds ≡ true
      new l = mark_fits m b x.place f k x.occupied (cell_at g x.place) c (e x.place l)

-- ---- calls
module _ (f : Format) (h : Head) (cs : List Call) (g : Grid) where
  pub calls-none-above : none_above h.frame g.stamps ≡ true → none_above h.frame (left f h cs g).stamps ≡ true
  calls-none-above e = rw (calls_made f h cs g).1 (marks_none_above f h.model h.frame _ g e)

  pub calls-within : bounded h.model ≡ true → odds_in_bounds h.model g.odds ≡ true → odds_in_bounds h.model (left f h cs g).odds ≡ true
  calls-within b e = rw (calls_made f h cs g).1 (marks_within f h.model h.frame b _ g e)

  pub calls_fit : bounded h.model ≡ true → fits f h.model.ceiling ≡ true → Each (λ (o : Float). fits f o ≡ true) nan g.odds
      → Each (λ (o : Float). fits f o ≡ true) nan (left f h cs g).odds
  calls_fit b c e = subst (λ (x : Grid). Each (λ (o : Float). fits f o ≡ true) nan x.odds) (sym (calls_made f h cs g).1) (marks_fit f h.model h.frame b c _ g e)
