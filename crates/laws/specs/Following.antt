-- Lines as the plotter draws them, and what a step does to an axis's coordinate: for a walk that follows coordinates by
-- whole steps. Over any number of axes, in every format. Assumes nothing.
use Prim.Native.Nat.{ℕ, zero, suc, ◌+◌, ◌-◌, ◌≤◌, ◌<◌}
use Rattle.std.specs.Prelude.{Bool, cond, ◌||◌, List, [], ◌∷◌, map, ◌⊎◌, ℤ, pos, eqb, length, Float}
use Rattle.std.proofs.Math.Bool.{true, false}
use Rattle.std.proofs.Common.{true≢false, inl, inr, sym, ap₂, ◌∙◌, add-one, arith}
use Rattle.std.proofs.Math.Path.{◌≡◌, refl, ap, subst}
use Rattle.std.specs.Float.{Format}
use Rattle.std.specs.Float.Ieee.{add, sub, neg, le, lt}
use Rattle.rules.specs.Floats.{one_f, zero_f, all_finite}
use Rattle.rules.specs.RefusalNumbers.{Answer, given, refused, ray}
use Rattle.rules.specs.TheGridAndItsBounds.{most_extent}
use Rattle.rules.specs.Coordinates.{truncated_point}
use Rattle.rules.specs.TheLine.{Axis, Line, Primary, larger, primary_from, primary_of, deltas, axes_of, axis_of, step_to, line_between, plotter}
use Rattle.rules.specs.TheLine.{currents, other_after, primary_after, axis_after, axes_after}
use Rattle.laws.specs.Floats.Inside.{Inside, Followed, inside-up, inside-down, inside-truncated}
use Rattle.laws.specs.LineSteps.{line_after, axes_kept}

-- ---- a line that the plotter drew
-- one cell up or down
abbrev pub WholeStep : Float → Type 0
WholeStep s = (s ≡ one_f) ⊎ (s ≡ neg one_f)

abbrev pub WholeSteps : List Axis → Type 0
WholeSteps [] = Unit {0}
WholeSteps (a ∷ as') = WholeStep a.step × WholeSteps as'

pub record Drawn (l : Line) : Type 0 where
  pub steps : WholeSteps l.axes
  pub primary-below : l.primary < length l.axes

whole_step : (x y : Float) → WholeStep (step_to x y)
unfolding step_to
whole_step x y = go (lt x y)
  where
    go : (b : Bool) → WholeStep (cond b one_f (neg one_f))
    go true = inl refl
    go false = inr refl

whole_steps : (f : Format) (p : Float) (xs ys : List Float) → WholeSteps (axes_of f p xs ys)
unfolding axes_of axis_of
whole_steps f p [] ys = tt
whole_steps f p (x ∷ xs) [] = tt
whole_steps f p (x ∷ xs) (y ∷ ys) = (whole_step x y, whole_steps f p xs ys)

many_axes : (f : Format) (p : Float) (xs ys : List Float) → length (axes_of f p xs ys) ≡ length (deltas f xs ys)
unfolding axes_of deltas
many_axes f p [] ys = refl
many_axes f p (x ∷ xs) [] = refl
many_axes f p (x ∷ xs) (y ∷ ys) = ap suc (many_axes f p xs ys)

-- the axis that is chosen is one of those looked at, or the best before them
chosen_below : (n k : ℕ) (best : Primary) (ds : List Float) → best.axis < n → k + length ds ≤ n → (primary_from k best ds).axis < n
unfolding primary_from larger
chosen_below n k best [] h g = h
chosen_below n k best (d ∷ ds) h g = chosen_below n (suc k) _ ds (go (le best.delta d)) (omega arith)
  where
    go : (b : Bool) → (cond b (record { axis = k; delta = d }) best).axis < n
    go true = omega arith
    go false = h

with-deltas : (f : Format) (xs ys : List Float) (l : Line) → 0 < length (deltas f xs ys) → plotter f xs ys ≡ given l → Drawn l
unfolding plotter line_between primary_of
with-deltas f xs ys l h e = go (all_finite (deltas f xs ys)) e
  where
    best : Primary
    best = primary_from 0 (record { axis = 0; delta = zero_f }) (deltas f xs ys)

    go : (b : Bool) → cond b (given (line_between f best xs ys)) (refused ray) ≡ given l → Drawn l
    go true e =
        let q : line_between f best xs ys ≡ l = cc in
        subst Drawn q
        (record {
          steps = whole_steps f best.delta xs ys;
          primary-below = rw (many_axes f best.delta xs ys) (chosen_below _ 0 _ (deltas f xs ys) h (omega arith));
        })
    go false e = let z : ◌≡◌ {A = ℕ} 0 1 = cc in absurd (omega arith)

-- between points of one axis or more
pub drawn : (f : Format) (x y : Float) (xs ys : List Float) (l : Line) → plotter f (x ∷ xs) (y ∷ ys) ≡ given l → Drawn l
drawn f x y xs ys l e = with-deltas f (x ∷ xs) (y ∷ ys) l (unfold deltas in omega arith) e

-- ---- a step
-- whether axis number k moves
abbrev pub axis_moves : Format → ℕ → ℕ → Float → Axis → Bool
axis_moves f k p t a = eqb k p || le t (add f a.error a.increment)

-- its coordinate afterwards
abbrev pub current_after : Format → ℕ → ℕ → Float → Axis → Float
current_after f k p t a = (axis_after f k p t a).current

module _ (f : Format) (k p : ℕ) (t : Float) (a : Axis) where
  abbrev reached : Float
  reached = add f a.error a.increment

  abbrev moved : Axis
  moved = record { current = add f a.current a.step; end = a.end; increment = a.increment; step = a.step; error = sub f reached one_f }

  abbrev still : Axis
  still = record { current = a.current; end = a.end; increment = a.increment; step = a.step; error = reached }

  pub moves_on : axis_moves f k p t a ≡ true → add f a.current a.step ≡ current_after f k p t a
  unfolding axis_after other_after primary_after
  moves_on h = go (eqb k p) (le t reached) h
    where
      go : (b c : Bool) → b || c ≡ true → add f a.current a.step ≡ (cond b (primary_after f a) (cond c moved still)).current
      go true c h = refl
      go false true h = refl
      go false false h = let z : ◌≡◌ {A = ℕ} 0 1 = cc in absurd (omega arith)

  pub stands_still : axis_moves f k p t a ≡ false → a.current ≡ current_after f k p t a
  unfolding axis_after other_after primary_after
  stands_still h = go (eqb k p) (le t reached) h
    where
      go : (b c : Bool) → b || c ≡ false → a.current ≡ (cond b (primary_after f a) (cond c moved still)).current
      go true c h = let z : ◌≡◌ {A = ℕ} 0 1 = cc in absurd (omega arith)
      go false true h = let z : ◌≡◌ {A = ℕ} 0 1 = cc in absurd (omega arith)
      go false false h = refl

  step_kept : (axis_after f k p t a).step ≡ a.step
  unfolding axis_after other_after primary_after
  step_kept = go (eqb k p) (le t reached)
    where
      go : (b c : Bool) → (cond b (primary_after f a) (cond c moved still)).step ≡ a.step
      go true c = refl
      go false true = refl
      go false false = refl

pub steps_kept : (f : Format) (k p : ℕ) (t : Float) (as' : List Axis) → WholeSteps as' → WholeSteps (axes_after f k p t as')
unfolding axes_after
steps_kept f k p t [] h = tt
steps_kept f k p t (a ∷ as') h = (subst WholeStep (sym (step_kept f k p t a)) h.0, steps_kept f (suc k) p t as' h.1)

-- ---- a followed cell
module _ (f : Format) (c : ℕ) (x s : Float) (small : c ≤ most_extent) (i : Inside f c x) (w : WholeStep s) where
  pub followed_up : lt zero_f s ≡ true → Followed f (c + 1) (add f x s)
  unfolding lt neg
  followed_up t h = go w
    where
      go : WholeStep s → Inside f (c + 1) (add f x s)
      go (inl e) = rw (e, add-one) (inside-up f c x small i)
      go (inr e) = absurd (true≢false (sym t ∙ ap (lt zero_f) e))

  pub followed_down : lt zero_f s ≡ false → (c ≡ 0 → ⊥) → Followed f (c - 1) (add f x s)
  unfolding lt neg
  followed_down t n h = go w
    where
      before : (c : ℕ) → c ≤ most_extent → (c ≡ 0 → ⊥) → Inside f c x → Inside f (c - 1) (add f x (neg one_f))
      before zero h n i = absurd (n refl)
      before (suc c) h n i = subst (λ (n : ℕ). Inside f n (add f x (neg one_f))) (omega arith) (inside-down f c x (omega arith) i)

      go : WholeStep s → Inside f (c - 1) (add f x s)
      go (inl e) = absurd (true≢false (sym (ap (lt zero_f) e) ∙ t))
      go (inr e) = rw e (before c small n i)

-- each axis's cell is followed
abbrev pub AllFollowed : Format → List ℕ → List Axis → Type 0
AllFollowed f [] [] = Unit {0}
AllFollowed f [] (a ∷ as') = ⊥
AllFollowed f (c ∷ cs) [] = ⊥
AllFollowed f (c ∷ cs) (a ∷ as') = Followed f c a.current × AllFollowed f cs as'

abbrev pub AllSmall : List ℕ → Type 0
AllSmall [] = Unit {0}
AllSmall (c ∷ cs) = (c ≤ most_extent) × AllSmall cs

-- then nothing has to be truncated
pub followed_cells : (f : Format) (cs : List ℕ) (as' : List Axis) → AllFollowed f cs as' → AllSmall cs → truncated_point (currents as') ≡ map pos cs
unfolding truncated_point
followed_cells f [] [] h s = refl
followed_cells f [] (a ∷ as') h s = absurd h
followed_cells f (c ∷ cs) [] h s = absurd h
followed_cells f (c ∷ cs) (a ∷ as') h s =
    ap₂ (λ (i : ℤ) (is : List ℤ). i ∷ is) (inside-truncated f c a.current s.0 (h.0 s.0)) (followed_cells f cs as' h.1 s.1)

pub drawn_after : (f : Format) (l : Line) → Drawn l → Drawn (line_after f l)
drawn_after f l d =
    record {
      steps = steps_kept f 0 l.primary l.threshold l.axes d.steps;
      primary-below = rw (axes_kept f 0 l.primary l.threshold l.axes) d.primary-below;
    }
