-- Points and lines that are equal but for the signs of zero coordinates: a clipped point is in the same cell, and a
-- line between two of them yields the same cells. Over any number of axes. Assumes nothing.
use Rattle.std.specs.Prelude.{ℕ, zero, suc, ◌-◌, Bool, true, false, cond, ◌||◌, List, [], ◌∷◌, ◌≡◌, refl, eqb, leb, ℤ, length, Float}
use Rattle.std.proofs.Common.{inl, ap, ap₂}
use Rattle.std.specs.Float.{Format}
use Rattle.std.specs.Float.Ieee.{add, sub, mul, lt, le}
use Rattle.std.specs.Float.Ieee.Fits.{sub-fits}
use Rattle.rules.specs.Floats.{zero_f, half_f, one_f, number_f}
use Rattle.rules.specs.Coordinates.{truncated_point, within}
use Rattle.rules.specs.MarksAndFrames.{clamp}
use Rattle.rules.specs.OneBeam.{point_at, both_beyond, all_within, clamp_axis, clamp_point}
use Rattle.rules.specs.TheLine.{Axis, Line, Primary, delta, deltas, increment, step_to, axis_of, axes_of, threshold_of, cells_yielded, line_between}
use Rattle.rules.specs.TheLine.{other_after, primary_after, axis_after, axes_after, currents, ends, last_step, earlier_step, step_of, cells_within, line_cells, yields, none, and_on}
use Rattle.laws.specs.Floats.Zeros.{SameNumber}
use Rattle.theorems.specs.ZeroSign.Floats.{same_cond, same-lt, same-le, same_add, same-sub, same-mul, same_size, same-cell}

-- ---- points
abbrev pub SamePoint : List Float → List Float → Type 0
SamePoint [] [] = Unit {0}
SamePoint [] (y ∷ ys) = ⊥
SamePoint (x ∷ xs) [] = ⊥
SamePoint (x ∷ xs) (y ∷ ys) = SameNumber x y × SamePoint xs ys

pub point-same : (f : Format) (s t : Float) → SameNumber s t → (os ds : List Float) → SamePoint (point_at f s os ds) (point_at f t os ds)
unfolding point_at
point-same f s t p [] ds = tt
point-same f s t p (o ∷ os) [] = tt
point-same f s t p (o ∷ os) (d ∷ ds) = (same_add f o (mul f d s) o (mul f d t) (inl refl) (same-mul f d s t p), point-same f s t p os ds)

pub beyond_same : (f : Format) (es : List ℕ) (xs ys us vs : List Float) → SamePoint xs us → SamePoint ys vs → both_beyond f es xs ys ≡ both_beyond f es us vs
unfolding both_beyond
beyond_same f [] xs ys us vs p q = refl
beyond_same f (e ∷ es) [] ys [] vs p q = refl
beyond_same f (e ∷ es) [] ys (u ∷ us) vs p q = absurd p
beyond_same f (e ∷ es) (x ∷ xs) ys [] vs p q = absurd p
beyond_same f (e ∷ es) (x ∷ xs) [] (u ∷ us) [] p q = refl
beyond_same f (e ∷ es) (x ∷ xs) [] (u ∷ us) (v ∷ vs) p q = absurd q
beyond_same f (e ∷ es) (x ∷ xs) (y ∷ ys) (u ∷ us) [] p q = absurd q
beyond_same f (e ∷ es) (x ∷ xs) (y ∷ ys) (u ∷ us) (v ∷ vs) p q =
    rw (same-le (number_f f e) x u p.0, same-le (number_f f e) y v q.0, beyond_same f es xs ys us vs p.1 q.1) refl

pub within_same : (f : Format) (es : List ℕ) (xs us : List Float) → SamePoint xs us → all_within f es xs ≡ all_within f es us
unfolding all_within within
within_same f [] xs us p = refl
within_same f (e ∷ es) [] [] p = refl
within_same f (e ∷ es) [] (u ∷ us) p = absurd p
within_same f (e ∷ es) (x ∷ xs) [] p = absurd p
within_same f (e ∷ es) (x ∷ xs) (u ∷ us) p =
    rw (same-le zero_f x u p.0, same-lt x (number_f f e) u (number_f f e) p.0 (inl refl), within_same f es xs us p.1) refl

clamp-same : (lo hi x u : Float) → SameNumber x u → SameNumber (clamp lo hi x) (clamp lo hi u)
unfolding clamp
clamp-same lo hi x u p =
    rw (same-lt x lo u lo p (inl refl), same-lt hi x hi u (inl refl) p)
    (same_cond (lt u lo) lo (cond (lt hi u) hi x) lo (cond (lt hi u) hi u) (inl refl) (same_cond (lt hi u) hi x hi u (inl refl) p))

pub clamped-same : (f : Format) (es : List ℕ) (xs us : List Float) → SamePoint xs us → SamePoint (clamp_point f es xs) (clamp_point f es us)
unfolding clamp_point clamp_axis
clamped-same f [] xs us p = tt
clamped-same f (e ∷ es) [] [] p = tt
clamped-same f (e ∷ es) [] (u ∷ us) p = absurd p
clamped-same f (e ∷ es) (x ∷ xs) [] p = absurd p
clamped-same f (e ∷ es) (x ∷ xs) (u ∷ us) p = (clamp-same zero_f (sub f (number_f f e) half_f) x u p.0, clamped-same f es xs us p.1)

cells_same : (xs us : List Float) → SamePoint xs us → truncated_point xs ≡ truncated_point us
unfolding truncated_point
cells_same [] [] p = refl
cells_same [] (u ∷ us) p = absurd p
cells_same (x ∷ xs) [] p = absurd p
cells_same (x ∷ xs) (u ∷ us) p = ap₂ (λ (c : ℤ) (cs : List ℤ). c ∷ cs) (same-cell x u p.0) (cells_same xs us p.1)

lengths : (xs us : List Float) → SamePoint xs us → length xs ≡ length us
lengths [] [] p = refl
lengths [] (u ∷ us) p = absurd p
lengths (x ∷ xs) [] p = absurd p
lengths (x ∷ xs) (u ∷ us) p = ap suc (lengths xs us p.1)

-- ---- the line between two points: the sizes of the differences are the same as data
delta-same : (f : Format) (x y u v : Float) → SameNumber x u → SameNumber y v → delta f x y ≡ delta f u v
unfolding delta
delta-same f x y u v p q = same_size f (sub f y x) (sub f v u) (sub-fits f y x) (sub-fits f v u) (same-sub f y x v u q p)

pub deltas-same : (f : Format) (xs ys us vs : List Float) → SamePoint xs us → SamePoint ys vs → deltas f xs ys ≡ deltas f us vs
unfolding deltas
deltas-same f [] ys [] vs p q = refl
deltas-same f [] ys (u ∷ us) vs p q = absurd p
deltas-same f (x ∷ xs) ys [] vs p q = absurd p
deltas-same f (x ∷ xs) [] (u ∷ us) [] p q = refl
deltas-same f (x ∷ xs) [] (u ∷ us) (v ∷ vs) p q = absurd q
deltas-same f (x ∷ xs) (y ∷ ys) (u ∷ us) [] p q = absurd q
deltas-same f (x ∷ xs) (y ∷ ys) (u ∷ us) (v ∷ vs) p q =
    ap₂ (λ (d : Float) (ds : List Float). d ∷ ds) (delta-same f x y u v p.0 q.0) (deltas-same f xs ys us vs p.1 q.1)

-- what a line keeps of an axis: the same but for the point and the end
record SameAxis (a b : Axis) : Type 0 where
  current : SameNumber a.current b.current
  end : SameNumber a.end b.end
  increment : a.increment ≡ b.increment
  step : a.step ≡ b.step
  error : a.error ≡ b.error

abbrev SameAxes : List Axis → List Axis → Type 0
SameAxes [] [] = Unit {0}
SameAxes [] (b ∷ bs) = ⊥
SameAxes (a ∷ as') [] = ⊥
SameAxes (a ∷ as') (b ∷ bs) = SameAxis a b × SameAxes as' bs

axes_same : (f : Format) (p : Float) (xs ys us vs : List Float) → SamePoint xs us → SamePoint ys vs → SameAxes (axes_of f p xs ys) (axes_of f p us vs)
unfolding axes_of axis_of step_to
axes_same f d [] ys [] vs p q = tt
axes_same f d [] ys (u ∷ us) vs p q = absurd p
axes_same f d (x ∷ xs) ys [] vs p q = absurd p
axes_same f d (x ∷ xs) [] (u ∷ us) [] p q = tt
axes_same f d (x ∷ xs) [] (u ∷ us) (v ∷ vs) p q = absurd q
axes_same f d (x ∷ xs) (y ∷ ys) (u ∷ us) [] p q = absurd q
axes_same f d (x ∷ xs) (y ∷ ys) (u ∷ us) (v ∷ vs) p q = (
  record {
    current = p.0;
    end = q.0;
    increment = ap (increment f d) (delta-same f x y u v p.0 q.0);
    step = rw (same-lt x y u v p.0 q.0) refl;
    error = refl;
  },
  axes_same f d xs ys us vs p.1 q.1,
)

-- ---- a step of it
other-same : (f : Format) (t : Float) (a b : Axis) → SameAxis a b → SameAxis (other_after f t a) (other_after f t b)
unfolding other_after
other-same f t a b s = rw (s.error, s.increment, s.step) (go (le t (add f b.error b.increment)))
  where
    go : (c : Bool)
        → SameAxis
        (cond c
        (record { current = add f a.current b.step; end = a.end; increment = b.increment; step = b.step; error = sub f (add f b.error b.increment) one_f })
        (record { current = a.current; end = a.end; increment = b.increment; step = b.step; error = add f b.error b.increment }))
        (cond c
        (record { current = add f b.current b.step; end = b.end; increment = b.increment; step = b.step; error = sub f (add f b.error b.increment) one_f })
        (record { current = b.current; end = b.end; increment = b.increment; step = b.step; error = add f b.error b.increment }))
    go true =
        record {
          current = same_add f a.current b.step b.current b.step s.current (inl refl);
          end = s.end;
          increment = refl;
          step = refl;
          error = refl;
        }
    go false = record { current = s.current; end = s.end; increment = refl; step = refl; error = refl }

primary-same : (f : Format) (a b : Axis) → SameAxis a b → SameAxis (primary_after f a) (primary_after f b)
unfolding primary_after
primary-same f a b s =
    record {
      current = same_add f a.current a.step b.current b.step s.current (inl s.step);
      end = s.end;
      increment = s.increment;
      step = s.step;
      error = s.error;
    }

after_same : (f : Format) (k p : ℕ) (t : Float) (as' bs : List Axis) → SameAxes as' bs → SameAxes (axes_after f k p t as') (axes_after f k p t bs)
unfolding axes_after axis_after
after_same f k p t [] [] s = tt
after_same f k p t [] (b ∷ bs) s = absurd s
after_same f k p t (a ∷ as') [] s = absurd s
after_same f k p t (a ∷ as') (b ∷ bs) s = (go (eqb k p), after_same f (suc k) p t as' bs s.1)
  where
    go : (c : Bool) → SameAxis (cond c (primary_after f a) (other_after f t a)) (cond c (primary_after f b) (other_after f t b))
    go true = primary-same f a b s.0
    go false = other-same f t a b s.0

currents-same : (as' bs : List Axis) → SameAxes as' bs → SamePoint (currents as') (currents bs)
currents-same [] [] s = tt
currents-same [] (b ∷ bs) s = absurd s
currents-same (a ∷ as') [] s = absurd s
currents-same (a ∷ as') (b ∷ bs) s = (s.0.current, currents-same as' bs s.1)

ends_same : (as' bs : List Axis) → SameAxes as' bs → SamePoint (ends as') (ends bs)
ends_same [] [] s = tt
ends_same [] (b ∷ bs) s = absurd s
ends_same (a ∷ as') [] s = absurd s
ends_same (a ∷ as') (b ∷ bs) s = (s.0.end, ends_same as' bs s.1)

axes_count : (as' bs : List Axis) → SameAxes as' bs → length as' ≡ length bs
axes_count [] [] s = refl
axes_count [] (b ∷ bs) s = absurd s
axes_count (a ∷ as') [] s = absurd s
axes_count (a ∷ as') (b ∷ bs) s = ap suc (axes_count as' bs s.1)

-- ---- its cells
abbrev line : List Axis → ℕ → Float → ℕ → Line
line as' p t n = record { axes = as'; primary = p; threshold = t; remaining = n }

within-line : (f : Format) (most p : ℕ) (t : Float) (n : ℕ) (as' bs : List Axis) → SameAxes as' bs
    → cells_within f most (line as' p t n) ≡ cells_within f most (line bs p t n)
unfolding cells_within step_of last_step earlier_step
within-line f zero p t n as' bs s = refl
within-line f (suc most) p t n as' bs s =
    rw (axes_count as' bs s, cells_same (currents as') (currents bs) (currents-same as' bs s), cells_same (ends as') (ends bs) (ends_same as' bs s))
    (go (eqb n 0 || leb (length bs) p) (eqb n 1) (within-line f most p t 0 as' bs s)
    (within-line f most p t (n - 1) (axes_after f 0 p t as') (axes_after f 0 p t bs) (after_same f 0 p t as' bs s)))
  where
    go : (over last : Bool) → cells_within f most (line as' p t 0) ≡ cells_within f most (line bs p t 0)
        → cells_within f most (line (axes_after f 0 p t as') p t (n - 1)) ≡ cells_within f most (line (axes_after f 0 p t bs) p t (n - 1))
        → and_on (cond over none (cond last (yields (truncated_point (ends bs)) (line as' p t 0)) (yields (truncated_point (currents bs)) (line (axes_after f 0 p t as') p t (n - 1)))))
        (λ m. cells_within f most m)
        ≡ and_on (cond over none (cond last (yields (truncated_point (ends bs)) (line bs p t 0)) (yields (truncated_point (currents bs)) (line (axes_after f 0 p t bs) p t (n - 1)))))
        (λ m. cells_within f most m)
    go true last x y = refl
    go false true x y = ap (λ (cs : List (List ℤ)). truncated_point (ends bs) ∷ cs) x
    go false false x y = ap (λ (cs : List (List ℤ)). truncated_point (currents bs) ∷ cs) y

-- the line between points that are the same
pub line_same : (f : Format) (p : Primary) (xs ys us vs : List Float) → SamePoint xs us → SamePoint ys vs
    → line_cells f (line_between f p xs ys) ≡ line_cells f (line_between f p us vs)
unfolding line_cells line_between
line_same f p xs ys us vs a b =
    rw (lengths xs us a)
    (within-line f (cells_yielded f p.delta) p.axis (threshold_of f (length us)) (cells_yielded f p.delta) (axes_of f p.delta xs ys) (axes_of f p.delta us vs)
    (axes_same f p.delta xs ys us vs a b))
