-- The clamp leaves each coordinate in [0, extent - 0.5], infinities too, so a line between two clamped points has no
-- more cells than the largest extent. A NaN stays, and the line is refused. Assumes nothing.
use Rattle.std.specs.Prelude.{◌≡◌, refl, ◌⊎◌, ℕ, zero, suc, ◌+◌, ◌-◌, ◌*◌, ◌≤◌, ◌<◌, max, Bool, not, ◌&&◌, ◌||◌, cond, T, leb, eqb, Float}
use Rattle.std.proofs.Math.Path.{sym}
use Rattle.std.proofs.Common.{ap, ◌∙◌, subst, inl, inr, zero-le, suc-le-suc, le_trans, le_of_eq, mul-le-mul_right, mul-pos, zero-lt-suc, arith, true≢false, ltb-false, le-leb, leb→le}
use mathlib.Core.List.{List, [], ◌∷◌}
use Rattle.std.proofs.Math.Bool.{true, false}
use Rattle.std.proofs.Math.ListN.{length}
use Rattle.std.specs.Float.{nan, inf, fin, Format}
use Rattle.std.specs.Float.Ieee.{up, down, add, sub, neg, lt, le, is_nan}
use Rattle.std.specs.Float.Ieee.Fits.{and_l, and_r, up_pos, down_pos}
use Rattle.std.specs.Float.Ieee.Exact.{HasValue}
use Rattle.std.specs.Float.Ieee.Order.{transfer}
use Rattle.std.specs.Float.Ieee.Scale.{finite}
use Rattle.rules.specs.Floats.{zero_f, half_f, one_f, number_f, mag, all_finite}
use Rattle.rules.specs.RefusalNumbers.{given, refused, ray}
use Rattle.rules.specs.TheGridAndItsBounds.{least_extent, most_extent, all_at_least, all_at_most, extents_in_bounds, fits_capacity, cells, most_cells}
use Rattle.rules.specs.TheLine.{Line, Primary, Step, yields, none, delta, deltas, larger, primary_from, primary_of, cells_yielded, line_between, plotter, step_of}
use Rattle.rules.specs.TheLine.{cells_within, line_cells, and_on, axes_of, last_step, earlier_step}
use Rattle.rules.specs.MarksAndFrames.{clamp}
use Rattle.rules.specs.OneBeam.{clamp_axis, clamp_point}
use Rattle.laws.specs.Floats.Sizes.{AtMost, unsigned, edge_value, extents_exact, halves, apart_most, plus_one, cut}

-- the largest extent
abbrev pub largest : List ℕ → ℕ
largest [] = 0
largest (e ∷ es) = max e (largest es)

-- ---- a clamped coordinate
zero_of : (m u : ℕ) → 0 < u → m * u * 1 + 0 ≤ 0 → m ≡ 0
zero_of zero u U h = refl
zero_of (suc m) u U h = absurd (no (suc m * u) (mul-pos (zero-lt-suc m) U) (omega arith))
  where
    no : (k : ℕ) → 0 < k → k ≤ 0 → ⊥
    no k p q = omega arith

-- a number that is neither below zero nor above v
between : (x v : Float) (c d : ℕ) → HasValue v false c d → T (not (is_nan x)) → lt x zero_f ≡ false → lt v x ≡ false → AtMost x c d
unfolding lt is_nan
between nan v c d h n p q = absurd n
between (inf true) v c d h n p q = absurd (true≢false p)
between (inf false) nan c d h n p q = absurd h
between (inf false) (inf t) c d h n p q = absurd h
between (inf false) (fin t k g) c d h n p q = absurd (true≢false q)
between (fin true m e) v c d h n p q =
    zero_of m (up e) (up_pos e) (omega (arith, ltb-false 0 (m * up e * 1 + 0 * down e) p))
between (fin false m e) nan c d h n p q = absurd h
between (fin false m e) (inf t) c d h n p q = absurd h
between (fin false m e) (fin true k g) c d h n p q = absurd (true≢false h.0)
between (fin false m e) (fin false k g) c d h n p q =
    transfer (m * up e) c (down e) d (m * up e) (k * up g) (down e) (down g) (down_pos e) (down_pos g) refl (sym h.1)
    (ltb-false (k * up g * down e) (m * up e * down g) q)

own_most : (v : Float) (c d : ℕ) → HasValue v false c d → AtMost v c d
own_most nan c d h = absurd h
own_most (inf s) c d h = absurd h
own_most (fin true m e) c d h = absurd (true≢false h.0)
own_most (fin false m e) c d h = le_of_eq h.1

clamped-most : (x v : Float) (c d : ℕ) → HasValue v false c d → T (not (is_nan x)) → AtMost (clamp zero_f v x) c d
unfolding clamp
clamped-most x v c d h n = go (lt x zero_f) (lt v x) refl refl
  where
    go : (i j : Bool) → lt x zero_f ≡ i → lt v x ≡ j → AtMost (cond i zero_f (cond j v x)) c d
    go true j p q = zero-most c d
      where
        zero-most : (c d : ℕ) → 0 * 1 * d ≤ c * 1
        zero-most c d = omega arith
    go false true p q = own_most v c d h
    go false false p q = between x v c d h n p q

-- ---- NaN stays, and a line from or to it is refused
nan-clamped : (f : Format) (e : ℕ) → clamp_axis f e nan ≡ nan
unfolding clamp_axis clamp lt
nan-clamped f e = go (sub f (number_f f e) half_f)
  where
    go : (v : Float) → cond (lt v nan) v nan ≡ nan
    go nan = refl
    go (inf s) = refl
    go (fin s m e) = refl

nan-end : (f : Format) (y : Float) → sub f y nan ≡ nan
unfolding sub add neg
nan-end f nan = refl
nan-end f (inf s) = refl
nan-end f (fin s m e) = refl

nan-start : (f : Format) (x : Float) → sub f nan x ≡ nan
unfolding sub add
nan-start f x = refl

nan-delta : (z : Float) → z ≡ nan → T (finite (mag z)) → ⊥
unfolding mag
nan-delta z e h = subst (λ (w : Float). T (finite (mag w))) e h

-- ---- deltas: no more than the extent less a half
pub record Short (n : ℕ) (d : Float) : Type 0 where
  pub plain : T (unsigned d)
  pub most : AtMost d (2 * n - 1) 2

mag-plain : (z : Float) (c d : ℕ) → AtMost (mag z) c d → T (unsigned (mag z))
unfolding mag
mag-plain nan c d p = absurd p
mag-plain (inf s) c d p = absurd p
mag-plain (fin s m e) c d p = tt

wider : (x : Float) (n k : ℕ) → n ≤ k → AtMost x (2 * n - 1) 2 → AtMost x (2 * k - 1) 2
wider nan n k h p = absurd p
wider (inf s) n k h p = absurd p
wider (fin true m e) n k h p = p
wider (fin false m e) n k h p = le_trans p (mul-le-mul_right (down e) (omega arith))

real_nan : (x : Float) → (x ≡ nan) ⊎ T (not (is_nan x))
real_nan nan = inl refl
real_nan (inf s) = inr (unfold is_nan in tt)
real_nan (fin s m e) = inr (unfold is_nan in tt)

delta-short : (f : Format) (e n : ℕ) (x y : Float) → 0 < e → e ≤ most_extent → e ≤ n → T (finite (delta f (clamp_axis f e x) (clamp_axis f e y)))
    → Short n (delta f (clamp_axis f e x) (clamp_axis f e y))
unfolding delta
delta-short f e n x y a b g h = go (real_nan x) (real_nan y)
  where
    go : (x ≡ nan) ⊎ T (not (is_nan x)) → (y ≡ nan) ⊎ T (not (is_nan y)) → Short n (mag (sub f (clamp_axis f e y) (clamp_axis f e x)))
    go (inl p) q =
        let w : clamp_axis f e x ≡ nan = ap (λ (z : Float). clamp_axis f e z) p ∙ nan-clamped f e in
        let no : sub f (clamp_axis f e y) (clamp_axis f e x) ≡ nan = ap (λ (z : Float). sub f (clamp_axis f e y) z) w ∙ nan-end f (clamp_axis f e y) in
        absurd (nan-delta (sub f (clamp_axis f e y) (clamp_axis f e x)) no h)
    go (inr p) (inl q) =
        let w : clamp_axis f e y ≡ nan = ap (λ (z : Float). clamp_axis f e z) q ∙ nan-clamped f e in
        let no : sub f (clamp_axis f e y) (clamp_axis f e x) ≡ nan = ap (λ (z : Float). sub f z (clamp_axis f e x)) w ∙ nan-start f (clamp_axis f e x) in
        absurd (nan-delta (sub f (clamp_axis f e y) (clamp_axis f e x)) no h)
    go (inr p) (inr q) =
        let v = edge_value f e a b in
        let s : AtMost (mag (sub f (clamp_axis f e y) (clamp_axis f e x))) (2 * e - 1) 2 =
        apart_most f (clamp_axis f e x) (clamp_axis f e y) (2 * e - 1) 2 (zero-lt-suc 1) (halves f false (2 * e - 1) (omega (arith, extents_exact f)))
        (unfold clamp_axis in clamped-most x (sub f (number_f f e) half_f) (2 * e - 1) 2 v p)
        (unfold clamp_axis in clamped-most y (sub f (number_f f e) half_f) (2 * e - 1) 2 v q) in
        record { plain = mag-plain (sub f (clamp_axis f e y) (clamp_axis f e x)) (2 * e - 1) 2 s; most = wider (mag (sub f (clamp_axis f e y) (clamp_axis f e x))) e n g s }

abbrev AllShort : ℕ → List Float → Type 0
AllShort n [] = Unit {0}
AllShort n (d ∷ ds) = Short n d × AllShort n ds

deltas-short : (f : Format) (n : ℕ) (es : List ℕ) (xs ys : List Float) → T (all_at_least least_extent es) → T (all_at_most most_extent es) → largest es ≤ n
    → T (all_finite (deltas f (clamp_point f es xs) (clamp_point f es ys))) → AllShort n (deltas f (clamp_point f es xs) (clamp_point f es ys))
unfolding deltas clamp_point all_finite all_at_least all_at_most
deltas-short f n [] xs ys a b g h = tt
deltas-short f n (e ∷ es) [] ys a b g h = tt
deltas-short f n (e ∷ es) (x ∷ xs) [] a b g h = tt
deltas-short f n (e ∷ es) (x ∷ xs) (y ∷ ys) a b g h =
    let d = delta f (clamp_axis f e x) (clamp_axis f e y) in
    let r = all_finite (deltas f (clamp_point f es xs) (clamp_point f es ys)) in (
      delta-short f e n x y (omega (arith, leb→le least_extent e (and_l (leb least_extent e) (all_at_least least_extent es) a)))
          (leb→le e most_extent (and_l (leb e most_extent) (all_at_most most_extent es) b)) (omega arith)
          (and_l (finite d) r h),
      deltas-short f n es xs ys (and_r (leb least_extent e) (all_at_least least_extent es) a) (and_r (leb e most_extent) (all_at_most most_extent es) b) (omega arith)
          (and_r (finite d) r h),
    )

primary-short : (n k : ℕ) (best : Primary) (ds : List Float) → Short n best.delta → AllShort n ds → Short n (primary_from k best ds).delta
unfolding primary_from
primary-short n k best [] p h = p
primary-short n k best (d ∷ ds) p h = primary-short n (suc k) (larger k d best) ds (unfold larger in go (le best.delta d)) h.1
  where
    go : (b : Bool) → Short n (cond {A = Primary} b (record { axis = k; delta = d }) best).delta
    go true = h.0
    go false = p

yielded_most : (f : Format) (n : ℕ) (d : Float) → 0 < n → n ≤ most_extent → Short n d → cells_yielded f d ≤ n
unfolding cells_yielded
yielded_most f n d a b s = cut 64 (add f d one_f) n (plus_one f d n (omega (arith, extents_exact f)) a s.plain s.most)

-- ---- extents in bounds
largest_least : (e : ℕ) (es : List ℕ) → T (all_at_least least_extent (e ∷ es)) → 0 < largest (e ∷ es)
unfolding all_at_least
largest_least e es h = omega (arith, leb→le least_extent e (and_l (leb least_extent e) (all_at_least least_extent es) h))

largest-most : (es : List ℕ) → T (all_at_most most_extent es) → largest es ≤ most_extent
unfolding all_at_most
largest-most [] h = zero-le
largest-most (e ∷ es) h =
    omega (arith, leb→le e most_extent (and_l (leb e most_extent) (all_at_most most_extent es) h), largest-most es (and_r (leb e most_extent) (all_at_most most_extent es) h))

-- ---- the line
pub within_bounds : (es : List ℕ) → T (extents_in_bounds es) → T (all_at_least least_extent es) × T (all_at_most most_extent es)
unfolding extents_in_bounds fits_capacity
within_bounds es h =
    let a = all_at_least least_extent es in
    let b = all_at_most most_extent es in
    let c = leb (cells es) most_cells in
    (and_l a (b && c) h, and_l b c (and_r a (b && c) h))

-- a line that was given is the line between its points
plotted : (f : Format) (xs ys : List Float) (l : Line) → plotter f xs ys ≡ given l
    → T (all_finite (deltas f xs ys)) × (line_between f (primary_of (deltas f xs ys)) xs ys ≡ l)
unfolding plotter
plotted f xs ys l e = go (all_finite (deltas f xs ys)) refl e
  where
    m : Line
    m = line_between f (primary_of (deltas f xs ys)) xs ys

    go : (b : Bool) → all_finite (deltas f xs ys) ≡ b → cond b (given m) (refused ray) ≡ given l → T (all_finite (deltas f xs ys)) × (m ≡ l)
    go false p e = let z : ◌≡◌ {A = ℕ} 0 1 = cc in absurd (omega arith)
    go true p e = (subst (λ (t : Bool). T t) (sym p) tt, (cc))

between-most : (f : Format) (n : ℕ) (ps qs : List Float) → 0 < n → n ≤ most_extent → AllShort n (deltas f ps qs)
    → (line_between f (primary_of (deltas f ps qs)) ps qs).remaining ≤ n
unfolding line_between primary_of
between-most f n ps qs a b h =
    let none_yet : Primary = record { axis = 0; delta = zero_f } in
    yielded_most f n (primary_from 0 none_yet (deltas f ps qs)).delta a b (primary-short n 0 none_yet (deltas f ps qs) (record { plain = tt; most = omega arith }) h)

pub line_remaining : (f : Format) (e : ℕ) (es : List ℕ) (xs ys : List Float) (l : Line) → T (extents_in_bounds (e ∷ es))
    → plotter f (clamp_point f (e ∷ es) xs) (clamp_point f (e ∷ es) ys) ≡ given l → l.remaining ≤ largest (e ∷ es)
line_remaining f e es xs ys l h g =
    let n = largest (e ∷ es) in
    let ps = clamp_point f (e ∷ es) xs in
    let qs = clamp_point f (e ∷ es) ys in
    let b = within_bounds (e ∷ es) h in
    let r = plotted f ps qs l g in
    let ds = deltas-short f n (e ∷ es) xs ys b.0 b.1 (le_of_eq refl) r.0 in
    subst (λ (m : Line). m.remaining ≤ n) r.1 (between-most f n ps qs (largest_least e es b.0) (largest-most (e ∷ es) b.1) ds)

pub cells-within : (f : Format) (n : ℕ) (l : Line) → length (cells_within f n l) ≤ n
unfolding cells_within
cells-within f zero l = zero-le
cells-within f (suc n) l = go (step_of f l) (λ m. cells-within f n m)
  where
    go : (s : Step) → ((m : Line) → length (cells_within f n m) ≤ n) → length (and_on s (λ m. cells_within f n m)) ≤ suc n
    go (yields c m) h = suc-le-suc (h m)
    go none h = zero-le

pub cells_remaining : (f : Format) (l : Line) → length (line_cells f l) ≤ l.remaining
unfolding line_cells
cells_remaining f l = cells-within f l.remaining l

-- a line with no axes has no cells
no_cells : (f : Format) (n : ℕ) (l : Line) → length l.axes ≡ 0 → length (cells_within f n l) ≤ 0
unfolding cells_within step_of
no_cells f zero l h = zero-le
no_cells f (suc n) l h = go (eqb l.remaining 0) (leb (length l.axes) l.primary) (le-leb (length l.axes) l.primary (omega arith))
  where
    go : (b c : Bool) → c ≡ true → length (and_on (cond (b || c) none (cond (eqb l.remaining 1) (last_step l) (earlier_step f l))) (λ m. cells_within f n m)) ≤ 0
    go true c p = zero-le
    go false c p = subst (λ (d : Bool). length (and_on (cond d none (cond (eqb l.remaining 1) (last_step l) (earlier_step f l))) (λ m. cells_within f n m)) ≤ 0) (sym p) zero-le

pub cells-most : (f : Format) (es : List ℕ) (xs ys : List Float) (l : Line) → T (extents_in_bounds es)
    → plotter f (clamp_point f es xs) (clamp_point f es ys) ≡ given l → length (line_cells f l) ≤ largest es
cells-most f [] xs ys l h g = unfold line_cells in no_cells f l.remaining l (no_axes (plotted f (clamp_point f [] xs) (clamp_point f [] ys) l g).1)
  where
    no_axes : line_between f (primary_of (deltas f (clamp_point f [] xs) (clamp_point f [] ys))) (clamp_point f [] xs) (clamp_point f [] ys) ≡ l → length l.axes ≡ 0
    no_axes p = unfold line_between axes_of clamp_point in sym (ap (λ (m : Line). length m.axes) p)
cells-most f (e ∷ es) xs ys l h g = le_trans (cells_remaining f l) (line_remaining f e es xs ys l h g)
