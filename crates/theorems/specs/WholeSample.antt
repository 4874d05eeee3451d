-- "With finite stencil odds, a sample at a whole-numbered point equals that cell's odds; a zero may change its sign."
-- Of any number of axes, in every format. -0.0 is a whole number too. Assumes nothing.
pub mod Sums
pub mod Numbers
use Rattle.std.specs.Prelude.{◌≡◌, refl, ℕ, suc, ◌+◌, ◌*◌, ◌≤◌, ◌<◌, Bool, true, false, ◌&&◌, cond, T, leb, ltb, length, get_or, Float}
use Rattle.std.proofs.Common.{sym, ap₂, ◌∙◌, subst, add-mul, one-mul, add-zero, zero-add, arith, lt-ltb, leb→le, ltb→lt}
use Rattle.std.proofs.Math.Path.{ap}
use mathlib.Core.List.{List, [], ◌∷◌, map}
use Rattle.std.proofs.Math.Option
use Rattle.std.proofs.Math.Option.{Option, some, none}
use Rattle.std.proofs.Math.IntN.{pos}
use Rattle.std.specs.Float.{nan, Format}
use Rattle.std.specs.Float.Ieee.{eq, fits}
use Rattle.std.specs.Float.Ieee.Fits.{and_l, and_r}
use Rattle.std.specs.Float.Ieee.Scale.{finite}
use Rattle.rules.specs.Floats.{zero_f, number_f, all_finite}
use Rattle.rules.specs.RefusalNumbers.{Answer, given, and_then}
use Rattle.rules.specs.TheGridAndItsBounds.{least_extent, most_extent, strides, all_at_least, all_at_most, extents_in_bounds}
use Rattle.rules.specs.Coordinates.{StencilAxis, Sample, stencil, joined, cells_of, offsets_of, corners, corner_place, times_strides}
use Rattle.rules.specs.Coordinates.{sample_at, sample, along, or_off, off_axes, on_grid_from, flat_index, value_from}
use Rattle.laws.specs.Floats.Sizes.{number_value}
use Rattle.theorems.specs.CountBound.ClampedLine.{within_bounds}
use Rattle.laws.specs.Floats.Zeros.{SameNumber}
use Rattle.theorems.specs.WholeSample.Sums.{Whole, next, Sound, value_whole}
use Rattle.theorems.specs.WholeSample.Numbers.{At, at_of_eq, AxisAt, axis-at}

-- ---- the premises
-- the point stands on the cell ns: each coordinate is the cell's number, which is below the extent
unfoldable pub on_cell : Format → List ℕ → List Float → List ℕ → Bool
on_cell f [] [] [] = true
on_cell f [] [] (n ∷ ns) = false
on_cell f [] (x ∷ xs) ns = false
on_cell f (e ∷ es) [] ns = false
on_cell f (e ∷ es) (x ∷ xs) [] = false
on_cell f (e ∷ es) (x ∷ xs) (n ∷ ns) = ltb n e && eq x (number_f f n) && on_cell f es xs ns

-- the odds that a sample reads: one for each corner of its stencil
unfoldable pub stencil_odds : List ℕ → List Float → List StencilAxis → List Float
stencil_odds es odds axes =
    map (λ c. get_or odds (corner_place (times_strides (cells_of axes) (strides es)) (strides es) c) nan) (corners (length axes))

unfoldable pub all_fit : Format → List Float → Bool
all_fit f [] = true
all_fit f (x ∷ xs) = fits f x && all_fit f xs

-- ---- the stencil on all axes
pub record StencilAt (f : Format) (es : List ℕ) (xs : List Float) (ns : List ℕ) : Type 0 where
  pub axes : List StencilAxis
  pub highs : List Bool
  pub is : stencil f es xs ≡ some axes
  pub many : length highs ≡ length axes
  pub whole : Whole highs (offsets_of axes)
  pub place : (b : ℕ) (ss : List ℕ) → corner_place (b + times_strides (cells_of axes) ss) ss highs ≡ b + times_strides ns ss

no_axis_lem : (b : ℕ) (ss : List ℕ) → corner_place b ss [] ≡ b
unfolding corner_place
no_axis_lem b [] = refl
no_axis_lem b (s ∷ ss) = refl

one-axis : (c n s : ℕ) (high : Bool) → c + cond high 1 0 ≡ n → n * s ≡ c * s + cond high s 0
one-axis c n s true h = ap (λ (x : ℕ). x * s) (sym h) ∙ add-mul c 1 s ∙ ap (λ (x : ℕ). c * s + x) (one-mul s)
one-axis c n s false h = ap (λ (x : ℕ). x * s) (sym h ∙ add-zero c) ∙ sym (add-zero (c * s))

with-axis : (f : Format) (e : ℕ) (es : List ℕ) (x : Float) (xs : List Float) (n : ℕ) (ns : List ℕ) → AxisAt f e x n → StencilAt f es xs ns
    → StencilAt f (e ∷ es) (x ∷ xs) (n ∷ ns)
unfolding stencil corner_place times_strides
with-axis f e es x xs n ns p q =
    record {
      axes = p.axis ∷ q.axes;
      highs = p.high ∷ q.highs;
      is = ap₂ joined p.is q.is;
      many = ap suc q.many;
      whole = next p.weight q.whole;
      place = place;
    }
  where
    place : (b : ℕ) (ss : List ℕ) → corner_place (b + times_strides (cells_of (p.axis ∷ q.axes)) ss) ss (p.high ∷ q.highs) ≡ b + times_strides (n ∷ ns) ss
    place b [] = refl
    place b (s ∷ ss) =
        let c = p.axis.cell * s in
        let h = cond p.high s 0 in
        let t = times_strides (cells_of q.axes) ss in
        let e₁ : b + (c + t) + h ≡ b + c + h + t = omega arith in
        let e₂ : n * s ≡ c + h = one-axis p.axis.cell n s p.high p.place in
        ap (λ (k : ℕ). corner_place k ss q.highs) e₁ ∙ q.place (b + c + h) ss ∙ omega arith

stencil-at : (f : Format) (es : List ℕ) (xs : List Float) (ns : List ℕ) → T (all_at_least least_extent es) → T (all_at_most most_extent es) → T (on_cell f es xs ns)
    → StencilAt f es xs ns
unfolding on_cell all_at_least all_at_most
stencil-at f [] [] [] a b h =
    record { axes = []; highs = []; is = unfold stencil in refl; many = refl; whole = Whole.none; place = λ b ss. no_axis_lem (b + times_strides [] ss) ss }
stencil-at f [] [] (n ∷ ns) a b h = absurd h
stencil-at f [] (x ∷ xs) ns a b h = absurd h
stencil-at f (e ∷ es) [] ns a b h = absurd h
stencil-at f (e ∷ es) (x ∷ xs) [] a b h = absurd h
stencil-at f (e ∷ es) (x ∷ xs) (n ∷ ns) a b h =
    let r = on_cell f es xs ns in
    let p : n < e = ltb→lt n e (and_l (ltb n e) (eq x (number_f f n)) (and_l (ltb n e && eq x (number_f f n)) r h)) in
    let q : e ≤ most_extent = leb→le e most_extent (and_l (leb e most_extent) (all_at_most most_extent es) b) in
    let w : At x n = at_of_eq x (number_f f n) n (number_value f n (omega arith)) (and_r (ltb n e) (eq x (number_f f n)) (and_l (ltb n e && eq x (number_f f n)) r h)) in
    with-axis f e es x xs n ns (axis-at f e x n (leb→le least_extent e (and_l (leb least_extent e) (all_at_least least_extent es) a)) q p w)
    (stencil-at f es xs ns (and_r (leb least_extent e) (all_at_least least_extent es) a) (and_r (leb e most_extent) (all_at_most most_extent es) b)
    (and_r (ltb n e && eq x (number_f f n)) r h))

-- ---- the cell's place in the lists
on-grid : (f : Format) (off k : ℕ) (es : List ℕ) (xs : List Float) (ns : List ℕ) → T (on_cell f es xs ns) → on_grid_from off k es (map pos ns) ≡ given ns
unfolding on_cell on_grid_from along
on-grid f off k [] [] [] h = refl
on-grid f off k [] [] (n ∷ ns) h = absurd h
on-grid f off k [] (x ∷ xs) ns h = absurd h
on-grid f off k (e ∷ es) [] ns h = absurd h
on-grid f off k (e ∷ es) (x ∷ xs) [] h = absurd h
on-grid f off k (e ∷ es) (x ∷ xs) (n ∷ ns) h =
    let r = on_cell f es xs ns in
    let p : ltb n e ≡ true = lt-ltb n e (ltb→lt n e (and_l (ltb n e) (eq x (number_f f n)) (and_l (ltb n e && eq x (number_f f n)) r h))) in
    ap₂ (λ (t : Bool) (a : Answer (List ℕ)). and_then (or_off off k e (pos n) (cond t (some n) none)) (λ m. and_then a (λ ms. given (m ∷ ms)))) p
    (on-grid f off (suc k) es xs ns (and_r (ltb n e && eq x (number_f f n)) r h))

-- ---- the theorem
-- finite odds at the stencil's corners, of the format
sound : (f : Format) (odds : List Bool → Float) (cs : List (List Bool)) → T (all_finite (map odds cs)) → T (all_fit f (map odds cs)) → Sound f odds cs
unfolding all_finite all_fit
sound f odds [] p q = tt
sound f odds (c ∷ cs) p q =
    let x = odds c in
    let xs = map odds cs in
    (and_l (finite x) (all_finite xs) p, and_l (fits f x) (all_fit f xs) q, sound f odds cs (and_r (finite x) (all_finite xs) p) (and_r (fits f x) (all_fit f xs) q))

value_at : (f : Format) (es : List ℕ) (odds xs : List Float) (ns : List ℕ) (s : StencilAt f es xs ns)
    → T (all_finite (stencil_odds es odds s.axes)) → T (all_fit f (stencil_odds es odds s.axes))
    → SameNumber (sample_at f es odds s.axes).value (get_or odds (times_strides ns (strides es)) nan)
unfolding sample_at stencil_odds
value_at f es odds xs ns s p q =
    let at : (List Bool → Float) = λ c. get_or odds (corner_place (times_strides (cells_of s.axes) (strides es)) (strides es) c) nan in
    let good : Sound f at (corners (length s.highs)) = rw s.many (sound f at (corners (length s.axes)) p q) in
    let v : SameNumber (value_from f zero_f (offsets_of s.axes) at (corners (length s.highs))) (at s.highs) =
    value_whole f s.highs (offsets_of s.axes) s.whole at good in
    let w : SameNumber (value_from f zero_f (offsets_of s.axes) at (corners (length s.axes))) (at s.highs) = rw s.many at v in
    subst (λ (k : ℕ). SameNumber (value_from f zero_f (offsets_of s.axes) at (corners (length s.axes))) (get_or odds k nan))
    (ap (λ (b : ℕ). corner_place b (strides es) s.highs) (sym (zero-add base)) ∙ s.place 0 (strides es) ∙ zero-add (times_strides ns (strides es))) w
  where
    base : ℕ
    base = times_strides (cells_of s.axes) (strides es)

pub record CellsOdds (f : Format) (es : List ℕ) (odds xs : List Float) (ns : List ℕ) : Type 0 where
  -- where the cell stands in the lists
  pub place : ℕ
  pub place_is : flat_index es (map pos ns) ≡ given place
  -- the sample is given, and its value is that cell's odds: equal, or both are zeros
  pub found : Sample
  pub found_is : sample f es odds xs ≡ some found
  pub value_is : SameNumber found.value (get_or odds place nan)

pub whole-sample : (f : Format) (es : List ℕ) (odds xs : List Float) (ns : List ℕ) → T (extents_in_bounds es) → T (on_cell f es xs ns)
    → ((axes : List StencilAxis) → stencil f es xs ≡ some axes → T (all_finite (stencil_odds es odds axes)) × T (all_fit f (stencil_odds es odds axes)))
    → CellsOdds f es odds xs ns
whole-sample f es odds xs ns b h g =
    record {
      place = times_strides ns (strides es);
      place_is = unfold flat_index in ap (λ (a : Answer (List ℕ)). and_then a (λ ms. given (times_strides ms (strides es)))) (on-grid f (off_axes es (map pos ns)) 0 es xs ns h);
      found = sample_at f es odds s.axes;
      found_is = unfold sample in ap (λ (o : Option (List StencilAxis)). Option.map (sample_at f es odds) o) s.is;
      value_is = value;
    }
  where
    s : StencilAt f es xs ns
    s = stencil-at f es xs ns (within_bounds es b).0 (within_bounds es b).1 h

    value : SameNumber (sample_at f es odds s.axes).value (get_or odds (times_strides ns (strides es)) nan)
    value = value_at f es odds xs ns s (g s.axes s.is).0 (g s.axes s.is).1
