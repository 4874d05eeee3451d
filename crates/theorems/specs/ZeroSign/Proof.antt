-- The sign of a zero fraction never shows, proved: the fractions are the same but for a zero's sign, so the points are,
-- and then the line's cells are equal. Assumes nothing.
use Rattle.std.specs.Prelude.{ℕ, suc, Bool, true, false, cond, ◌&&◌, ◌||◌, List, [], ◌∷◌, ◌≡◌, refl, T, Float}
use Rattle.std.proofs.Common.{inl, inr, ap, ◌∙◌}
use Rattle.std.proofs.Math.Option.{Option, some, none}
use Rattle.std.specs.Float.{nan, inf, fin, Format}
use Rattle.std.specs.Float.Ieee.{sub, div, lt, le, eq, is_nan}
use Rattle.rules.specs.Floats.{zero_f, one_f, number_f, all_finite}
use Rattle.rules.specs.RefusalNumbers.{Answer, given, refused, and_then, ray}
use Rattle.rules.specs.MarksAndFrames.{Mark}
use Rattle.rules.specs.OneBeam.{Span, whole_span, larger_of, smaller_of, cut_to, slab, slabs, unless_missed, directions, point_at, both_beyond, is_inside, all_within}
use Rattle.rules.specs.OneBeam.{clamp_point, clipped_at, clip, marks_along, marks_between, beam_marks}
use Rattle.rules.specs.TheLine.{deltas, primary_of, line_between, plotter, line_cells}
use Rattle.laws.specs.Floats.Zeros.{SameNumber, same_trans}
use Rattle.theorems.specs.ZeroSign.{Choice, cut_by, slab_by, slabs_by, NeverShows}
use Rattle.theorems.specs.ZeroSign.Floats.{same_cond, same-lt, same-le}
use Rattle.theorems.specs.ZeroSign.Lines.{SamePoint, point-same, beyond_same, within_same, clamped-same, deltas-same, line_same}

-- ---- fractions
record SameSpan (s t : Span) : Type 0 where
  entry : SameNumber s.entry t.entry
  exit : SameNumber s.exit t.exit
  entry_some : is_nan t.entry ≡ false
  exit_some : is_nan t.exit ≡ false

-- both miss, or both give a span
abbrev Spans : Option Span → Option Span → Type 0
Spans none none = Unit {0}
Spans none (some t) = ⊥
Spans (some s) none = ⊥
Spans (some s) (some t) = SameSpan s t

spans_either : (b : Bool) (x y u v : Option Span) → Spans x u → Spans y v → Spans (cond b x y) (cond b u v)
spans_either true x y u v p q = p
spans_either false x y u v p q = q

larger-same : (a b u : Float) → SameNumber a u → SameNumber (larger_of a b) (larger_of u b)
unfolding larger_of
larger-same a b u p = rw (same-lt a b u b p (inl refl)) (same_cond (lt u b) b a b u (inl refl) p)

smaller_same : (a b u : Float) → SameNumber a u → SameNumber (smaller_of a b) (smaller_of u b)
unfolding smaller_of
smaller_same a b u p = rw (same-lt b a b u (inl refl) p) (same_cond (lt b u) b a b u (inl refl) p)

-- none of them is a NaN
same_some : (x y : Float) → SameNumber x y → is_nan y ≡ false → is_nan x ≡ false
unfolding is_nan
same_some x y (inl e) h = ap is_nan e ∙ h
same_some nan y (inr e) h = absurd e.0
same_some (inf s) y (inr e) h = refl
same_some (fin s m k) y (inr e) h = refl

above-some : (a b : Float) → T (lt a b) → is_nan b ≡ false
unfolding lt is_nan
above-some nan b t = absurd t
above-some (inf s) nan t = absurd t
above-some (inf s) (inf u) t = refl
above-some (inf s) (fin u n d) t = refl
above-some (fin s m e) nan t = absurd t
above-some (fin s m e) (inf u) t = refl
above-some (fin s m e) (fin u n d) t = refl

below-some : (b a : Float) → T (lt b a) → is_nan b ≡ false
unfolding lt is_nan
below-some nan a t = absurd t
below-some (inf s) a t = refl
below-some (fin s m e) a t = refl

either_some : (c : Bool) (x y : Float) → (T c → is_nan x ≡ false) → is_nan y ≡ false → is_nan (cond c x y) ≡ false
either_some true x y p q = p tt
either_some false x y p q = q

larger-some : (a b : Float) → is_nan a ≡ false → is_nan (larger_of a b) ≡ false
unfolding larger_of
larger-some a b h = either_some (lt a b) b a (above-some a b) h

smaller_some : (a b : Float) → is_nan a ≡ false → is_nan (smaller_of a b) ≡ false
unfolding smaller_of
smaller_some a b h = either_some (lt b a) b a (below-some b a) h

cut_same : (c : Choice) (near far : Float) (s t : Span) → SameSpan s t → Spans (cut_by c near far s) (cut_to near far t)
unfolding cut_to
cut_same c near far s t p =
    rw (same-lt (c.smaller s.exit far) (c.larger s.entry near) (smaller_of t.exit far) (larger_of t.entry near) exits entries)
    (spans_either (lt (smaller_of t.exit far) (larger_of t.entry near)) none (some (record { entry = c.larger s.entry near; exit = c.smaller s.exit far }))
    none (some (record { entry = larger_of t.entry near; exit = smaller_of t.exit far })) tt ends)
  where
    entries : SameNumber (c.larger s.entry near) (larger_of t.entry near)
    entries =
        same_trans (c.larger s.entry near) (larger_of s.entry near) (larger_of t.entry near)
        (c.larger_is s.entry near (same_some s.entry t.entry p.entry p.entry_some))
        (larger-same s.entry near t.entry p.entry)

    exits : SameNumber (c.smaller s.exit far) (smaller_of t.exit far)
    exits =
        same_trans (c.smaller s.exit far) (smaller_of s.exit far) (smaller_of t.exit far)
        (c.smaller_is s.exit far (same_some s.exit t.exit p.exit p.exit_some))
        (smaller_same s.exit far t.exit p.exit)

    ends : SameSpan (record { entry = c.larger s.entry near; exit = c.smaller s.exit far }) (record { entry = larger_of t.entry near; exit = smaller_of t.exit far })
    ends =
        record {
          entry = entries;
          exit = exits;
          entry_some = larger-some t.entry near p.entry_some;
          exit_some = smaller_some t.exit far p.exit_some;
        }

slab-same : (c : Choice) (f : Format) (e : ℕ) (o d : Float) (s t : Span) → SameSpan s t → Spans (slab_by c f e o d s) (slab f e o d t)
unfolding slab
slab-same c f e o d s t p =
    let near : Float = div f (sub f zero_f o) d in
    let far : Float = div f (sub f (number_f f e) o) d in
    spans_either (eq d zero_f) (cond (lt o zero_f || le (number_f f e) o) none (some s)) (cond (lt far near) (cut_by c far near s) (cut_by c near far s))
    (cond (lt o zero_f || le (number_f f e) o) none (some t)) (cond (lt far near) (cut_to far near t) (cut_to near far t))
    (spans_either (lt o zero_f || le (number_f f e) o) none (some s) none (some t) tt p)
    (spans_either (lt far near) (cut_by c far near s) (cut_by c near far s) (cut_to far near t) (cut_to near far t) (cut_same c far near s t p) (cut_same c near far s t p))

slabs-same : (c : ℕ → Choice) (k : ℕ) (f : Format) (es : List ℕ) (os ds : List Float) (s t : Span) → SameSpan s t → Spans (slabs_by c k f es os ds s) (slabs f es os ds t)
unfolding slabs
slabs-same c k f [] os ds s t p = p
slabs-same c k f (e ∷ es) [] ds s t p = p
slabs-same c k f (e ∷ es) (o ∷ os) [] s t p = p
slabs-same c k f (e ∷ es) (o ∷ os) (d ∷ ds) s t p =
    go (slab_by (c k) f e o d s) (slab f e o d t) (slab-same (c k) f e o d s t p) (λ u v q. slabs-same c (suc k) f es os ds u v q)
  where
    go : (x y : Option Span) → Spans x y → ((u v : Span) → SameSpan u v → Spans (slabs_by c (suc k) f es os ds u) (slabs f es os ds v))
        → Spans (unless_missed x (λ u. slabs_by c (suc k) f es os ds u)) (unless_missed y (λ u. slabs f es os ds u))
    go none none q on = tt
    go none (some v) q on = absurd q
    go (some u) none q on = absurd q
    go (some u) (some v) q on = on u v q

-- ---- marks
plot_same : (f : Format) (es : List ℕ) (last : Bool) (xs ys us vs : List Float) → SamePoint xs us → SamePoint ys vs
    → and_then (plotter f xs ys) (λ l. given (marks_along es last (line_cells f l))) ≡ and_then (plotter f us vs) (λ l. given (marks_along es last (line_cells f l)))
unfolding plotter
plot_same f es last xs ys us vs p q = rw (deltas-same f xs ys us vs p q) (go (all_finite (deltas f us vs)))
  where
    go : (b : Bool)
        → and_then (cond b (given (line_between f (primary_of (deltas f us vs)) xs ys)) (refused ray)) (λ l. given (marks_along es last (line_cells f l)))
        ≡ and_then (cond b (given (line_between f (primary_of (deltas f us vs)) us vs)) (refused ray)) (λ l. given (marks_along es last (line_cells f l)))
    go true = ap (λ cs. given (marks_along es last cs)) (line_same f (primary_of (deltas f us vs)) xs ys us vs p q)
    go false = refl

clipped-same : (f : Format) (es : List ℕ) (hit : Bool) (s t : Float) (xs ys us vs : List Float) → SameNumber s t → SamePoint xs us → SamePoint ys vs
    → marks_between f es hit (clipped_at f es s xs ys) ≡ marks_between f es hit (clipped_at f es t us vs)
unfolding clipped_at is_inside marks_between
clipped-same f es hit s t xs ys us vs e p q =
    rw (beyond_same f es xs ys us vs p q, same-le one_f s t e, within_same f es ys vs q) (go (both_beyond f es us vs))
  where
    go : (b : Bool)
        → marks_between f es hit (cond b none (some (record { entry = clamp_point f es xs; exit = clamp_point f es ys; inside = le one_f t && all_within f es vs })))
        ≡ marks_between f es hit (cond b none (some (record { entry = clamp_point f es us; exit = clamp_point f es vs; inside = le one_f t && all_within f es vs })))
    go true = refl
    go false =
        plot_same f es (hit && (le one_f t && all_within f es vs)) (clamp_point f es xs) (clamp_point f es ys) (clamp_point f es us) (clamp_point f es vs)
        (clamped-same f es xs us p) (clamped-same f es ys vs q)

pub the_sign_of_a_zero_fraction_never_shows : NeverShows
unfolding beam_marks clip is_nan
the_sign_of_a_zero_fraction_never_shows c f es b =
    ap (λ (m : Answer (List Mark)). cond (all_finite b.origin && all_finite b.endpoint) m (refused ray))
    (go (slabs_by c 0 f es xs ds whole_span) (slabs f es xs ds whole_span) (slabs-same c 0 f es xs ds whole_span whole_span whole))
  where
    whole : SameSpan whole_span whole_span
    whole = record { entry = inl refl; exit = inl refl; entry_some = refl; exit_some = refl }

    xs : List Float
    xs = b.origin

    ds : List Float
    ds = directions f b.origin b.endpoint

    go : (x y : Option Span) → Spans x y
        → marks_between f es b.hit (unless_missed x (λ s. clipped_at f es s.exit (point_at f s.entry xs ds) (point_at f s.exit xs ds)))
        ≡ marks_between f es b.hit (unless_missed y (λ s. clipped_at f es s.exit (point_at f s.entry xs ds) (point_at f s.exit xs ds)))
    go none none q = refl
    go none (some t) q = absurd q
    go (some s) none q = absurd q
    go (some s) (some t) q =
        clipped-same f es b.hit s.exit t.exit (point_at f s.entry xs ds) (point_at f s.exit xs ds) (point_at f t.entry xs ds) (point_at f t.exit xs ds) q.exit
        (point-same f s.entry t.entry q.entry xs ds) (point-same f s.exit t.exit q.exit xs ds)
