-- THE SIGN OF A ZERO FRACTION NEVER SHOWS (requirements, "One beam"). In clipping, "entry = larger of entry and near,
-- exit = smaller of exit and far"; where both are zeros of unlike sign, the original's `max` and `min` may give either.
-- Whichever they give, on each axis anew, every beam has the same marks, and is refused where it was. Of any format,
-- any number of axes, and any beam. Definitions only; `Floats` and `Lines` are the steps of the proof in `Proof`.
pub mod Floats
pub mod Lines
pub mod Proof
pub mod Examples
use Rattle.std.specs.Prelude.{ℕ, suc, false, cond, ◌&&◌, ◌||◌, List, [], ◌∷◌, ◌≡◌, Float}
use Rattle.std.proofs.Math.Option.{Option, some, none}
use Rattle.std.specs.Float.{Format}
use Rattle.std.specs.Float.Ieee.{sub, div, lt, le, eq, is_nan}
use Rattle.rules.specs.Floats.{zero_f, number_f, all_finite}
use Rattle.rules.specs.RefusalNumbers.{Answer, refused, ray}
use Rattle.rules.specs.MarksAndFrames.{Mark}
use Rattle.rules.specs.OneBeam.{Beam, Span, Clipped, whole_span, larger_of, smaller_of, unless_missed, directions, point_at, clipped_at, marks_between, beam_marks}
use Rattle.laws.specs.Floats.Zeros.{SameNumber}

-- A larger and a smaller of two numbers: the rules' own, but that where it is a zero, it may be any zero. A fraction so
-- far is never a NaN, so nothing is asked where the first of the two is one: the original's `max` and `min` give the
-- second there.
pub record Choice : Type 0 where
  pub larger : Float → Float → Float
  pub smaller : Float → Float → Float
  pub larger_is : (a b : Float) → is_nan a ≡ false → SameNumber (larger a b) (larger_of a b)
  pub smaller_is : (a b : Float) → is_nan a ≡ false → SameNumber (smaller a b) (smaller_of a b)

-- ---- the rules' clipping, with these in their place
abbrev pub cut_by : Choice → Float → Float → Span → Option Span
cut_by c near far s =
    let entry : Float = c.larger s.entry near in
    let exit : Float = c.smaller s.exit far in
    cond (lt exit entry) none (some (record { entry = entry; exit = exit }))

abbrev pub slab_by : Choice → Format → ℕ → Float → Float → Span → Option Span
slab_by c f e o d s =
    let near : Float = div f (sub f zero_f o) d in
    let far : Float = div f (sub f (number_f f e) o) d in
    cond (eq d zero_f)
    (cond (lt o zero_f || le (number_f f e) o) none (some s))
    (cond (lt far near) (cut_by c far near s) (cut_by c near far s))

-- a choice for each axis
abbrev pub slabs_by : (ℕ → Choice) → ℕ → Format → List ℕ → List Float → List Float → Span → Option Span
slabs_by c k f [] os ds s = some s
slabs_by c k f (e ∷ es) [] ds s = some s
slabs_by c k f (e ∷ es) (o ∷ os) [] s = some s
slabs_by c k f (e ∷ es) (o ∷ os) (d ∷ ds) s = unless_missed (slab_by (c k) f e o d s) (λ t. slabs_by c (suc k) f es os ds t)

abbrev pub clip_by : (ℕ → Choice) → Format → List ℕ → List Float → List Float → Option Clipped
clip_by c f es xs ys =
    let ds : List Float = directions f xs ys in
    unless_missed (slabs_by c 0 f es xs ds whole_span) (λ s. clipped_at f es s.exit (point_at f s.entry xs ds) (point_at f s.exit xs ds))

abbrev pub marks_by : (ℕ → Choice) → Format → List ℕ → Beam → Answer (List Mark)
marks_by c f es b =
    cond (all_finite b.origin && all_finite b.endpoint)
    (marks_between f es b.hit (clip_by c f es b.origin b.endpoint))
    (refused ray)

abbrev pub NeverShows : Type 0
NeverShows = (c : ℕ → Choice) (f : Format) (es : List ℕ) (b : Beam) → marks_by c f es b ≡ beam_marks f es b
