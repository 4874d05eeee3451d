-- Requirements, "One beam", and a list of beams: from a beam to its marks, which do not depend on the odds and stamps.
-- Definitions only.
use Rattle.std.specs.Prelude.{ℕ, suc, ◌+◌, ◌*◌, Bool, true, false, cond, ◌&&◌, ◌||◌, List, [], ◌∷◌, ◌++◌, ℤ, eqb, ltb, length, take, drop, Float}
use Rattle.std.proofs.Math.Option.{Option, some, none}
use Rattle.std.specs.Float.{Format}
use Rattle.std.specs.Float.Ieee.{add, sub, mul, div, lt, le, eq}
use Rattle.rules.specs.Floats.{zero_f, one_f, half_f, number_f, all_finite}
use Rattle.rules.specs.RefusalNumbers.{Answer, given, refused, and_then, ray, ray_in_list}
use Rattle.rules.specs.TheGridAndItsBounds.{Model, Grid}
use Rattle.rules.specs.Coordinates.{within, flat_index}
use Rattle.rules.specs.TheLine.{Line, plotter, line_cells}
use Rattle.rules.specs.MarksAndFrames.{Mark, clamp, marked, changes}

-- a beam: where it starts, where it stops, and whether it stopped on cloud
pub record Beam : Type 0 where
  pub origin : List Float
  pub endpoint : List Float
  pub hit : Bool

-- the fractions of a beam between which it lies in the slabs so far: "(from 0 and 1)"
pub record Span : Type 0 where
  pub entry : Float
  pub exit : Float

abbrev pub whole_span : Span
whole_span = record { entry = zero_f; exit = one_f }

-- "entry = larger of entry and near, exit = smaller of exit and far"; "entry > exit misses"
unfoldable pub larger_of : Float → Float → Float
larger_of a b = cond (lt a b) b a

unfoldable pub smaller_of : Float → Float → Float
smaller_of a b = cond (lt b a) b a

unfoldable pub cut_to : Float → Float → Span → Option Span
cut_to near far s =
    let entry : Float = larger_of s.entry near in
    let exit : Float = smaller_of s.exit far in
    cond (lt exit entry) none (some (record { entry = entry; exit = exit }))

-- "direction = endpoint - origin; per axis, direction 0 misses if origin < 0 or >= extent; otherwise near =
-- (0-origin)/direction, far = (extent-origin)/direction, exchanged if near > far"
unfoldable pub slab : Format → ℕ → Float → Float → Span → Option Span
slab f e o d s =
    let near : Float = div f (sub f zero_f o) d in
    let far : Float = div f (sub f (number_f f e) o) d in
    cond (eq d zero_f)
    (cond (lt o zero_f || le (number_f f e) o) none (some s))
    (cond (lt far near) (cut_to far near s) (cut_to near far s))

abbrev pub unless_missed : {A B : Type 0} → Option A → (A → Option B) → Option B
unless_missed (some a) go = go a
unless_missed none go = none

unfoldable pub slabs : Format → List ℕ → List Float → List Float → Span → Option Span
slabs f [] os ds s = some s
slabs f (e ∷ es) [] ds s = some s
slabs f (e ∷ es) (o ∷ os) [] s = some s
slabs f (e ∷ es) (o ∷ os) (d ∷ ds) s = unless_missed (slab f e o d s) (λ t. slabs f es os ds t)

unfoldable pub directions : Format → List Float → List Float → List Float
directions f [] ys = []
directions f (x ∷ xs) [] = []
directions f (x ∷ xs) (y ∷ ys) = sub f y x ∷ directions f xs ys

-- "Both points = origin + direction times fraction."
unfoldable pub point_at : Format → Float → List Float → List Float → List Float
point_at f t [] ds = []
point_at f t (o ∷ os) [] = []
point_at f t (o ∷ os) (d ∷ ds) = add f o (mul f d t) ∷ point_at f t os ds

-- "If on some axis both are >= extent, it misses."
unfoldable pub both_beyond : Format → List ℕ → List Float → List Float → Bool
both_beyond f [] xs ys = false
both_beyond f (e ∷ es) [] ys = false
both_beyond f (e ∷ es) (x ∷ xs) [] = false
both_beyond f (e ∷ es) (x ∷ xs) (y ∷ ys) = (le (number_f f e) x && le (number_f f e) y) || both_beyond f es xs ys

-- "Inside means exit fraction >= 1 and the computed exit point in [0, extent) on every axis."
unfoldable pub all_within : Format → List ℕ → List Float → Bool
all_within f [] xs = true
all_within f (e ∷ es) [] = true
all_within f (e ∷ es) (x ∷ xs) = within f e x && all_within f es xs

unfoldable pub is_inside : Format → List ℕ → Float → List Float → Bool
is_inside f es t xs = le one_f t && all_within f es xs

-- "Then every coordinate is clamped to [0, extent-0.5]; NaN stays."
unfoldable pub clamp_axis : Format → ℕ → Float → Float
clamp_axis f e x = clamp zero_f (sub f (number_f f e) half_f) x

unfoldable pub clamp_point : Format → List ℕ → List Float → List Float
clamp_point f [] xs = []
clamp_point f (e ∷ es) [] = []
clamp_point f (e ∷ es) (x ∷ xs) = clamp_axis f e x ∷ clamp_point f es xs

-- the clipped segment, after the clamp; nothing for a miss
pub record Clipped : Type 0 where
  pub entry : List Float
  pub exit : List Float
  pub inside : Bool

unfoldable pub clipped_at : Format → List ℕ → Float → List Float → List Float → Option Clipped
clipped_at f es t entry exit =
    cond (both_beyond f es entry exit) none
    (some (record { entry = clamp_point f es entry; exit = clamp_point f es exit; inside = is_inside f es t exit }))

unfoldable pub clip : Format → List ℕ → List Float → List Float → Option Clipped
clip f es xs ys =
    let ds : List Float = directions f xs ys in
    unless_missed (slabs f es xs ds whole_span) (λ s. clipped_at f es s.exit (point_at f s.entry xs ds) (point_at f s.exit xs ds))

-- "All cells but the last are marked free; the last occupied if the beam is a Hit and inside, else free. Cells off the
-- grid are skipped."
abbrev pub mark_of : Bool → Answer ℕ → List Mark
mark_of occupied (given i) = record { place = i; occupied = occupied } ∷ []
mark_of occupied (refused r) = []

unfoldable pub marks_along : List ℕ → Bool → List (List ℤ) → List Mark
marks_along es last [] = []
marks_along es last (c ∷ []) = mark_of last (flat_index es c)
marks_along es last (c ∷ d ∷ cs) = mark_of false (flat_index es c) ++ marks_along es last (d ∷ cs)

-- "A miss gives count 0. The line refuses with 7"
unfoldable pub marks_between : Format → List ℕ → Bool → Option Clipped → Answer (List Mark)
marks_between f es hit none = given []
marks_between f es hit (some c) = and_then (plotter f c.entry c.exit) (λ l. given (marks_along es (hit && c.inside) (line_cells f l)))

-- "Any NaN or infinite coordinate is 7."
unfoldable pub beam_marks : Format → List ℕ → Beam → Answer (List Mark)
beam_marks f es b =
    cond (all_finite b.origin && all_finite b.endpoint)
    (marks_between f es b.hit (clip f es b.origin b.endpoint))
    (refused ray)

-- a beam on a grid: the count, and the grid after it
pub record Integrated : Type 0 where
  pub answer : Answer ℕ
  pub grid : Grid

abbrev pub integrated_marks : Format → Model → ℕ → Grid → Answer (List Mark) → Integrated
integrated_marks f m k g (given xs) = record { answer = given (changes f m k xs g); grid = marked f m k xs g }
integrated_marks f m k g (refused r) = record { answer = refused r; grid = g }

unfoldable pub integrated_beam : Format → List ℕ → Model → ℕ → Beam → Grid → Integrated
integrated_beam f es m k b g = integrated_marks f m k g (beam_marks f es b)

-- "7 Ray .. in a list: beam's place, from 0, and count so far"; "a list refused at one beam keeps the beams before it"
abbrev pub or_stop : ℕ → ℕ → Grid → Answer ℕ → (ℕ → Integrated) → Integrated
or_stop place count g (given n) go = go (count + n)
or_stop place count g (refused r) go = record { answer = refused (ray_in_list place count); grid = g }

unfoldable pub integrated_from : Format → List ℕ → Model → ℕ → ℕ → ℕ → List Beam → Grid → Integrated
integrated_from f es m k place count [] g = record { answer = given count; grid = g }
integrated_from f es m k place count (b ∷ bs) g =
    let r : Integrated = integrated_beam f es m k b g in
    or_stop place count r.grid r.answer (λ n. integrated_from f es m k (suc place) n bs r.grid)

unfoldable pub integrated : Format → List ℕ → Model → ℕ → List Beam → Grid → Integrated
integrated f es m k bs g = integrated_from f es m k 0 0 bs g

-- "flat list: .. 2N numbers (origin, then endpoint) and one byte per beam, or a byte not 0 or 1 (1 is Hit)"
unfoldable pub all_bits : List ℕ → Bool
all_bits [] = true
all_bits (b ∷ bs) = ltb b 2 && all_bits bs

unfoldable pub flat_shape : ℕ → List Float → List ℕ → Bool
flat_shape n numbers hits = eqb (length numbers) (2 * n * length hits) && all_bits hits

unfoldable pub beams_of : ℕ → List Float → List ℕ → List Beam
beams_of n numbers [] = []
beams_of n numbers (h ∷ hs) =
    record { origin = take n numbers; endpoint = take n (drop n numbers); hit = eqb h 1 } ∷ beams_of n (drop (2 * n) numbers) hs
