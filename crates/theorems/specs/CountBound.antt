-- "The count is the marks that changed a cell, never more than the largest extent": of every beam, on any number of
-- axes, in every format. Assumes nothing.
pub mod ClampedLine
use Rattle.std.specs.Prelude.{◌≡◌, refl, List, [], ◌∷◌, ℕ, ◌≤◌, Bool, true, false, ◌&&◌, cond, ℤ, T, length, Float}
use Rattle.std.proofs.Common.{ap, subst, zero-le, le_trans, le_of_eq, arith, length-append}
use Rattle.std.proofs.Math.Option.{Option, some, none}
use Rattle.std.specs.Float.{Format}
use Rattle.rules.specs.Floats.{all_finite}
use Rattle.rules.specs.RefusalNumbers.{Answer, given, refused, and_then, ray}
use Rattle.rules.specs.TheGridAndItsBounds.{Model, Grid, extents_in_bounds}
use Rattle.rules.specs.Coordinates.{flat_index}
use Rattle.rules.specs.TheLine.{Line, plotter, line_cells}
use Rattle.rules.specs.MarksAndFrames.{Mark, mark_at, changes, with_cell}
use Rattle.rules.specs.OneBeam.{Beam, Span, Clipped, clamp_point, slabs, directions, point_at, whole_span, clipped_at, clip, both_beyond, is_inside, unless_missed}
use Rattle.rules.specs.OneBeam.{mark_of, marks_along, marks_between, beam_marks, integrated_beam, integrated_marks}
use Rattle.theorems.specs.CountBound.ClampedLine.{largest, cells-most}

-- ---- one mark for a cell at most, and one change for a mark
mark_one : (b : Bool) (a : Answer ℕ) → length (mark_of b a) ≤ 1
mark_one b (given i) = le_of_eq refl
mark_one b (refused r) = zero-le

pub marks_along_lem : (es : List ℕ) (last : Bool) (cs : List (List ℤ)) → length (marks_along es last cs) ≤ length cs
unfolding marks_along
marks_along_lem es last [] = zero-le
marks_along_lem es last (c ∷ []) = mark_one last (flat_index es c)
marks_along_lem es last (c ∷ d ∷ cs) =
    omega (arith, length-append (mark_of false (flat_index es c)) (marks_along es last (d ∷ cs)), mark_one false (flat_index es c), marks_along_lem es last (d ∷ cs))

pub changes-most : (f : Format) (m : Model) (k : ℕ) (xs : List Mark) (g : Grid) → changes f m k xs g ≤ length xs
unfolding changes
changes-most f m k [] g = zero-le
changes-most f m k (x ∷ xs) g =
    omega (arith, one (mark_at f m k x g).changed, changes-most f m k xs (with_cell g x.place (mark_at f m k x g).cell))
  where
    one : (b : Bool) → cond {A = ℕ} b 1 0 ≤ 1
    one true = le_of_eq refl
    one false = zero-le

-- ---- both ends of a clipped segment are clamped
pub record Clamped (f : Format) (es : List ℕ) (c : Clipped) : Type 0 where
  pub start : List Float
  pub end : List Float
  pub start_is : clamp_point f es start ≡ c.entry
  pub end_is : clamp_point f es end ≡ c.exit

pub clip_clamps : (f : Format) (es : List ℕ) (xs ys : List Float) (c : Clipped) → clip f es xs ys ≡ some c → Clamped f es c
unfolding clip clipped_at
clip_clamps f es xs ys c e = go (slabs f es xs (directions f xs ys) whole_span) e
  where
    ds : List Float
    ds = directions f xs ys

    within : (t : Float) (p q : List Float) (b : Bool)
        → cond b none (some (record { entry = clamp_point f es p; exit = clamp_point f es q; inside = is_inside f es t q })) ≡ some c → Clamped f es c
    within t p q true e = let z : ◌≡◌ {A = ℕ} 0 1 = cc in absurd (omega arith)
    within t p q false e = record { start = p; end = q; start_is = ap-some.0; end_is = ap-some.1 }
      where
        ap-some : (clamp_point f es p ≡ c.entry) × (clamp_point f es q ≡ c.exit)
        ap-some =
            let r : record { entry = clamp_point f es p; exit = clamp_point f es q; inside = is_inside f es t q } ≡ c = cc in
            (ap (λ (c : Clipped). c.entry) r, ap (λ (c : Clipped). c.exit) r)

    go : (s : Option Span) → unless_missed s (λ s. clipped_at f es s.exit (point_at f s.entry xs ds) (point_at f s.exit xs ds)) ≡ some c → Clamped f es c
    go none e = let z : ◌≡◌ {A = ℕ} 0 1 = cc in absurd (omega arith)
    go (some s) e = within s.exit (point_at f s.entry xs ds) (point_at f s.exit xs ds) (both_beyond f es (point_at f s.entry xs ds) (point_at f s.exit xs ds)) e

-- ---- the marks of a beam, and its count
marks_between_lem : (f : Format) (es : List ℕ) (hit : Bool) (o : Option Clipped) (xs : List Mark) → T (extents_in_bounds es)
    → ((c : Clipped) → o ≡ some c → Clamped f es c) → marks_between f es hit o ≡ given xs → length xs ≤ largest es
unfolding marks_between
marks_between_lem f es hit none xs h k e = let q : xs ≡ [] = cc in rw q zero-le
marks_between_lem f es hit (some c) xs h k e = go (plotter f c.entry c.exit) refl e
  where
    w : Clamped f es c
    w = k c refl

    go : (a : Answer Line) → plotter f c.entry c.exit ≡ a → and_then a (λ l. given (marks_along es (hit && c.inside) (line_cells f l))) ≡ given xs
        → length xs ≤ largest es
    go (refused r) p e = let z : ◌≡◌ {A = ℕ} 0 1 = cc in absurd (omega arith)
    go (given l) p e =
        let ys = marks_along es (hit && c.inside) (line_cells f l) in
        let q : ys ≡ xs = cc in
        let r : plotter f (clamp_point f es w.start) (clamp_point f es w.end) ≡ given l = rw (w.start_is, w.end_is) p in
        subst (λ (zs : List Mark). length zs ≤ largest es) q
        (le_trans (marks_along_lem es (hit && c.inside) (line_cells f l)) (cells-most f es w.start w.end l h r))

pub beam_marks_lem : (f : Format) (es : List ℕ) (b : Beam) (xs : List Mark) → T (extents_in_bounds es) → beam_marks f es b ≡ given xs → length xs ≤ largest es
unfolding beam_marks
beam_marks_lem f es b xs h e = go (all_finite b.origin && all_finite b.endpoint) e
  where
    go : (t : Bool) → cond t (marks_between f es b.hit (clip f es b.origin b.endpoint)) (refused ray) ≡ given xs → length xs ≤ largest es
    go true e = marks_between_lem f es b.hit (clip f es b.origin b.endpoint) xs h (λ c p. clip_clamps f es b.origin b.endpoint c p) e
    go false e = let z : ◌≡◌ {A = ℕ} 0 1 = cc in absurd (omega arith)

-- THE COUNT BOUND: a beam's count is never more than the largest extent, whatever the grid holds
pub beam_count : (f : Format) (es : List ℕ) (m : Model) (k : ℕ) (b : Beam) (g : Grid) (n : ℕ) → T (extents_in_bounds es)
    → (integrated_beam f es m k b g).answer ≡ given n → n ≤ largest es
unfolding integrated_beam
beam_count f es m k b g n h e = go (beam_marks f es b) refl e
  where
    go : (a : Answer (List Mark)) → beam_marks f es b ≡ a → (integrated_marks f m k g a).answer ≡ given n → n ≤ largest es
    go (given xs) p e = let q : n ≡ changes f m k xs g = cc in rw q (le_trans (changes-most f m k xs g) (beam_marks_lem f es b xs h p))
    go (refused r) p e = let z : ◌≡◌ {A = ℕ} 0 1 = cc in absurd (omega arith)
