-- What a beam leaves, by its marks, in every format: none for a miss, those along its line, or a refusal that changes
-- nothing. Assumes nothing.
use Prim.Native.Nat.{ℕ, ◌<◌}
use mathlib.Core.List.{List, [], ◌∷◌}
use mathlib.Core.Bool.{Bool, true, false, cond, ◌&&◌}
use mathlib.Core.Option.{Option, some, none, some-injective}
use mathlib.Core.Path.{◌≡◌, refl, sym, ap, ap₂}
use native.Mathlib.Omega.{arith}
use lib.Ieee.{Float, Format}
use lib.ListN.{length}
use Rattle.rules.specs.RefusalNumbers.{given, refused, ray}
use Rattle.rules.specs.TheGridAndItsBounds.{Model, Grid}
use Rattle.rules.specs.MarksAndFrames.{Mark, marked, changes}
use Rattle.rules.specs.Floats.{all_finite}
use Rattle.rules.specs.OneBeam.{Beam, Clipped, clip, marks_between, beam_marks, integrated_marks}
use Rattle.rules.specs.TheLine.{Line, plotter}
use Rattle.laws.specs.Following.{Drawn, drawn}
use Rattle.marks.specs.Marking.{grid_of}
use Rattle.std.specs.Prelude.{Ok}
use Rattle.beam.specs.Applying.{Applied, Beamed}

module _ (f : Format) (m : Model) (k : ℕ) (odds : List Float) (stamps : List ℕ) where
  pub missed : Beamed (integrated_marks f m k (grid_of odds stamps) (given [])) k stamps (Ok 0) odds stamps
  unfolding marked changes
  missed = record { is = refl; used = omega arith }

  pub integrated-along : (xs : List Mark) (n : ℕ) (odds' : List Float) (stamps' : List ℕ) → Applied f xs m k odds stamps n odds' stamps'
      → Beamed (integrated_marks f m k (grid_of odds stamps) (given xs)) k stamps (Ok n) odds' stamps'
  integrated-along xs n odds' stamps' a =
      record { is = ap₂ (λ (c : ℕ) (g : Grid). record { answer = given c; grid = g }) a.count a.grid; used = a.used }

-- ---- a line between points of one axis or more is drawn
pub drawn_between : (f : Format) (xs ys : List Float) (l : Line) → 0 < length xs → 0 < length ys → plotter f xs ys ≡ given l → Drawn l
drawn_between f [] ys l h g e = absurd (omega arith)
drawn_between f (x ∷ xs) [] l h g e = absurd (omega arith)
drawn_between f (x ∷ xs) (y ∷ ys) l h g e = drawn f x y xs ys l e

-- ---- a beam that was tried: o, e and h are what the code took for its parts
refused_or : {A B : Type 0} (b : Bool) (x : A) (p q : B) → none ≡ cond b (some x) none → cond b p q ≡ q
refused_or true x p q e = let z : ◌≡◌ {A = ℕ} 0 1 = cc in absurd (omega arith)
refused_or false x p q e = refl

clipped_to : {A B : Type 0} (b : Bool) (x y : A) (p : A → B) (q : B) → some y ≡ cond b (some x) none → cond b (p x) q ≡ p y
clipped_to true x y p q e = ap p (some-injective x y (sym e))
clipped_to false x y p q e = let z : ◌≡◌ {A = ℕ} 0 1 = cc in absurd (omega arith)

module _ (f : Format) (es : List ℕ) (b : Beam) {o e : List Float} (starts : o ≡ b.origin) (ends : e ≡ b.endpoint) where
  abbrev tried : Option (Option Clipped)
  tried = cond (all_finite o && all_finite e) (some (clip f es o e)) none

  pub not_finite : none ≡ tried → beam_marks f es b ≡ refused ray
  unfolding beam_marks
  not_finite t = rw (← starts, ← ends) (refused_or _ _ _ _ t)

  pub finite : {h : Bool} {c : Option Clipped} → h ≡ b.hit → some c ≡ tried → beam_marks f es b ≡ marks_between f es h c
  unfolding beam_marks
  finite {h = h} q t = rw (← starts, ← ends, ← q) (clipped_to _ _ _ (marks_between f es h) _ t)
