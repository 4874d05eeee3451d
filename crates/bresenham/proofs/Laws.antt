-- A line over any number of axes, in every format, by what the code's tests found: a step by what remains and which
-- axis is primary, a delta by its sign, and the plotter by the first delta that is not finite. Assumes nothing.
use Prim.Native.Nat.{ℕ, suc, ◌^◌, ◌<◌}
use mathlib.Core.Path.{◌≡◌, refl, sym, ap, ◌∙◌}
use mathlib.Core.Bool.{Bool, true, false, not, cond}
use mathlib.Core.List.{List, [], ◌∷◌}
use native.Mathlib.Omega.{arith}
use lib.IntN.{ℤ}
use lib.ListN.{length}
use lib.Signed.{mag}
use lib.Ieee.{Float, Format, sub, neg, lt, eq}
use lib.Ieee.Fits.{sub-fits}
use lib.Ieee.Scale.{finite}
use lib.Dec.{leb}
use borrow.Author.Tests.{eq-eqb, ne_eqb, not-true, not-false}
use mir.Syntax.{w64}
use mir.Val.{to_z, of_z}
use mir.ValLaws.{to_z-of_z}
use Rattle.rules.specs.Floats.{zero_f, all_finite}
use Rattle.rules.specs.RefusalNumbers.{Answer, given, refused, and_then, ray}
use Rattle.rules.specs.TheLine.{Line, Primary, none, step_of, last_step, earlier_step}
use Rattle.rules.specs.TheLine.{delta, deltas, larger, primary_from, primary_of, line_between, plotter}
use Rattle.bresenham.specs.Lines.{primary_between}
use Rattle.floats.proofs.Sizes.{sized}

module _ (f : Format) (l : Line) where
  pub over : l.remaining ≡ 0 → none ≡ step_of f l
  unfolding step_of
  over h = simp (eq-eqb _ _ h)

  pub strange : (l.remaining ≡ 0 → ⊥) → leb (length l.axes) l.primary ≡ true → none ≡ step_of f l
  unfolding step_of
  strange n h = simp (ne_eqb _ _ n, h)

  pub ends : leb (length l.axes) l.primary ≡ false → l.remaining ≡ 1 → last_step l ≡ step_of f l
  unfolding step_of
  ends p h = simp (ne_eqb l.remaining 0 (λ z. omega arith), p, eq-eqb _ _ h)

  pub goes : leb (length l.axes) l.primary ≡ false → (l.remaining ≡ 0 → ⊥) → (l.remaining ≡ 1 → ⊥) → earlier_step f l ≡ step_of f l
  unfolding step_of
  goes p n m = simp (ne_eqb _ _ n, p, ne_eqb _ _ m)

-- how far it is along an axis: z is the code's zero, s what it chose by the sign, and r by the zero
pub delta_is : (f : Format) (x y : Float) {z s r : Float} → z ≡ zero_f → s ≡ cond (lt (sub f y x) z) (neg (sub f y x)) (sub f y x) → r ≡ cond (eq (sub f y x) z) z s
    → r ≡ delta f x y
unfolding delta
delta_is f x y {z} o p q =
    q ∙ ap (λ (v : Float). cond (eq (sub f y x) z) z v) p
    ∙ ap (λ (v : Float). cond (eq (sub f y x) v) v (cond (lt (sub f y x) v) (neg (sub f y x)) (sub f y x))) o
    ∙ sized f (sub f y x) (sub-fits f y x)

module _ (f : Format) where
  -- the deltas up to the first that is not finite: d is the code's delta, and r what its test of d answered
  module _ (x y : Float) (xs ys : List Float) {d : Float} {r : Bool} (e : d ≡ delta f x y) (t : r ≡ finite d) where
    found : finite (delta f x y) ≡ r
    found = sym (ap finite e) ∙ sym t

    pub stops : not r ≡ true → all_finite (deltas f (x ∷ xs) (y ∷ ys)) ≡ false
    unfolding all_finite deltas
    stops h = simp (found ∙ not-true r h)

    pub passes : {b : Bool} → not r ≡ false → all_finite (deltas f xs ys) ≡ b → all_finite (deltas f (x ∷ xs) (y ∷ ys)) ≡ b
    unfolding all_finite deltas
    passes h g = simp (found ∙ not-false r h) g

  pub passed : all_finite (deltas f [] []) ≡ true
  unfolding all_finite deltas
  passed = refl

  -- the primary axis, an axis at a time: d is the code's delta, and next its choice between this axis and the best
  -- before it
  pub chooses : (k : ℕ) (best : Primary) (x y : Float) (xs ys : List Float) {d : Float} {next p : Primary} → d ≡ delta f x y → next ≡ larger k d best
      → p ≡ primary_from (suc k) next (deltas f xs ys) → p ≡ primary_from k best (deltas f (x ∷ xs) (y ∷ ys))
  unfolding primary_from deltas
  chooses k best x y xs ys e n h = h ∙ ap (λ (q : Primary). primary_from (suc k) q (deltas f xs ys)) (n ∙ ap (λ (z : Float). larger k z best) e)

  pub chosen : (k : ℕ) {p : Primary} → p ≡ primary_from k p (deltas f [] [])
  unfolding primary_from deltas
  chosen k = refl

  module _ (xs ys : List Float) where
    pub none_longest : all_finite (deltas f xs ys) ≡ false → refused ray ≡ primary_between f xs ys
    none_longest h = simp h

    pub longest : (z : Float) (p : Primary) → z ≡ zero_f → p ≡ primary_from 0 (record { axis = 0; delta = z }) (deltas f xs ys) → all_finite (deltas f xs ys) ≡ true
        → given p ≡ primary_between f xs ys
    unfolding primary_of
    longest z p i e h = simp (e, h, i)

-- what the plotter answers, by what it answered of the longest axis
abbrev pub along : Format → List Float → List Float → Answer Primary → Answer Line
along f xs ys a = and_then a (λ (p : Primary). given (line_between f p xs ys))

pub draws : (f : Format) (xs ys : List Float) (a : Answer Primary) → a ≡ primary_between f xs ys → along f xs ys a ≡ plotter f xs ys
unfolding plotter
draws f xs ys a h = rw h (go (all_finite (deltas f xs ys)))
  where
    p : Primary
    p = primary_of (deltas f xs ys)

    go : (b : Bool) → along f xs ys (cond b (given p) (refused ray)) ≡ cond b (given (line_between f p xs ys)) (refused ray)
    go true = refl
    go false = refl

-- a signed number that a struct holds is the number that was put there
pub held : {z v : ℤ} → mag z < 2 ^ 63 → z ≡ v → to_z w64 (of_z w64 z) ≡ v
held {z} h e = to_z-of_z w64 z (record { sfits = h }) ∙ e
