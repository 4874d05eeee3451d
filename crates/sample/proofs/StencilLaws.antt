-- Laws of the rules' stencil, over any number of axes: what one axis says of a whole stencil, and that the cell above
-- the stencil's is still on the grid, so that every corner is a real cell. Last, that the maps to the rules have ways
-- back. Assumes nothing.
use Rattle.std.proofs.Common.{◌≡◌, ℕ, suc, ◌+◌, ◌-◌, ◌*◌, ◌/◌, ◌^◌, ◌<◌, ◌≤◌, min, Bool, true, false, cond, ◌&&◌, T, eqb, ltb, leb, List, [], ◌∷◌, get_or, pos, neg_ℤ, nat_abs, refl, arith, ltb-false, eqb-true, le-leb, leb-false, leb-true}
use mathlib.Core.Option.{Option, some, none}
use native.Mathlib.Nat.{zero-div}
use lib.Signed.{non_neg}
use lib.Ieee.{Float, nan, inf, fin, Format, up, down, sub, le, lt, eq, to_signed}
use borrow.Author.Tests.{lt-leb}
use Rattle.rules.specs.Floats.{zero_f, one_f, number_f}
use Rattle.rules.specs.RefusalNumbers.{dimension_too_small}
use Rattle.rules.specs.RefusalNumbers.Entries.{first_too_small}
use Rattle.rules.specs.TheGridAndItsBounds.{least_extent, all_at_least}
use Rattle.rules.specs.Coordinates.{StencilAxis, truncated, folded_axis, stencil_axis, stencil, joined}
use Rattle.types.proofs.Injective.{Injective, of_back}
use Rattle.types.proofs.InjectiveAnswers.{found_injective}
use Rattle.sample.specs.declared.stencil.StencilAxis as Code
use Rattle.sample.specs.declared.stencil.Stencil2.{Stencil2}
use Rattle.sample.specs.declared.stencil.Stencil3.{Stencil3}
use Rattle.sample.specs.Stencil.{axis_of, on_axis, stencil2, stencil3, stencilled2, stencilled3}

left : (a b : Bool) → (a && b) ≡ true → a ≡ true
left true b h = refl
left false b h = h

right : (a b : Bool) → (a && b) ≡ true → b ≡ true
right true b h = h
right false b h = let z : ◌≡◌ {A = ℕ} 0 1 = cc in absurd (omega arith)

-- ---- a coordinate that is not below zero has no cell below zero
-- a number that equals 0
zero_of : (a b : ℕ) (t : Bool) → (eqb (0 * a) (b * 1) && t) ≡ true → b ≡ 0
zero_of a b t h = omega (arith, eqb-true (0 * a) (b * 1) (left (eqb (0 * a) (b * 1)) t h))

-- the cell of -0.0
none_below : (a k : ℕ) → a ≡ 0 → T (non_neg (neg_ℤ (pos (min (a / k) (2 ^ 63)))))
none_below a k e = rw (e, zero-div) tt

pub cell-not-below : (x : Float) → le zero_f x ≡ true → T (non_neg (truncated x))
unfolding le lt eq truncated to_signed
cell-not-below nan h = tt
cell-not-below (inf true) h = let z : ◌≡◌ {A = ℕ} 0 1 = cc in absurd (omega arith)
cell-not-below (inf false) h = tt
cell-not-below (fin false m e) h = tt
cell-not-below (fin true m e) h = none_below (m * up e) (down e) (zero_of (down e) (m * up e) _ h)

-- ---- one axis
-- the cell above the stencil's is on the grid
folded_above : (f : Format) (e : ℕ) (x : Float) (c : ℕ) → least_extent ≤ e → (folded_axis f e x c).cell + 1 < e
unfolding folded_axis
folded_above f e x c h = go (leb e (c + 1)) refl
  where
    go : (b : Bool) → leb e (c + 1) ≡ b
        → (cond {A = StencilAxis} b (record { cell = e - 2; offset = one_f }) (record { cell = c; offset = sub f x (number_f f c) })).cell + 1 < e
    go true t = omega arith
    go false t = omega (arith, leb-false e (c + 1) t)

pub cell-above : (f : Format) (e : ℕ) (x : Float) (a : StencilAxis) → least_extent ≤ e → stencil_axis f e x ≡ some a → a.cell + 1 < e
unfolding stencil_axis
cell-above f e x a h q = go (le zero_f x && le x (number_f f (e - 1))) q
  where
    go : (b : Bool) → cond b (some (folded_axis f e x (nat_abs (truncated x)))) none ≡ some a → a.cell + 1 < e
    go true q = let k : folded_axis f e x (nat_abs (truncated x)) ≡ a = cc in rw k at (folded_above f e x (nat_abs (truncated x)) h)
    go false q = let z : ◌≡◌ {A = ℕ} 0 1 = cc in absurd (omega arith)

-- ---- one axis by the tests that the code made: o is its one, n its number of the cell, z its zero, and top its
-- highest coordinate of a stencil
module _ (f : Format) (e : ℕ) (x : Float) where
  pub folded : (c : ℕ) {o : Float} → o ≡ one_f → e ≤ c + 1 → ◌≡◌ {A = StencilAxis} (record { cell = e - 2; offset = o }) (folded_axis f e x c)
  unfolding folded_axis
  folded c h l = rw (le-leb e (c + 1) l, h) refl

  pub in_its_cell : (c : ℕ) {n : Float} → n ≡ number_f f c → c + 1 < e → ◌≡◌ {A = StencilAxis} (record { cell = c; offset = sub f x n }) (folded_axis f e x c)
  unfolding folded_axis
  in_its_cell c h l = rw (lt-leb e (c + 1) l, h) refl

  module _ {z top : Float} (o : z ≡ zero_f) (l : top ≡ number_f f (e - 1)) where
    pub below_domain : le z x ≡ false → none ≡ stencil_axis f e x
    unfolding stencil_axis
    below_domain p = simp (rw o at p)

    pub above_domain : le z x ≡ true → le x top ≡ false → none ≡ stencil_axis f e x
    unfolding stencil_axis
    above_domain p q = simp (rw o at p, rw l at q)

    pub in_domain : {c : ℕ} {a : StencilAxis} → le z x ≡ true → le x top ≡ true → c ≡ nat_abs (truncated x) → a ≡ folded_axis f e x c → some a ≡ stencil_axis f e x
    unfolding stencil_axis
    in_domain p q h k = simp (rw o at p, rw l at q, k, h)

-- ---- an axis and the axes after it
module _ (f : Format) (e : ℕ) (es : List ℕ) (x : Float) (xs : List Float) where
  pub axis_off : stencil_axis f e x ≡ none → stencil f (e ∷ es) (x ∷ xs) ≡ none
  unfolding stencil
  axis_off h = go (stencil f es xs)
    where
      go : (o : Option (List StencilAxis)) → joined (stencil_axis f e x) o ≡ none
      go (some as') = rw h
      go none = rw h

  pub axis_then_off : (a : StencilAxis) → stencil_axis f e x ≡ some a → stencil f es xs ≡ none → stencil f (e ∷ es) (x ∷ xs) ≡ none
  unfolding stencil
  axis_then_off a g h = rw (g, h)

  pub axis_in : (a : StencilAxis) (as' : List StencilAxis)
      → stencil_axis f e x ≡ some a → stencil f es xs ≡ some as' → stencil f (e ∷ es) (x ∷ xs) ≡ some (a ∷ as')
  unfolding stencil
  axis_in a as' g h = rw (g, h)

pub no_axes : (f : Format) (xs : List Float) → stencil f [] xs ≡ some []
unfolding stencil
no_axes f xs = refl

-- ---- the extents, axis by axis
pub at_least_first : (n e : ℕ) (es : List ℕ) → all_at_least n (e ∷ es) ≡ true → n ≤ e
unfolding all_at_least
at_least_first n e es h = leb-true n e (left (leb n e) (all_at_least n es) h)

pub at_least_rest : (n e : ℕ) (es : List ℕ) → all_at_least n (e ∷ es) ≡ true → all_at_least n es ≡ true
unfolding all_at_least
at_least_rest n e es h = right (leb n e) (all_at_least n es) h

-- whoever refuses with 1 has it
pub none_too_small : (k : ℕ) (es : List ℕ) → first_too_small k es ≡ none → all_at_least least_extent es ≡ true
unfolding first_too_small all_at_least
none_too_small k [] h = refl
none_too_small k (e ∷ es) h = go (ltb e least_extent) refl h (none_too_small (suc k) es)
  where
    go : (b : Bool) → ltb e least_extent ≡ b → cond b (some (dimension_too_small k e)) (first_too_small (suc k) es) ≡ none
        → (first_too_small (suc k) es ≡ none → all_at_least least_extent es ≡ true) → (leb least_extent e && all_at_least least_extent es) ≡ true
    go true t q r = let z : ◌≡◌ {A = ℕ} 0 1 = cc in absurd (omega arith)
    go false t q r = rw (le-leb least_extent e (ltb-false e least_extent t), r q)

-- ---- each map to the rules is injective, so a contract that fixes what an answer stands for fixes the answer
abbrev axis_back : StencilAxis → Code.StencilAxis
axis_back a = record { cell = a.cell; offset = a.offset }

-- the axis at a place of the list
abbrev nth : List StencilAxis → ℕ → Code.StencilAxis
nth as' k = axis_back (get_or as' k (record { cell = 0; offset = nan }))

abbrev stencil2_back : List StencilAxis → Stencil2
stencil2_back as' = record { x = nth as' 0; y = nth as' 1 }

abbrev stencil3_back : List StencilAxis → Stencil3
stencil3_back as' = record { x = nth as' 0; y = nth as' 1; z = nth as' 2 }

pub axis_of_injective : Injective axis_of
axis_of_injective = of_back axis_of axis_back (λ a. refl)

pub stencil2_injective : Injective stencil2
stencil2_injective = of_back stencil2 stencil2_back (λ s. refl)

pub stencil3_injective : Injective stencil3
stencil3_injective = of_back stencil3 stencil3_back (λ s. refl)

pub on_axis_injective : Injective on_axis
on_axis_injective = found_injective axis_of axis_of_injective

pub stencilled2_injective : Injective stencilled2
stencilled2_injective = found_injective stencil2 stencil2_injective

pub stencilled3_injective : Injective stencilled3
stencilled3_injective = found_injective stencil3 stencil3_injective
