-- Dividing tells whether there are so many numbers for each of so many things, as points or charts. Assumes nothing.
use Prim.Native.Nat.{ℕ, ◌*◌, ◌/◌, ◌%◌, ◌<◌}
use mathlib.Core.Bool.{Bool, true, false}
use mathlib.Core.Path.{◌≡◌, refl, sym, ap, ◌∙◌}
use native.Mathlib.Nat.{div-add-mod, mul-div_right, mul-mod_right}
use native.Mathlib.Omega.{arith}
use lib.Dec.{eqb}
use borrow.Author.Tests.{eqb-true, eq-eqb, ne_eqb}

-- nothing is left over: the quotient decides
pub quotient_decides : (numbers size points : ℕ) → 0 < size → numbers % size ≡ 0 → eqb (numbers / size) points ≡ eqb numbers (size * points)
quotient_decides numbers size points h e = go (eqb (numbers / size) points) refl
  where
    whole : size * (numbers / size) ≡ numbers
    whole = let d = div-add-mod numbers size in omega (arith, d, e)

    go : (b : Bool) → eqb (numbers / size) points ≡ b → b ≡ eqb numbers (size * points)
    go true p = sym (eq-eqb numbers (size * points) (sym whole ∙ ap (λ (q : ℕ). size * q) (eqb-true (numbers / size) points p)))
    go false p = sym (ne_eqb numbers (size * points) (λ q. absurd_quotient q))
      where
        absurd_quotient : numbers ≡ size * points → ⊥
        absurd_quotient q =
            let same : numbers / size ≡ points = ap (λ (m : ℕ). m / size) q ∙ mul-div_right points h in
            let t = eq-eqb (numbers / size) points same in
            let z : ◌≡◌ {A = Bool} true false = sym t ∙ p in
            let y : ◌≡◌ {A = ℕ} 0 1 = cc in
            omega arith

-- something is left over: there are not
pub left_over : (numbers size points : ℕ) → ¬ (numbers % size ≡ 0) → eqb numbers (size * points) ≡ false
left_over numbers size points h = ne_eqb numbers (size * points) (λ q. h (ap (λ (m : ℕ). m % size) q ∙ mul-mod_right size points))
