-- Coordinates that are whole numbers, -0.0 among them: their order, their cell, their offset from it, and the stencil
-- along one axis. Assumes nothing.
use Rattle.std.specs.Prelude.{◌≡◌, refl, ◌⊎◌, ℕ, ◌+◌, ◌-◌, ◌*◌, ◌/◌, ◌^◌, ◌≤◌, ◌<◌, min, Bool, true, false, not, ◌&&◌, ◌||◌, cond, pos, nat_abs, neg_ℤ, T, leb, ltb, eqb, Float}
use Rattle.std.proofs.Common.{sym, ap, ap₂, ◌∙◌, subst, inl, inr, zero-le, le_of_eq, mul-one, zero-mul, mul_right_comm, mul-div_cancel, zero-lt-suc, arith, true≢false, le-ltb, leb→le, lt→ltb, eqb→eq}
use Rattle.std.proofs.Math.Option.{some, none}
use Rattle.std.proofs.Math.Nat.{eq_of_mul-eq-mul_right}
use Rattle.std.specs.Bool.{beq}
use Rattle.std.specs.Float.{nan, inf, fin, Format}
use Rattle.std.specs.Float.Ieee.{up, down, below, level, round, sum, sub, neg, eq, le, to_signed}
use Rattle.std.specs.Float.Ieee.Bits.{is_true}
use Rattle.std.specs.Float.Ieee.Exact.{HasValue}
use Rattle.std.specs.Float.Ieee.Fits.{down_pos, and_i, and_l, and_r, eq→eqb}
use Rattle.rules.specs.Floats.{zero_f, one_f, number_f}
use Rattle.rules.specs.TheGridAndItsBounds.{least_extent, most_extent}
use Rattle.rules.specs.Coordinates.{StencilAxis, truncated, folded_axis, stencil_axis}
use Rattle.laws.specs.Floats.Tests.{or_l, or_r, order}
use Rattle.laws.specs.Floats.Values.{add_value, lt_value, eq_value}
use Rattle.laws.specs.Floats.Sizes.{number_value}
use Rattle.laws.specs.Floats.Zeros.{is_zero, round-zero}
use Rattle.theorems.specs.WholeSample.Sums.{Weight}

-- ---- x is the whole number n: it may be -0
abbrev pub At : Float → ℕ → Type 0
At x n = (s : Bool) × HasValue x s n 1 × (T s → n ≡ 0)

pub at_of_eq : (x y : Float) (n : ℕ) → HasValue y false n 1 → T (eq x y) → At x n
unfolding eq
at_of_eq nan y n v h = absurd h
at_of_eq (inf s) nan n v h = absurd h
at_of_eq (inf s) (inf t) n v h = absurd v
at_of_eq (inf s) (fin t k g) n v h = absurd h
at_of_eq (fin s m e) nan n v h = absurd h
at_of_eq (fin s m e) (inf t) n v h = absurd h
at_of_eq (fin s m e) (fin t k g) n v h =
    let A = m * up e * down g in
    let B = k * up g * down e in
    let q : A ≡ B = eqb→eq A B (and_l (eqb A B) (beq s t || eqb A 0) h) in
    let w : m * up e ≡ n * down e = eq_of_mul-eq-mul_right (down g) (down_pos g) (m * up e) (n * down e)
    (q ∙ ap (λ (x : ℕ). x * down e) (sym (mul-one (k * up g)) ∙ v.1) ∙ mul_right_comm n (down g) (down e)) in
    let o : (T s → A ≡ 0) = λ z. both_signs s t A z v.0 (and_r (eqb A B) (beq s t || eqb A 0) h) in
    (s, (refl, mul-one (m * up e) ∙ w), λ z. no_number n (down e) (down g) (down_pos e) (down_pos g) (sym (ap (λ (x : ℕ). x * down g) w) ∙ o z))
  where
    both_signs : (s t : Bool) (a : ℕ) → T s → t ≡ false → T (beq s t || eqb a 0) → a ≡ 0
    both_signs false t a z e h = absurd z
    both_signs true true a z e h = absurd (true≢false e)
    both_signs true false a z e h = eqb→eq a 0 h

    no_number : (n a b : ℕ) → 0 < a → 0 < b → n * a * b ≡ 0 → n ≡ 0
    no_number n a b A B h =
        eq_of_mul-eq-mul_right a A n 0 (eq_of_mul-eq-mul_right b B (n * a) (0 * a) (h ∙ sym (ap (λ (x : ℕ). x * b) (zero-mul a) ∙ zero-mul b)))

at_number : (f : Format) (n : ℕ) → n ≤ most_extent → At (number_f f n) n
at_number f n h = (false, number_value f n h, λ z. absurd z)

-- the order of two whole numbers
at-le : (x y : Float) (n k : ℕ) → At x n → At y k → n ≤ k → T (le x y)
unfolding le
at-le x y n k p q h =
    subst (λ (t : Bool). T t)
    (sym (ap₂ (λ (i j : Bool). i || j) (lt_value x y p.0 q.0 n k 1 (zero-lt-suc 0) p.1 q.1) (eq_value x y p.0 q.0 n k 1 (zero-lt-suc 0) p.1 q.1)))
    (go p.0 q.0 p.2 q.2)
  where
    go : (s t : Bool) → (T s → n ≡ 0) → (T t → k ≡ 0) → T (below s n t k || level s n t k)
    go false false a b = plain (order n k)
      where
        plain : (n < k) ⊎ (k ≤ n) → T (ltb n k || (eqb n k && true))
        plain (inl g) = or_l (ltb n k) (eqb n k && true) (lt→ltb n k g)
        plain (inr g) = or_r (ltb n k) (eqb n k && true) (and_i (eqb n k) true (eq→eqb {a = n} {b = k} (omega arith)) tt)
    go true false a b = signed (order 0 (n + k))
      where
        signed : (0 < n + k) ⊎ (n + k ≤ 0) → T (ltb 0 (n + k) || (eqb n k && eqb n 0))
        signed (inl g) = or_l (ltb 0 (n + k)) (eqb n k && eqb n 0) (lt→ltb 0 (n + k) g)
        signed (inr g) = or_r (ltb 0 (n + k)) (eqb n k && eqb n 0) (and_i (eqb n k) (eqb n 0) (eq→eqb {a = n} {b = k} (omega arith)) (eq→eqb {a = n} {b = 0} (omega arith)))
    go false true a b = and_i (eqb n k) (eqb n 0) (eq→eqb {a = n} {b = k} (omega (arith, b tt))) (eq→eqb {a = n} {b = 0} (omega (arith, b tt)))
    go true true a b = or_r (ltb k n) (eqb n k && true) (and_i (eqb n k) true (eq→eqb {a = n} {b = k} (omega (arith, a tt, b tt))) tt)

at_cut : (x : Float) (n : ℕ) → At x n → n < most_extent → truncated x ≡ pos n
unfolding truncated to_signed
at_cut nan n h l = absurd h.1
at_cut (inf t) n h l = absurd h.1
at_cut (fin t m e) n h l =
    ap (λ (a : ℕ). cond t (neg_ℤ (pos (min a (2 ^ 63)))) (pos (min a (2 ^ 63 - 1))))
    (ap (λ (a : ℕ). a / down e) (sym (mul-one (m * up e)) ∙ h.1.1) ∙ mul-div_cancel n (down_pos e))
    ∙ go t (λ z. h.2 (subst (λ (b : Bool). T b) h.1.0 z))
  where
    under : (n : ℕ) → n < most_extent → min n (2 ^ 63 - 1) ≡ n
    under n l = omega arith

    go : (t : Bool) → (T t → n ≡ 0) → cond t (neg_ℤ (pos (min n (2 ^ 63)))) (pos (min n (2 ^ 63 - 1))) ≡ pos n
    go true z = rw (z tt)
    go false z = ap pos (under n l)

-- ---- the offset of a whole number from its own cell
neg_value : (y : Float) (c d : ℕ) → HasValue y false c d → HasValue (neg y) true c d
unfolding neg
neg_value nan c d v = absurd v
neg_value (inf s) c d v = absurd v
neg_value (fin s m e) c d v = (ap not v.0, v.1)

difference : (f : Format) (s : Bool) (c d : ℕ) → 0 < d → (T s → c ≡ 0) → T (is_zero (sum f s c true c d))
unfolding sum
difference f true c d D z = round-zero f true (c + c) d D (omega (arith, z tt))
difference f false c d D z =
    subst (λ (t : Bool). T (is_zero (cond t (round f true (c - c) d) (round f false (c - c) d)))) (sym (le-ltb c c (le_of_eq refl)))
    (round-zero f false (c - c) d D (omega arith))

no_offset : (f : Format) (x : Float) (n : ℕ) → At x n → n < most_extent → T (is_zero (sub f x (number_f f n)))
unfolding sub
no_offset f x n h l =
    subst (λ (y : Float). T (is_zero y))
    (sym (add_value f x (neg (number_f f n)) h.0 true n n 1 (zero-lt-suc 0) h.1 (neg_value (number_f f n) n 1 (number_value f n (omega arith)))))
    (difference f h.0 n 1 (zero-lt-suc 0) h.2)

-- ---- the stencil along one axis: a whole number is on the high side at the last cell only
pub record AxisAt (f : Format) (e : ℕ) (x : Float) (n : ℕ) : Type 0 where
  pub axis : StencilAxis
  pub high : Bool
  pub is : stencil_axis f e x ≡ some axis
  pub weight : Weight high axis.offset
  pub place : axis.cell + cond high 1 0 ≡ n

pub axis-at : (f : Format) (e : ℕ) (x : Float) (n : ℕ) → least_extent ≤ e → e ≤ most_extent → n < e → At x n → AxisAt f e x n
unfolding stencil_axis
axis-at f e x n a b l h =
    record {
      axis = folded_axis f e x n;
      high = leb e (n + 1);
      is = ap₂ (λ (t : Bool) (c : ℕ). cond t (some (folded_axis f e x c)) none) inside
          (ap nat_abs (at_cut x n h (omega arith)));
      weight = folded.0;
      place = folded.1;
    }
  where
    inside : le zero_f x && le x (number_f f (e - 1)) ≡ true
    inside = is_true (le zero_f x && le x (number_f f (e - 1))) (and_i (le zero_f x) (le x (number_f f (e - 1)))
        (at-le zero_f x 0 n (false, (refl, refl), λ z. absurd z) h zero-le)
        (at-le x (number_f f (e - 1)) n (e - 1) h (at_number f (e - 1) (omega arith)) (omega arith)))

    go : (t : Bool) → (T t → e ≤ n + 1)
        → Weight t (cond {A = StencilAxis} t (record { cell = e - 2; offset = one_f }) (record { cell = n; offset = sub f x (number_f f n) })).offset
        × ((cond {A = StencilAxis} t (record { cell = e - 2; offset = one_f }) (record { cell = n; offset = sub f x (number_f f n) })).cell + cond t 1 0 ≡ n)
    go true k = (refl, omega (arith, k tt))
    go false k = (no_offset f x n h (omega arith), omega arith)

    folded : Weight (leb e (n + 1)) (folded_axis f e x n).offset × ((folded_axis f e x n).cell + cond (leb e (n + 1)) 1 0 ≡ n)
    folded = unfold folded_axis in go (leb e (n + 1)) (leb→le e (n + 1))
