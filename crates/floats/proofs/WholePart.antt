-- The whole part of a size, by its exponent's field: how far the fraction is shifted, and which power of two it lies
-- below. One pair of bounds over the power serves every range. Assumes nothing.
use Rattle.std.proofs.Common.{◌≡◌, ℕ, ◌+◌, ◌-◌, ◌*◌, ◌/◌, ◌^◌, ◌<◌, ◌≤◌, sym, ap, ◌∙◌, subst, le_trans, lt_of_lt_of_le, mul-le-mul_right, mul_assoc, arith, pow_pos, pow_mono, pow-add, shl_lt, shr_lt}
use lib.Pow.{shl-shr, shr_mono}
use lib.Ieee.Nearest.{div_same}
use Rattle.floats.specs.Whole.{whole_part}

down_shift : (a k l : ℕ) → k ≤ l → a * 2 ^ k / 2 ^ l ≡ a / 2 ^ (l - k)
down_shift a k l h =
    let e : k + (l - k) ≡ l = omega arith in
    div_same (a * 2 ^ k) (2 ^ l) a (2 ^ (l - k)) (pow_pos l) (pow_pos (l - k))
    (mul_assoc a (2 ^ k) (2 ^ (l - k)) ∙ ap (λ (n : ℕ). a * n) (sym (pow-add 2 k (l - k)) ∙ ap (λ (n : ℕ). 2 ^ n) e))

up_shift : (a k l : ℕ) → l ≤ k → a * 2 ^ k / 2 ^ l ≡ a * 2 ^ (k - l)
up_shift a k l h =
    let e : k ≡ (k - l) + l = omega arith in
    ap (λ (n : ℕ). n / 2 ^ l) (ap (λ (n : ℕ). a * 2 ^ n) e ∙ ap (λ (n : ℕ). a * n) (pow-add 2 (k - l) l) ∙ sym (mul_assoc a (2 ^ (k - l)) (2 ^ l)))
    ∙ shl-shr (a * 2 ^ (k - l)) l

module _ (e t : ℕ) where
  pub shifted_right : 0 < e → e ≤ 1075 → whole_part e t ≡ (2 ^ 52 + t) / 2 ^ (1075 - e)
  unfolding whole_part
  shifted_right p h =
      let k : 1074 - (e - 1) ≡ 1075 - e = omega arith in
      down_shift (2 ^ 52 + t) (e - 1) 1074 (omega arith) ∙ ap (λ (n : ℕ). (2 ^ 52 + t) / 2 ^ n) k

  pub shifted_left : 1075 < e → whole_part e t ≡ (2 ^ 52 + t) * 2 ^ (e - 1075)
  unfolding whole_part
  shifted_left h =
      let k : (e - 1) - 1074 ≡ e - 1075 = omega arith in
      up_shift (2 ^ 52 + t) (e - 1) 1074 (omega arith) ∙ ap (λ (n : ℕ). (2 ^ 52 + t) * 2 ^ n) k

  -- 1.0 has the field 1023, and one more of the field is twice the size
  pub below : (k : ℕ) → t < 2 ^ 52 → e < 1023 + k → whole_part e t < 2 ^ k
  unfolding whole_part
  below k f h =
      let d : 2 ^ 52 + t < 2 ^ 53 = omega arith in
      shr_lt k 1074 (lt_of_lt_of_le (shl_lt 53 (e - 1) d) (pow_mono {i = 53 + (e - 1)} {j = k + 1074} (omega arith)))

  pub at_least : (k : ℕ) → 1023 + k ≤ e → 2 ^ k ≤ whole_part e t
  unfolding whole_part
  at_least k h =
      let d : 2 ^ 52 ≤ 2 ^ 52 + t = omega arith in
      let f = subst (λ (n : ℕ). n ≤ (2 ^ 52 + t) * 2 ^ (e - 1)) (sym (pow-add 2 52 (e - 1))) (mul-le-mul_right (2 ^ (e - 1)) d) in
      let g = le_trans (pow_mono {i = k + 1074} {j = 52 + (e - 1)} (omega arith)) f in
      let i = ap (λ (n : ℕ). n / 2 ^ 1074) (pow-add 2 k 1074) ∙ shl-shr (2 ^ k) 1074 in
      subst (λ (n : ℕ). n ≤ (2 ^ 52 + t) * 2 ^ (e - 1) / 2 ^ 1074) i (shr_mono 1074 g)

  pub nothing_left : t < 2 ^ 52 → e < 1023 → whole_part e t ≡ 0
  nothing_left f h = omega (arith, below 0 f (omega arith))
