-- A float that is no NaN, cut to a whole number, by the fields that shifts and masks take out of its 64 bits. One law
-- serves every range: how a range keeps a whole part is its argument. Assumes nothing.
use Rattle.std.proofs.Common.{◌≡◌, ℕ, zero, suc, ◌+◌, ◌-◌, ◌*◌, ◌/◌, ◌^◌, ◌<◌, ◌≤◌, Bool, true, false, not, T, eqb, leb, ℤ, sym, refl, ap, ◌∙◌, subst, ap₂, lt_of_lt_of_le, arith, pow_pos, pow_mono, shl_lt, eqb-true, le-leb}
use native.Mathlib.Nat.{div-eq_of_lt}
use lib.Bits.{bit_and, and_mask, mask_lt}
use lib.Pow.{field}
use lib.Ieee.{Float, nan, inf, fin, binary64, up, down, odd, of_fields, of_bits, to_bits, fits, is_nan, eq, ne}
use lib.Ieee.Bits.{of_bits-to_bits}
use lib.Ieee.Exact.{HasValue, odd_sign}
use lib.Ieee.Fits.{down_pos}
use lib.Ieee.Nearest.{div_same}
use borrow.Author.Tests.{lt-leb}
use Rattle.laws.specs.Floats.Nans.{no_nan}
use Rattle.laws.specs.Floats.Sizes.{unsigned}
use Rattle.floats.specs.Whole.{whole_part}
use Rattle.floats.proofs.WholePart.{nothing_left, at_least}

-- the fields as the code takes them
abbrev pub bits_of : Float → ℕ
bits_of x = to_bits binary64 x

abbrev pub exponent_of : Float → ℕ
exponent_of x = bit_and (bits_of x / 2 ^ 52) 2047

abbrev pub fraction_of : Float → ℕ
fraction_of x = bit_and (bits_of x) 4503599627370495

abbrev pub sign_of : Float → Bool
sign_of x = leb (2 ^ 63) (bits_of x)

pub fraction_lt : (x : Float) → fraction_of x < 2 ^ 52
fraction_lt x = mask_lt (bits_of x) 52

pub plus : (x : Float) → bits_of x / 2 ^ 63 ≡ 0 → sign_of x ≡ false
plus x h = lt-leb (2 ^ 63) (bits_of x) (omega arith)

pub minus : (x : Float) → (bits_of x / 2 ^ 63 ≡ 0 → ⊥) → sign_of x ≡ true
minus x h = le-leb (2 ^ 63) (bits_of x) (omega arith)

-- bits below 4096.0's: no sign, and an exponent below that of 4096
pub below_4096 : (x : Float) → bits_of x < 0x40b0_0000_0000_0000 → sign_of x ≡ false
below_4096 x h = lt-leb (2 ^ 63) (bits_of x) (omega arith)

pub exponent_below : (x : Float) → bits_of x < 0x40b0_0000_0000_0000 → exponent_of x < 1035
exponent_below x h = omega (arith, and_mask (bits_of x / 2 ^ 52) 11)

-- the twelve bits above the fraction, where they are below 1035: there is no sign among them
pub low_sign : (x : Float) → bits_of x / 2 ^ 52 < 1035 → sign_of x ≡ false
low_sign x h = below_4096 x (omega arith)

pub low_exponent : (x : Float) → bits_of x / 2 ^ 52 < 1035 → bits_of x / 2 ^ 52 ≡ exponent_of x
low_exponent x h = omega (arith, and_mask (bits_of x / 2 ^ 52) 11)

by_fields : (x : Float) → fits binary64 x ≡ true → x ≡ of_fields binary64 (sign_of x) (exponent_of x) (fraction_of x)
unfolding of_bits
by_fields x h =
    let b = bits_of x in
    sym (of_bits-to_bits binary64 x (subst T (sym h) tt))
    ∙ ap₂ (λ (e t : ℕ). of_fields binary64 (sign_of x) e t) (sym (and_mask (b / 2 ^ 52) 11 ∙ sym (field b 11 52))) (sym (and_mask b 52))

pub equals_itself : (x : Float) → eq x x ≡ true → ne x x ≡ false
unfolding ne
equals_itself x e = ap not e

-- `to` cuts a float to a whole number, and `kept` says what it keeps of a whole part with its sign
module _ {A : Type 0} (to : Float → A) (kept : Bool → ℕ → A)
    (on-finite : (s : Bool) (m : ℕ) (e : ℤ) → to (fin s m e) ≡ kept s (m * up e / down e))
    (on-infinite : (s : Bool) (w : ℕ) → 2 ^ 64 ≤ w → to (inf s) ≡ kept s w) where
  of_value : (x : Float) (s : Bool) (a c : ℕ) → 0 < c → HasValue x s a c → to x ≡ kept s (a / c)
  of_value nan s a c p v = absurd v
  of_value (inf t) s a c p v = absurd v
  of_value (fin t m e) s a c p v =
      on-finite t m e
      ∙ ap (λ (b : Bool). kept b (m * up e / down e)) v.0
      ∙ ap (kept s) (div_same (m * up e) (down e) a c (down_pos e) p v.1)

  of_fields_lem : (s : Bool) (e t : ℕ) → t < 2 ^ 52 → T (not (is_nan (of_fields binary64 s e t))) → to (of_fields binary64 s e t) ≡ kept s (whole_part e t)
  unfolding of_fields is_nan whole_part
  of_fields_lem s zero t f n =
      of_value (odd 53 s t 0 1074) s (t * 2 ^ 0) (2 ^ 1074) (pow_pos 1074) (odd_sign 53 s t 0 1074)
      ∙ ap (kept s) (div-eq_of_lt (lt_of_lt_of_le (shl_lt 52 0 f) (pow_mono {i = 52} {j = 1074} (omega arith))) ∙ sym (nothing_left 0 t f (omega arith)))
  of_fields_lem s (suc x) t f n = go (eqb (suc x) 2047) (eqb t 0) refl refl
    where
      go : (b z : Bool) → eqb (suc x) 2047 ≡ b → eqb t 0 ≡ z → to (of_fields binary64 s (suc x) t) ≡ kept s (whole_part (suc x) t)
      go false z g h =
          let k : suc x - 1 ≡ x = omega arith in
          rw (g, k) (of_value (odd 53 s (2 ^ 52 + t) x 1074) s ((2 ^ 52 + t) * 2 ^ x) (2 ^ 1074) (pow_pos 1074) (odd_sign 53 s (2 ^ 52 + t) x 1074))
      go true true g h = rw (g, h) (on-infinite s _ (at_least (suc x) t 64 (omega (arith, eqb-true (suc x) 2047 g))))
      go true false g h = absurd (rw (g, h) at n)

  pub by_pattern : (x : Float) (s : Bool) → fits binary64 x ≡ true → ne x x ≡ false → sign_of x ≡ s → to x ≡ kept s (whole_part (exponent_of x) (fraction_of x))
  by_pattern x s h n g =
      let f = by_fields x h in
      ap to f ∙ of_fields_lem (sign_of x) (exponent_of x) (fraction_of x) (fraction_lt x) (rw f at (no_nan x n)) ∙ ap (λ (b : Bool). kept b (whole_part (exponent_of x) (fraction_of x))) g

-- ---- no sign
pub no_sign : (x : Float) → fits binary64 x ≡ true → ne x x ≡ false → sign_of x ≡ false → T (unsigned x)
no_sign x f n g =
    subst T (sym (by_pattern unsigned (λ (s : Bool) (w : ℕ). not s) (λ s m e. refl) (λ s w h. refl) x false f n g)) tt
