-- A pattern without its sign, and the magnitude that it stands for, in units of the format's smallest value: the larger
-- pattern is the larger magnitude. Patterns from the infinity's on are no finite numbers. Over any format. Assumes
-- nothing.
use mathlib.Core.Path.{◌≡◌, refl, sym, ap, ◌∙◌, subst}
use mathlib.Core.Logic.{◌⊎◌, inl, inr}
use mathlib.Core.Bool.{Bool, true, false, cond}
use Prim.Native.Nat.{ℕ, zero, suc, ◌+◌, ◌-◌, ◌*◌, ◌/◌, ◌%◌, ◌^◌, ◌≤◌, ◌<◌}
use native.Mathlib.Nat.{le_of_eq, le_of_lt, le_of_suc-le-suc, le_antisymm, not-le_of_lt, eq-or-lt_of_le, zero-lt-suc}
use native.Mathlib.Nat.{mul_comm, mul-pos, mul-le-mul_left, mul-lt-mul_of_pos_right, mod-lt, div-add-mod', mod-mod_of_dvd, dvd-mul_right}
use native.Mathlib.Nat.{le-div_iff_mul-le, div-lt_iff_lt-mul, pow-succ'}
use native.Mathlib.Omega.{arith}
use lib.Dec.{leb, eqb, leb→le, le→leb}
use lib.Pow.{pow_pos, pow_mono}
use lib.Ieee.{nan, inf, Format, prec, emax, low, odd, hid, ones, top, of_fields, of_bits}
use lib.Ieee.Exact.{HasValue, odd_sign}
use lib.Ieee.Scale.{finite}
use borrow.Author.Tests.{eq-eqb, ne_eqb}
use Rattle.laws.specs.Floats.Tests.{bool_ext, order}

-- ---- magnitudes
-- that of an exponent's field and the digits below the leading one, whose weight is h: a field of 0 has no leading
-- digit
abbrev pub fields_magnitude : ℕ → ℕ → ℕ → ℕ
fields_magnitude h zero t = t * 2 ^ 0
fields_magnitude h (suc x) t = (h + t) * 2 ^ x

abbrev pub magnitude : ℕ → ℕ → ℕ
magnitude h p = fields_magnitude h (p / h) (p % h)

larger-field : (h x y t u : ℕ) → t < h → x < y → fields_magnitude h x t < fields_magnitude h y u
larger-field h x zero t u H l = absurd (omega arith)
larger-field h zero (suc y) t u H l = let scaled : (h + u) * 1 ≤ (h + u) * 2 ^ y = mul-le-mul_left (h + u) (pow_pos y) in omega arith
larger-field h (suc x) (suc y) t u H l =
    let digits : (h + t) * 2 ^ x < (h + h) * 2 ^ x = mul-lt-mul_of_pos_right (omega arith) (pow_pos x) in
    let twice : h * 2 ^ suc x ≡ h * (2 * 2 ^ x) = ap (λ (z : ℕ). h * z) (pow-succ' 2 x) in
    let field : h * 2 ^ suc x ≤ h * 2 ^ y = mul-le-mul_left h (pow_mono (le_of_suc-le-suc l)) in
    omega arith

more_digits : (h x t u : ℕ) → t < u → fields_magnitude h x t < fields_magnitude h x u
more_digits h zero t u l = omega arith
more_digits h (suc x) t u l = mul-lt-mul_of_pos_right (omega arith) (pow_pos x)

larger : (h p q : ℕ) → 0 < h → p < q → magnitude h p < magnitude h q
larger h p q H l = go (eq-or-lt_of_le ((le-div_iff_mul-le H).1 (omega (arith, div-add-mod' p h))))
  where
    digits : p / h ≡ q / h → p % h < q % h
    digits e = omega (arith, div-add-mod' p h, div-add-mod' q h, ap (λ (x : ℕ). x * h) e)

    go : (p / h ≡ q / h) ⊎ (p / h < q / h) → magnitude h p < magnitude h q
    go (inl e) = subst (λ (x : ℕ). magnitude h p < fields_magnitude h x (q % h)) e (more_digits h (p / h) (p % h) (q % h) (digits e))
    go (inr k) = larger-field h (p / h) (q / h) (p % h) (q % h) (mod-lt p H) k

pub same_order : (h p q : ℕ) → 0 < h → leb (magnitude h p) (magnitude h q) ≡ leb p q
same_order h p q H =
    bool_ext (leb (magnitude h p) (magnitude h q)) (leb p q)
    (λ t. le→leb p q (back (order q p) (leb→le (magnitude h p) (magnitude h q) t)))
    (λ t. le→leb (magnitude h p) (magnitude h q) (there (eq-or-lt_of_le (leb→le p q t))))
  where
    back : (q < p) ⊎ (p ≤ q) → magnitude h p ≤ magnitude h q → p ≤ q
    back (inl l) m = absurd (not-le_of_lt (larger h q p H l) m)
    back (inr l) m = l

    there : (p ≡ q) ⊎ (p < q) → magnitude h p ≤ magnitude h q
    there (inl e) = le_of_eq (ap (magnitude h) e)
    there (inr l) = le_of_lt (larger h p q H l)

-- ---- what a pattern stands for
pub hid-pos : (f : Format) → 0 < hid f
hid-pos f = pow_pos (prec f - 1)

fields_value : (f : Format) (s : Bool) (x t : ℕ) → x < ones f → HasValue (of_fields f s x t) s (fields_magnitude (hid f) x t) (2 ^ low f)
unfolding of_fields
fields_value f s zero t l = odd_sign (prec f) s t 0 (low f)
fields_value f s (suc x) t l =
    subst (λ (b : Bool). HasValue (cond b (cond (eqb t 0) (inf s) nan) (odd (prec f) s (hid f + t) x (low f))) s ((hid f + t) * 2 ^ x) (2 ^ low f))
    (sym (ne_eqb (suc x) (ones f) (unlike (suc x) (ones f) l))) (odd_sign (prec f) s (hid f + t) x (low f))
  where
    unlike : (a b : ℕ) → a < b → a ≡ b → ⊥
    unlike a b h e = omega arith

-- below the infinity's: a finite number of that magnitude
pub finite_value : (f : Format) (n : ℕ) → n % top f < ones f * hid f → HasValue (of_bits f n) (leb (top f) n) (magnitude (hid f) (n % top f)) (2 ^ low f)
unfolding of_bits
finite_value f n l =
    subst (λ (t : ℕ). HasValue (of_bits f n) (leb (top f) n) (fields_magnitude (hid f) (n % top f / hid f) t) (2 ^ low f))
    (sym (mod-mod_of_dvd (hid f) n (dvd-mul_right (hid f) (suc (ones f)))))
    (fields_value f (leb (top f) n) (n % top f / hid f) (n % hid f) ((div-lt_iff_lt-mul (hid-pos f)).1 l))

-- from the infinity's on: no finite number
fields_endless : (f : Format) (s : Bool) (x t : ℕ) → x ≡ ones f → finite (of_fields f s x t) ≡ false
unfolding of_fields
fields_endless f s zero t e = absurd (ones_pos (emax f) e)
  where
    ones_pos : (a : ℕ) → 0 ≡ 2 * a + 1 → ⊥
    ones_pos a h = omega arith
fields_endless f s (suc x) t e =
    ap (λ (b : Bool). finite (cond b (cond (eqb t 0) (inf s) nan) (odd (prec f) s (hid f + t) x (low f)))) (eq-eqb (suc x) (ones f) e) ∙ either (eqb t 0)
  where
    either : (b : Bool) → finite (cond b (inf s) nan) ≡ false
    either true = refl
    either false = refl

pub not_finite : (f : Format) (n : ℕ) → ones f * hid f ≤ n % top f → finite (of_bits f n) ≡ false
unfolding of_bits
not_finite f n l =
    let under : n % top f < top f = mod-lt n (mul-pos (hid-pos f) (zero-lt-suc (ones f))) in
    let field : n % top f < suc (ones f) * hid f = subst (λ (a : ℕ). n % top f < a) (mul_comm (hid f) (suc (ones f))) under in
    fields_endless f (leb (top f) n) (n % top f / hid f) (n % hid f)
    (le_antisymm (le_of_suc-le-suc ((div-lt_iff_lt-mul (hid-pos f)).1 field)) ((le-div_iff_mul-le (hid-pos f)).1 l))
