-- Whether a float lies within the bounds, by its pattern: where the ceiling is not below zero, exactly those lie from
-- minus the ceiling to the ceiling whose pattern without the sign is no larger than the ceiling's; where it is below
-- zero or NaN, none. Over any format. Assumes nothing.
use mathlib.Core.Path.{◌≡◌, refl, sym, ap, ap₂, ◌∙◌, subst}
use mathlib.Core.Logic.{◌⊎◌, inl, inr}
use mathlib.Core.Bool.{Bool, true, false, not, ◌&&◌, ◌||◌, true≢false, false≢true}
use Prim.Native.Nat.{ℕ, suc, ◌+◌, ◌*◌, ◌%◌, ◌^◌, ◌≤◌, ◌<◌}
use native.Mathlib.Nat.{lt_of_lt_of_le, lt-suc_self, zero-add, mul_comm, mul-pos, mul-lt-mul_of_pos_right, mod-eq_of_lt}
use native.Mathlib.Omega.{arith}
use lib.IntN.{ℤ, pos}
use lib.Dec.{T, leb, ltb, eqb, leb→le, le→leb, eqb→eq}
use lib.Pow.{pow_pos}
use lib.Ieee.{Float, nan, inf, fin, Format, low, up, down, below, level, neg, le, fits, is_nan, hid, ones, top, of_bits, to_bits}
use lib.Ieee.Bits.{of_bits-to_bits, nan_bits_is, nan_bits_above}
use lib.Ieee.Exact.{HasValue}
use lib.Ieee.Fits.{and_i, and_l, and_r, eq→eqb, down_pos}
use lib.Ieee.Scale.{finite}
use borrow.Author.Tests.{leb-true, leb-false, le-leb, lt-leb, le-ltb, lt-ltb}
use Rattle.rules.specs.Floats.{zero_f}
use Rattle.laws.specs.Floats.Tests.{bool_ext, and-true, or_r, order, eqb_iff, lt_or_eq}
use Rattle.laws.specs.Floats.Values.{lt_value, eq_value}
use Rattle.laws.specs.Floats.Differences.{zero_value}
use Rattle.rows.proofs.Magnitudes.{magnitude, same_order, hid-pos, finite_value, not_finite}

-- ---- ±a at most ±b
abbrev at_most : Bool → ℕ → Bool → ℕ → Bool
at_most false a false b = leb a b
at_most false a true b = leb (a + b) 0
at_most true a false b = true
at_most true a true b = leb b a

both_zero : (a b : ℕ) → a + b ≤ 0 → T (eqb a b && eqb a 0)
both_zero a b l =
    let same : a ≡ b = omega arith in
    let none : a ≡ 0 = omega arith in
    and_i (eqb a b) (eqb a 0) (eq→eqb same) (eq→eqb none)

below_or_level : (s : Bool) (a : ℕ) (t : Bool) (b : ℕ) → (below s a t b || level s a t b) ≡ at_most s a t b
below_or_level false a false b = ap (λ (e : Bool). ltb a b || e) (and-true (eqb a b)) ∙ lt_or_eq a b
below_or_level false a true b =
    bool_ext (eqb a b && eqb a 0) (leb (a + b) 0)
    (λ t. le→leb (a + b) 0 (let p = eqb→eq a b (and_l (eqb a b) (eqb a 0) t) in let q = eqb→eq a 0 (and_r (eqb a b) (eqb a 0) t) in omega arith))
    (λ t. both_zero a b (leb→le (a + b) 0 t))
below_or_level true a false b = go (order 0 (a + b))
  where
    go : (0 < a + b) ⊎ (a + b ≤ 0) → (ltb 0 (a + b) || (eqb a b && eqb a 0)) ≡ true
    go (inl l) = ap (λ (t : Bool). t || (eqb a b && eqb a 0)) (lt-ltb 0 (a + b) l)
    go (inr l) =
        bool_ext (ltb 0 (a + b) || (eqb a b && eqb a 0)) true (λ t. tt) (λ t. or_r (ltb 0 (a + b)) (eqb a b && eqb a 0) (both_zero a b l))
below_or_level true a true b = ap (λ (e : Bool). ltb b a || e) (and-true (eqb a b) ∙ eqb_iff a b b a sym sym) ∙ lt_or_eq b a

le_value : (x y : Float) (s t : Bool) (a b c : ℕ) → 0 < c → HasValue x s a c → HasValue y t b c → le x y ≡ at_most s a t b
unfolding le
le_value x y s t a b c C p q = ap₂ ◌||◌ (lt_value x y s t a b c C p q) (eq_value x y s t a b c C p q) ∙ below_or_level s a t b

le_parts : (s : Bool) (m : ℕ) (e : ℤ) (t : Bool) (n : ℕ) (d : ℤ) → le (fin s m e) (fin t n d) ≡ at_most s (m * up e * down d) t (n * up d * down e)
unfolding le
le_parts s m e t n d = below_or_level s (m * up e * down d) t (n * up d * down e)

-- ---- within a ceiling that is a finite number
within-sizes : (s : Bool) (a : ℕ) (t : Bool) (b : ℕ) → at_most false 0 s a ≡ true → (at_most (not s) a t b && at_most t b s a) ≡ leb b a
within-sizes false a false b h = refl
within-sizes false a true b h = and-true (leb b a)
within-sizes true a false b h =
    let zero_ceiling : 0 + a ≤ 0 = leb-true (0 + a) 0 h in
    bool_ext (leb a b && leb (b + a) 0) (leb b a)
    (λ t. le→leb b a (let l = leb→le (b + a) 0 (and_r (leb a b) (leb (b + a) 0) t) in omega arith))
    (λ t. let l = leb→le b a t in and_i (leb a b) (leb (b + a) 0) (le→leb a b (omega arith)) (le→leb (b + a) 0 (omega arith)))
within-sizes true a true b h =
    let zero_ceiling : 0 + a ≤ 0 = leb-true (0 + a) 0 h in
    bool_ext (leb (a + b) 0 && leb a b) (leb b a)
    (λ t. le→leb b a (let l = leb→le (a + b) 0 (and_l (leb (a + b) 0) (leb a b) t) in omega arith))
    (λ t. let l = leb→le b a t in and_i (leb (a + b) 0) (leb a b) (le→leb (a + b) 0 (omega arith)) (le→leb a b (omega arith)))

negated : (x : Float) (s : Bool) (a c : ℕ) → HasValue x s a c → HasValue (neg x) (not s) a c
unfolding neg
negated nan s a c h = absurd h
negated (inf t) s a c h = absurd h
negated (fin t m e) s a c h = (ap not h.0, h.1)

within_values : (c x : Float) (s t : Bool) (a b d : ℕ) → 0 < d → HasValue c s a d → HasValue x t b d → le zero_f c ≡ true
    → (le (neg c) x && le x c) ≡ leb b a
within_values c x s t a b d D p q h =
    ap₂ ◌&&◌ (le_value (neg c) x (not s) t a b d D (negated c s a d p) q) (le_value x c t s b a d D q p)
    ∙ within-sizes s a t b (sym (le_value zero_f c false s 0 a d D (zero_value d) p) ∙ h)

within-finite : (c x : Float) → T (finite c) → finite x ≡ false → (le (neg c) x && le x c) ≡ false
unfolding le neg
within-finite nan x p q = absurd p
within-finite (inf s) x p q = absurd p
within-finite (fin s m e) nan p q = refl
within-finite (fin s m e) (inf true) p q = refl
within-finite (fin s m e) (inf false) p q = refl
within-finite (fin s m e) (fin t n d) p q = absurd (true≢false q)

-- ---- within infinity: every number
within_infinity : (x : Float) → (le (neg (inf false)) x && le x (inf false)) ≡ not (is_nan x)
unfolding le neg is_nan
within_infinity nan = refl
within_infinity (inf true) = refl
within_infinity (inf false) = refl
within_infinity (fin s m e) = refl

number_pattern : (f : Format) (n : ℕ) → not (is_nan (of_bits f n)) ≡ leb (n % top f) (ones f * hid f)
number_pattern f n = ap not (sym (nan_bits_is f n) ∙ nan_bits_above f n) ∙ go (order (ones f * hid f) (n % top f))
  where
    go : (ones f * hid f < n % top f) ⊎ (n % top f ≤ ones f * hid f)
        → not (ltb (ones f * hid f) (n % top f)) ≡ leb (n % top f) (ones f * hid f)
    go (inl l) = ap not (lt-ltb (ones f * hid f) (n % top f) l) ∙ sym (lt-leb (n % top f) (ones f * hid f) l)
    go (inr l) = ap not (le-ltb (ones f * hid f) (n % top f) l) ∙ sym (le-leb (n % top f) (ones f * hid f) l)

infinity_pattern : (f : Format) → to_bits f (inf false) % top f ≡ ones f * hid f
unfolding to_bits
infinity_pattern f =
    ap (λ (k : ℕ). k % top f) (zero-add (ones f * hid f))
    ∙ mod-eq_of_lt (subst (λ (k : ℕ). ones f * hid f < k) (mul_comm (suc (ones f)) (hid f)) (mul-lt-mul_of_pos_right (lt-suc_self (ones f)) (hid-pos f)))

-- ---- the laws
finite_ceiling : (f : Format) (c : Float) → T (fits f c) → T (finite c) → to_bits f c % top f < ones f * hid f
finite_ceiling f c F p = go (order (to_bits f c % top f) (ones f * hid f))
  where
    go : (to_bits f c % top f < ones f * hid f) ⊎ (ones f * hid f ≤ to_bits f c % top f) → to_bits f c % top f < ones f * hid f
    go (inl l) = l
    go (inr l) = absurd (subst T (ap finite (sym (of_bits-to_bits f c F)) ∙ not_finite f (to_bits f c) l) p)

within_number : (f : Format) (c : Float) → T (fits f c) → T (finite c) → le zero_f c ≡ true → (n : ℕ)
    → (le (neg c) (of_bits f n) && le (of_bits f n) c) ≡ leb (n % top f) (to_bits f c % top f)
within_number f c F p h n = go (order (n % top f) (ones f * hid f))
  where
    k : ℕ
    k = to_bits f c

    size : ℕ → ℕ
    size i = magnitude (hid f) (i % top f)

    small : k % top f < ones f * hid f
    small = finite_ceiling f c F p

    value : HasValue c (leb (top f) k) (size k) (2 ^ low f)
    value = subst (λ (x : Float). HasValue x (leb (top f) k) (size k) (2 ^ low f)) (of_bits-to_bits f c F) (finite_value f k small)

    go : (n % top f < ones f * hid f) ⊎ (ones f * hid f ≤ n % top f)
        → (le (neg c) (of_bits f n) && le (of_bits f n) c) ≡ leb (n % top f) (k % top f)
    go (inl l) =
        within_values c (of_bits f n) (leb (top f) k) (leb (top f) n) (size k) (size n) (2 ^ low f) (pow_pos (low f)) value (finite_value f n l) h
        ∙ same_order (hid f) (n % top f) (k % top f) (hid-pos f)
    go (inr l) = within-finite c (of_bits f n) p (not_finite f n l) ∙ sym (lt-leb (n % top f) (k % top f) (lt_of_lt_of_le small l))

pub within_by_pattern : (f : Format) (c : Float) → T (fits f c) → le zero_f c ≡ true → (n : ℕ)
    → (le (neg c) (of_bits f n) && le (of_bits f n) c) ≡ leb (n % top f) (to_bits f c % top f)
unfolding le
within_by_pattern f nan F h n = absurd (false≢true h)
within_by_pattern f (inf true) F h n = absurd (false≢true h)
within_by_pattern f (inf false) F h n = within_infinity (of_bits f n) ∙ number_pattern f n ∙ ap (leb (n % top f)) (sym (infinity_pattern f))
within_by_pattern f (fin s m e) F h n = within_number f (fin s m e) F tt h n

-- a ceiling below zero: nothing is both above minus the ceiling and below the ceiling
within-negative : (a : ℕ) (t : Bool) (b : ℕ) → 0 < a → (at_most false a t b && at_most t b true a) ≡ false
within-negative a false b h = ap (λ (t : Bool). leb a b && t) (lt-leb (b + a) 0 (omega arith)) ∙ neither (leb a b)
  where
    neither : (p : Bool) → (p && false) ≡ false
    neither true = refl
    neither false = refl
within-negative a true b h = ap (λ (t : Bool). t && leb a b) (lt-leb (a + b) 0 (omega arith))

below-zero : (s : Bool) (a b : ℕ) → a ≡ 0 → at_most false a s b ≡ false → (s ≡ true) × (0 < b)
below-zero false a b z h = let l = leb-false a b h in absurd (omega arith)
below-zero true a b z h = let l = leb-false (a + b) 0 h in (refl, omega arith)

within-parts : (s : Bool) (m : ℕ) (e : ℤ) (t : Bool) (n : ℕ) (d : ℤ) → le zero_f (fin s m e) ≡ false
    → (le (fin (not s) m e) (fin t n d) && le (fin t n d) (fin s m e)) ≡ false
within-parts s m e t n d h =
    let signed = below-zero s (0 * up (pos 0) * down e) (m * up e * 1) (omega arith) (sym (le_parts false 0 (pos 0) s m e) ∙ h) in
    let a = m * up e * down d in
    let b = n * up d * down e in
    let size : 0 < a = mul-pos (omega (arith, signed.1)) (down_pos d) in
    ap₂ ◌&&◌ (le_parts (not s) m e t n d) (le_parts t n d s m e)
    ∙ ap (λ (s : Bool). at_most (not s) a t b && at_most t b s a) signed.0
    ∙ within-negative a t b size

pub within_none : (c x : Float) → le zero_f c ≡ false → (le (neg c) x && le x c) ≡ false
unfolding le neg
within_none nan x h = refl
within_none (inf false) x h = absurd (true≢false h)
within_none (inf true) nan h = refl
within_none (inf true) (inf true) h = refl
within_none (inf true) (inf false) h = refl
within_none (inf true) (fin t n d) h = refl
within_none (fin s m e) nan h = refl
within_none (fin s m e) (inf true) h = refl
within_none (fin s m e) (inf false) h = refl
within_none (fin s m e) (fin t n d) h = within-parts s m e t n d h
