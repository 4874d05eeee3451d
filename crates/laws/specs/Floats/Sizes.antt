-- Floats that are not negative and at most an exact fraction: whatever a difference of two of them rounds to is no
-- larger, and no more than the next whole number of cells lies along it. Assumes nothing.
use Rattle.std.specs.Prelude.{◌≡◌, refl, ◌⊎◌, ℕ, zero, suc, ◌+◌, ◌-◌, ◌*◌, ◌/◌, ◌^◌, ◌≤◌, ◌<◌, min, Bool, true, not, ℤ, T, ltb, Float}
use Rattle.std.proofs.Math.Path.{sym, ap}
use Rattle.std.proofs.Common.{◌∙◌, subst, inl, inr, zero-le, le_trans, le_of_eq, lt_of_lt_of_le, mul-one, zero-mul, add-mul, mul_assoc, mul_comm, mul_left_comm, mul_right_comm, mul-pos, zero-lt-suc, mul-le-mul_right, mul-lt-mul_of_pos_right, div-lt_iff_lt-mul, true≢false, lt-ltb, le-ltb, lit≤, lit<, pow-add, pow_pos, pow_mono}
use native.Mathlib.Omega.{arith}
use Rattle.std.proofs.Math.Bool.{false, cond}
use Rattle.std.specs.Float.{nan, inf, fin, Format, binary32, binary64}
use Rattle.std.specs.Float.Ieee.{prec, emax, low, up, down, round, odd, units, sum, add, sub, neg, le, of_int, to_unsigned}
use Rattle.std.specs.Float.Ieee.Fits.{down_pos}
use Rattle.std.specs.Float.Ieee.Exact.{HasValue, round_exact}
use Rattle.std.specs.Float.Ieee.Order.{transfer, round_mono}
use Rattle.std.specs.Float.Ieee.Back.{round_whole}
use Rattle.rules.specs.Floats.{half_f, one_f, number_f, mag}
use Rattle.laws.specs.Floats.Tests.{order, less_or_equal}
use Rattle.laws.specs.Floats.Values.{scaled, add_value}

-- ---- |±a / c| rounded
mag-cond : (b : Bool) (x y : Float) → mag (cond b x y) ≡ cond b (mag x) (mag y)
mag-cond true x y = refl
mag-cond false x y = refl

mag-odd : (d : ℕ) (s : Bool) (q k l : ℕ) → mag (odd d s q k l) ≡ odd d false q k l
unfolding odd mag
mag-odd d s zero k l = refl
mag-odd d s (suc q) k l = refl

mag-units : (f : Format) (s : Bool) (q k : ℕ) → mag (units f s q k) ≡ units f false q k
unfolding units
mag-units f s q k =
    let b = ltb (q * 2 ^ k) (2 ^ (low f + suc (emax f))) in
    mag-cond b (odd (suc (prec f)) s q k (low f)) (inf s)
    ∙ (unfold mag in ap (λ (x : Float). cond b x (inf false)) (mag-odd (suc (prec f)) s q k (low f)))

pub mag-round : (f : Format) (s : Bool) (a c : ℕ) → mag (round f s a c) ≡ round f false a c
unfolding round
mag-round f s a c = mag-units f s _ _

-- ---- finite, not negative, and at most c / d; a zero may have either sign
abbrev pub AtMost : Float → ℕ → ℕ → Type 0
AtMost nan c d = ⊥
AtMost (inf s) c d = ⊥
AtMost (fin true m e) c d = (m ≡ 0)
AtMost (fin false m e) c d = m * up e * d ≤ c * down e

-- not negative, and no NaN
abbrev pub unsigned : Float → Bool
unsigned nan = false
unsigned (inf s) = not s
unsigned (fin s m e) = not s

-- the sign, a zero's too; a NaN has none
abbrev pub Signed : Bool → Float → Type 0
Signed s nan = ⊥
Signed s (inf t) = t ≡ s
Signed s (fin t m e) = t ≡ s

signed_odd : (d : ℕ) (s : Bool) (q k l : ℕ) → Signed s (odd d s q k l)
unfolding odd
signed_odd d s zero k l = refl
signed_odd d s (suc q) k l = refl

signed_units : (f : Format) (s : Bool) (q k : ℕ) → Signed s (units f s q k)
unfolding units
signed_units f s q k = go (ltb (q * 2 ^ k) (2 ^ (low f + suc (emax f))))
  where
    go : (b : Bool) → Signed s (cond b (odd (suc (prec f)) s q k (low f)) (inf s))
    go true = signed_odd (suc (prec f)) s q k (low f)
    go false = refl

pub signed_round : (f : Format) (s : Bool) (a c : ℕ) → Signed s (round f s a c)
unfolding round
signed_round f s a c = signed_units f s _ _

no_sign : (x : Float) → Signed false x → T (unsigned x)
no_sign nan h = absurd h
no_sign (inf s) h = subst (λ (b : Bool). T (not b)) (sym h) tt
no_sign (fin s m e) h = subst (λ (b : Bool). T (not b)) (sym h) tt

pub unsigned-round : (f : Format) (a c : ℕ) → T (unsigned (round f false a c))
unsigned-round f a c = no_sign (round f false a c) (signed_round f false a c)

-- ---- a rounded fraction that is at most an exact one
pub below_exact : (x v : Float) (c d : ℕ) → 0 < d → HasValue v false c d → T (unsigned x) → T (le x v) → AtMost x c d
unfolding le
below_exact nan v c d D h p q = absurd p
below_exact (inf s) nan c d D h p q = absurd h
below_exact (inf s) (inf t) c d D h p q = absurd h
below_exact (inf true) (fin t n g) c d D h p q = absurd p
below_exact (inf false) (fin t n g) c d D h p q = absurd q
below_exact (fin true m e) v c d D h p q = absurd p
below_exact (fin false m e) nan c d D h p q = absurd h
below_exact (fin false m e) (inf t) c d D h p q = absurd h
below_exact (fin false m e) (fin true n g) c d D h p q = absurd (true≢false h.0)
below_exact (fin false m e) (fin false n g) c d D h p q =
    transfer (m * up e) c (down e) d (m * up e) (n * up g) (down e) (down g) (down_pos e) (down_pos g) refl (sym h.1)
    (less_or_equal (m * up e * down g) (n * up g * down e) true q)

pub round-most : (f : Format) (a b c d : ℕ) → 0 < b → 0 < d → HasValue (round f false c d) false c d → a * d ≤ c * b → AtMost (round f false a b) c d
round-most f a b c d B D v h = below_exact (round f false a b) (round f false c d) c d D v (unsigned-round f a b) (round_mono f a b c d B D h)

-- ---- halves are exact
scale : (f : Format) → 1 + (low f - 1) ≡ low f
scale binary32 = refl
scale binary64 = refl

room : (f : Format) → prec f + (low f - 1) ≤ low f + suc (emax f)
room binary32 = lit≤ tt
room binary64 = lit≤ tt

pub halves : (f : Format) (s : Bool) (n : ℕ) → n < 2 ^ prec f → HasValue (round f s n 2) s n 2
halves f s n h =
    let j = low f - 1 in
    round_exact f s n 2 n j (zero-lt-suc 1) h
    (lt_of_lt_of_le (mul-lt-mul_of_pos_right h (pow_pos j)) (le_trans (le_of_eq (sym (pow-add 2 (prec f) j))) (pow_mono (room f))))
    (ap (λ (x : ℕ). n * 2 ^ x) (sym (scale f)) ∙ ap (λ (x : ℕ). n * x) (pow-add 2 1 j) ∙ mul_left_comm n 2 (2 ^ j) ∙ mul_comm 2 (n * 2 ^ j))

pub extents_exact : (f : Format) → 8193 < 2 ^ prec f
extents_exact binary32 = lit< tt
extents_exact binary64 = lit< tt

pub number_value : (f : Format) (n : ℕ) → n ≤ 4096 → HasValue (number_f f n) false n 1
unfolding number_f of_int
number_value f n h = round_whole f false n (omega (arith, extents_exact f))

-- extent - 0.5 is what it says
pub edge_value : (f : Format) (n : ℕ) → 0 < n → n ≤ 4096 → HasValue (sub f (number_f f n) half_f) false (2 * n - 1) 2
unfolding sub neg sum
edge_value f n h k =
    subst (λ (x : Float). HasValue x false (2 * n - 1) 2)
    (sym (add_value f (number_f f n) (neg half_f) false true (2 * n) 1 2 (zero-lt-suc 1) doubled (refl, refl) ∙ minus-half))
    (halves f false (2 * n - 1) (omega (arith, extents_exact f)))
  where
    doubled : HasValue (number_f f n) false (2 * n) 2
    doubled = subst (λ (z : ℕ). HasValue (number_f f n) false z 2) (mul_comm n 2) (scaled (number_f f n) false n 1 2 (number_value f n k))

    minus-half : sum f false (2 * n) true 1 2 ≡ round f false (2 * n - 1) 2
    minus-half = ap (λ (t : Bool). cond t (round f true (1 - 2 * n) 2) (round f false (2 * n - 1) 2)) (le-ltb (2 * n) 1 (omega arith))

-- ---- the difference's size, as one rounded fraction
-- |±b - ±a| / c for two numbers that are not negative, or zeros of either sign
apart_is : (f : Format) (s : Bool) (a : ℕ) (t : Bool) (b c : ℕ) → (T s → a ≡ 0) → (T t → b ≡ 0)
    → (z : ℕ) × (mag (sum f t b (not s) a c) ≡ round f false z c) × ((z ≤ a) ⊎ (z ≤ b))
unfolding sum
apart_is f false a false b c p q = go (order b a)
  where
    go : (b < a) ⊎ (a ≤ b)
        → (z : ℕ) × (mag (cond (ltb b a) (round f true (a - b) c) (round f false (b - a) c)) ≡ round f false z c) × ((z ≤ a) ⊎ (z ≤ b))
    go (inl h) =
        (a - b, ap (λ (t : Bool). mag (cond t (round f true (a - b) c) (round f false (b - a) c))) (lt-ltb b a h) ∙ mag-round f true (a - b) c, inl (omega arith))
    go (inr h) =
        (b - a, ap (λ (t : Bool). mag (cond t (round f true (a - b) c) (round f false (b - a) c))) (le-ltb b a h) ∙ mag-round f false (b - a) c, inr (omega arith))
apart_is f true a false b c p q = (b + a, mag-round f false (b + a) c, inr (omega (arith, p tt)))
apart_is f false a true b c p q = (b + a, mag-round f true (b + a) c, inl (omega (arith, q tt)))
apart_is f true a true b c p q = (
  b - a,
  ap (λ (t : Bool). mag (cond t (round f false (a - b) c) (round f (ltb a b) (b - a) c))) (le-ltb b a (omega (arith, p tt))) ∙ mag-round f (ltb a b) (b - a) c,
  inr (omega arith),
)

-- ---- one point's size over the common divisor
sign_of : (s : Bool) (m : ℕ) (e : ℤ) (c d k : ℕ) → AtMost (fin s m e) c d → T s → m * up e * k ≡ 0
sign_of true m e c d k h t = ap (λ (x : ℕ). x * up e * k) h ∙ ap (λ (x : ℕ). x * k) (zero-mul (up e)) ∙ zero-mul k
sign_of false m e c d k h t = absurd t

top_of : (s : Bool) (m : ℕ) (e : ℤ) (c d k : ℕ) → 0 < d → AtMost (fin s m e) c d → m * up e * k * d ≤ c * (down e * k)
top_of true m e c d k D h = le_trans (le_of_eq (ap (λ (x : ℕ). x * d) (sign_of true m e c d k h tt) ∙ zero-mul d)) zero-le
top_of false m e c d k D h = le_trans (le_of_eq (mul_right_comm (m * up e) k d)) (le_trans (mul-le-mul_right k h) (le_of_eq (mul_assoc c (down e) k)))

-- |y - x| is at most c / d, where that is exact and bounds x and y
pub apart_most : (f : Format) (x y : Float) (c d : ℕ) → 0 < d → HasValue (round f false c d) false c d → AtMost x c d → AtMost y c d
    → AtMost (mag (sub f y x)) c d
unfolding sub add neg
apart_most f nan y c d D v p q = absurd p
apart_most f (inf s) y c d D v p q = absurd p
apart_most f (fin s m e) nan c d D v p q = absurd q
apart_most f (fin s m e) (inf t) c d D v p q = absurd q
apart_most f (fin s m e) (fin t n g) c d D v p q =
    let A = m * up e * down g in
    let B = n * up g * down e in
    let C = down g * down e in
    let r = apart_is f s A t B C (sign_of s m e c d (down g) p) (sign_of t n g c d (down e) q) in
    let a : A * d ≤ c * C = le_trans (top_of s m e c d (down g) D p) (le_of_eq (ap (λ (x : ℕ). c * x) (mul_comm (down e) (down g)))) in
    let b : B * d ≤ c * C = top_of t n g c d (down e) D q in
    subst (λ (x : Float). AtMost x c d) (sym r.1) (round-most f r.0 C c d (mul-pos (down_pos g) (down_pos e)) D v
    (elim r.2 [ inl z ↦ le_trans (mul-le-mul_right d z) a | inr z ↦ le_trans (mul-le-mul_right d z) b ]))

-- one more
pub plus_one : (f : Format) (z : Float) (n : ℕ) → 2 * n + 1 < 2 ^ prec f → 0 < n → T (unsigned z) → AtMost z (2 * n - 1) 2 → AtMost (add f z one_f) (2 * n + 1) 2
unfolding add
plus_one f nan n h k u p = absurd p
plus_one f (inf s) n h k u p = absurd p
plus_one f (fin true m e) n h k u p = absurd u
plus_one f (fin false m e) n h k u p =
    unfold sum in
    round-most f (m * up e * 1 + 1 * down e) (down e * 1) (2 * n + 1) 2 (mul-pos (down_pos e) (zero-lt-suc 0)) (zero-lt-suc 1) (halves f false (2 * n + 1) h)
    (more (m * up e) (down e) p)
  where
    more : (X D : ℕ) → X * 2 ≤ (2 * n - 1) * D → (X * 1 + 1 * D) * 2 ≤ (2 * n + 1) * (D * 1)
    more X D g =
        let e1 : 2 * n - 1 + 2 ≡ 2 * n + 1 = omega arith in
        let e2 : (2 * n - 1) * D + 2 * D ≡ (2 * n + 1) * D = sym (add-mul (2 * n - 1) 2 D) ∙ ap (λ (z : ℕ). z * D) e1 in
        let e3 : (2 * n + 1) * (D * 1) ≡ (2 * n + 1) * D = ap (λ (z : ℕ). (2 * n + 1) * z) (mul-one D) in
        omega arith

-- truncated
pub cut : (w : ℕ) (z : Float) (n : ℕ) → AtMost z (2 * n + 1) 2 → to_unsigned w z ≤ n
unfolding to_unsigned
cut w nan n p = absurd p
cut w (inf s) n p = absurd p
cut w (fin true m e) n p = zero-le
cut w (fin false m e) n p =
    least (m * up e / down e) (2 ^ w - 1) ((div-lt_iff_lt-mul (down_pos e)).1 (under (m * up e) (down e) (down_pos e) p))
  where
    least : (a b : ℕ) → a < suc n → min a b ≤ n
    least a b h = omega arith

    under : (X D : ℕ) → 0 < D → X * 2 ≤ (2 * n + 1) * D → X < suc n * D
    under X D P g =
        let e1 : 2 * n + 1 + 1 ≡ suc n + suc n = omega arith in
        let e2 : (2 * n + 1) * D + 1 * D ≡ suc n * D + suc n * D =
        sym (add-mul (2 * n + 1) 1 D) ∙ ap (λ (z : ℕ). z * D) e1 ∙ add-mul (suc n) (suc n) D in
        omega arith
