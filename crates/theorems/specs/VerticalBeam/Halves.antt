-- Numbers of halves: every coordinate of a vertical beam is one, and the sums, differences, products and comparisons
-- that it meets are exact. Of every format. Assumes nothing.
use Rattle.std.specs.Prelude.{◌≡◌, refl, Bool, true, false, not, cond, ◌&&◌, ◌||◌, ℕ, zero, suc, ◌+◌, ◌-◌, ◌*◌, ◌/◌, ◌^◌, ◌≤◌, ◌<◌, min, ℤ, pos, T, eqb, ltb, leb, Float}
use Rattle.std.proofs.Common.{sym, ap, ap₂, ◌∙◌, subst, true≢false, mul-pos, mul-one, zero-mul, zero-lt-suc, arith, le-ltb, ne_eqb}
use Rattle.std.proofs.Math.Nat.{mul-mul-mul_comm}
use Rattle.std.specs.Float.{nan, inf, fin, Format, binary32, binary64}
use Rattle.std.specs.Float.Ieee.{up, down, unlike, round, sum, add, sub, mul, div, lt, le, eq, of_int, to_unsigned, to_signed}
use Rattle.std.specs.Float.Ieee.Exact.{HasValue}
use Rattle.std.specs.Float.Ieee.Fits.{down_pos, up_pos}
use Rattle.std.specs.Float.Ieee.Nearest.{div_same}
use Rattle.std.specs.Float.Ieee.Scale.{finite, round_same}
use Rattle.rules.specs.Floats.{zero_f, half_f, one_f, number_f, mag}
use Rattle.rules.specs.Coordinates.{truncated}
use Rattle.rules.specs.TheGridAndItsBounds.{most_extent}
use Rattle.laws.specs.Floats.Tests.{and-true, lt_or_eq}
use Rattle.laws.specs.Floats.Values.{add_value, lt_value, eq_value}
use Rattle.laws.specs.Floats.Sizes.{halves, mag-round, extents_exact}
use Rattle.laws.specs.Floats.Differences.{difference}
use Rattle.laws.specs.Floats.Quotients.{Divides}

-- k halves
abbrev pub half : Format → ℕ → Float
half f k = round f false k 2

-- the most of them that a map's coordinates come to
abbrev pub most_halves : ℕ
most_halves = 8_193

pub half_value : (f : Format) (k : ℕ) → k ≤ most_halves → HasValue (half f k) false k 2
half_value f k h = halves f false k (omega (arith, extents_exact f))

-- ---- the numbers that the rules name
pub no_halves : (f : Format) → half f 0 ≡ zero_f
unfolding round
no_halves binary32 = refl
no_halves binary64 = refl

pub one-half : (f : Format) → half f 1 ≡ half_f
unfolding round
one-half binary32 = refl
one-half binary64 = refl

pub two_halves : (f : Format) → half f 2 ≡ one_f
unfolding round
two_halves binary32 = refl
two_halves binary64 = refl

pub number_halves : (f : Format) (n : ℕ) → number_f f n ≡ half f (2 * n)
unfolding number_f of_int
number_halves f n = round_same f false n 1 (2 * n) 2 (zero-lt-suc 0) (zero-lt-suc 1) (omega arith)

-- ---- sums and differences
sum-up : (f : Format) (a b : ℕ) → sum f false a false b 2 ≡ half f (a + b)
unfolding sum
sum-up f a b = refl

sum-down : (f : Format) (a b : ℕ) → b ≤ a → sum f false a true b 2 ≡ half f (a - b)
unfolding sum
sum-down f a b h = ap (λ (t : Bool). cond t (round f true (b - a) 2) (round f false (a - b) 2)) (le-ltb a b h)

pub add_halves : (f : Format) (a b : ℕ) → a ≤ most_halves → b ≤ most_halves → add f (half f a) (half f b) ≡ half f (a + b)
add_halves f a b h k = add_value f (half f a) (half f b) false false a b 2 (zero-lt-suc 1) (half_value f a h) (half_value f b k) ∙ sum-up f a b

pub sub_halves : (f : Format) (a b : ℕ) → a ≤ most_halves → b ≤ a → sub f (half f a) (half f b) ≡ half f (a - b)
sub_halves f a b h k =
    difference f (half f b) (half f a) false false b a 2 (zero-lt-suc 1) (half_value f b (omega arith)) (half_value f a h) ∙ sum-down f a b k

-- ---- products
mul_value : (f : Format) (x y : Float) (s t : Bool) (a b c d : ℕ) → 0 < c → 0 < d → HasValue x s a c → HasValue y t b d
    → mul f x y ≡ round f (unlike s t) (a * b) (c * d)
unfolding mul
mul_value f nan y s t a b c d C D p q = absurd p
mul_value f (inf u) y s t a b c d C D p q = absurd p
mul_value f (fin u m e) nan s t a b c d C D p q = absurd q
mul_value f (fin u m e) (inf v) s t a b c d C D p q = absurd q
mul_value f (fin u m e) (fin v n g) s t a b c d C D p q =
    round_same f (unlike u v) (m * up e * (n * up g)) (down e * down g) (a * b) (c * d) (mul-pos (down_pos e) (down_pos g)) (mul-pos C D)
    (mul-mul-mul_comm (m * up e) (n * up g) c d ∙ ap₂ (λ (i j : ℕ). i * j) p.1 q.1 ∙ mul-mul-mul_comm a (down e) b (down g))
    ∙ ap₂ (λ (i j : Bool). round f (unlike i j) (a * b) (c * d)) p.0 q.0

pub mul_halves_zero : (f : Format) (a : ℕ) → a ≤ most_halves → mul f (half f a) zero_f ≡ half f 0
mul_halves_zero f a h =
    mul_value f (half f a) zero_f false false a 0 2 1 (zero-lt-suc 1) (zero-lt-suc 0) (half_value f a h) (refl, refl)
    ∙ round_same f false (a * 0) 2 0 2 (zero-lt-suc 1) (zero-lt-suc 1) (omega arith)

pub mul_halves_one : (f : Format) (a : ℕ) → a ≤ most_halves → mul f (half f a) one_f ≡ half f a
mul_halves_one f a h =
    mul_value f (half f a) one_f false false a 1 2 1 (zero-lt-suc 1) (zero-lt-suc 0) (half_value f a h) (refl, refl)
    ∙ ap (λ (k : ℕ). round f false k 2) (mul-one a)

-- ---- nothing, divided
some_part : (n u b d : ℕ) → 0 < b → 0 < d → n * u * 2 ≡ b * d → n ≡ 0 → ⊥
some_part n u b d B D h z =
    let p = mul-pos B D in
    let q : n * u * 2 ≡ 0 = ap (λ (k : ℕ). k * u * 2) z ∙ ap (λ (k : ℕ). k * 2) (zero-mul u) in
    omega arith

pub divides : (x : Float) (b : ℕ) → 0 < b → HasValue x false b 2 → Divides x
divides nan b B h = absurd h
divides (inf s) b B h = absurd h
divides (fin s zero e) b B h = absurd (some_part 0 (up e) b (down e) B (down_pos e) h.1 refl)
divides (fin s (suc m) e) b B h = zero-lt-suc m

pub div_nothing : (f : Format) (y : Float) (b : ℕ) → 0 < b → HasValue y false b 2 → div f zero_f y ≡ zero_f
unfolding div
div_nothing f nan b B h = absurd h
div_nothing f (inf s) b B h = absurd h
div_nothing f (fin s n g) b B h =
    ap₂ (λ (i j : Bool). cond i (cond (eqb 0 0) nan (inf (unlike false j))) (round f (unlike false j) (0 * 1 * down g) (n * up g * 1)))
    (ne_eqb n 0 (λ z. some_part n (up g) b (down g) B (down_pos g) h.1 z)) h.0
    ∙ round_same f false (0 * 1 * down g) (n * up g * 1) 0 2 (part n (up g) h.1) (zero-lt-suc 1) (omega arith)
    ∙ no_halves f
  where
    part : (n u : ℕ) → n * u * 2 ≡ b * down g → 0 < n * u * 1
    part n u e = let p = mul-pos B (down_pos g) in omega arith

-- ---- comparisons
pub lt_halves : (f : Format) (a b : ℕ) → a ≤ most_halves → b ≤ most_halves → lt (half f a) (half f b) ≡ ltb a b
lt_halves f a b h k = lt_value (half f a) (half f b) false false a b 2 (zero-lt-suc 1) (half_value f a h) (half_value f b k)

pub eq_halves : (f : Format) (a b : ℕ) → a ≤ most_halves → b ≤ most_halves → eq (half f a) (half f b) ≡ eqb a b
eq_halves f a b h k = eq_value (half f a) (half f b) false false a b 2 (zero-lt-suc 1) (half_value f a h) (half_value f b k) ∙ and-true (eqb a b)

pub le_halves : (f : Format) (a b : ℕ) → a ≤ most_halves → b ≤ most_halves → le (half f a) (half f b) ≡ leb a b
unfolding le
le_halves f a b h k = ap₂ (λ (i j : Bool). i || j) (lt_halves f a b h k) (eq_halves f a b h k) ∙ lt_or_eq a b

pub mag_halves : (f : Format) (a : ℕ) → mag (half f a) ≡ half f a
mag_halves f a = mag-round f false a 2

value_finite : (x : Float) (s : Bool) (a c : ℕ) → HasValue x s a c → finite x ≡ true
value_finite nan s a c h = absurd h
value_finite (inf t) s a c h = absurd h
value_finite (fin t m e) s a c h = refl

pub finite_halves : (f : Format) (a : ℕ) → a ≤ most_halves → finite (half f a) ≡ true
finite_halves f a h = value_finite (half f a) false a 2 (half_value f a h)

-- ---- whole parts
unsigned_part : (w : ℕ) (x : Float) (a c : ℕ) → 0 < c → HasValue x false a c → to_unsigned w x ≡ min (a / c) (2 ^ w - 1)
unfolding to_unsigned
unsigned_part w nan a c C h = absurd h
unsigned_part w (inf s) a c C h = absurd h
unsigned_part w (fin s m e) a c C h =
    ap₂ (λ (t : Bool) (k : ℕ). cond t 0 (min k (2 ^ w - 1))) h.0 (div_same (m * up e) (down e) a c (down_pos e) C h.1)

signed_part : (x : Float) (a c : ℕ) → 0 < c → HasValue x false a c → truncated x ≡ pos (min (a / c) (2 ^ 63 - 1))
unfolding truncated to_signed
signed_part nan a c C h = absurd h
signed_part (inf s) a c C h = absurd h
signed_part (fin true m e) a c C h = absurd (true≢false h.0)
signed_part (fin false m e) a c C h = ap (λ (k : ℕ). pos (min k (2 ^ 63 - 1))) (div_same (m * up e) (down e) a c (down_pos e) C h.1)

-- the cell of a centre
pub centre-cell : (f : Format) (n : ℕ) → n ≤ most_extent → truncated (half f (2 * n + 1)) ≡ pos n
centre-cell f n h = signed_part (half f (2 * n + 1)) (2 * n + 1) 2 (zero-lt-suc 1) (half_value f (2 * n + 1) (omega arith)) ∙ ap pos (small n h)
  where
    small : (n : ℕ) → n ≤ most_extent → min ((2 * n + 1) / 2) (2 ^ 63 - 1) ≡ n
    small n h = omega arith

-- the cells along n whole steps
pub whole_count : (f : Format) (n : ℕ) → 2 * n ≤ most_halves → to_unsigned 64 (half f (2 * n)) ≡ n
whole_count f n h = unsigned_part 64 (half f (2 * n)) (2 * n) 2 (zero-lt-suc 1) (half_value f (2 * n) h) ∙ small n h
  where
    small : (n : ℕ) → 2 * n ≤ most_halves → min (2 * n / 2) (2 ^ 64 - 1) ≡ n
    small n h = omega arith
