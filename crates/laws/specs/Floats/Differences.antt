-- Differences of two floats that are not negative, as one rounded fraction: a zero may have either sign. Assumes
-- nothing.
use Rattle.std.specs.Prelude.{◌≡◌, refl, Bool, true, false, not, cond, ◌&&◌, ℕ, ◌+◌, ◌-◌, ◌*◌, ◌<◌, T, ltb, Float}
use Rattle.std.proofs.Common.{sym, ap, ap₂, ◌∙◌, subst, true≢false, zero-mul, arith, lt-ltb, le-ltb, eqb→eq}
use Rattle.std.specs.Float.{nan, inf, fin, Format}
use Rattle.std.specs.Float.Ieee.{up, down, round, sum, sub, neg, eq, level}
use Rattle.std.specs.Float.Ieee.Exact.{HasValue}
use Rattle.rules.specs.Floats.{zero_f}
use Rattle.laws.specs.Floats.Values.{add_value}
use Rattle.laws.specs.Floats.Zeros.{is_zero, round-zero}
use Rattle.laws.specs.Floats.Quotients.{no_part}

-- ---- b / c less a / c, neither negative: up, down or level
pub upward : (f : Format) (s t : Bool) (a b c : ℕ) → (T s → a ≡ 0) → (T t → b ≡ 0) → a < b → sum f t b (not s) a c ≡ round f false (b - a) c
unfolding sum
upward f true true a b c S U h = absurd (omega (arith, U tt))
upward f false true a b c S U h = absurd (omega (arith, U tt))
upward f true false a b c S U h = ap (λ (z : ℕ). round f false z c) (omega (arith, S tt))
upward f false false a b c S U h = ap (λ (z : Bool). cond z (round f true (a - b) c) (round f false (b - a) c)) (le-ltb b a (omega arith))

pub downward : (f : Format) (s t : Bool) (a b c : ℕ) → (T s → a ≡ 0) → (T t → b ≡ 0) → b < a → sum f t b (not s) a c ≡ round f true (a - b) c
unfolding sum
downward f true t a b c S U h = absurd (omega (arith, S tt))
downward f false true a b c S U h = ap (λ (z : ℕ). round f true z c) (omega (arith, U tt))
downward f false false a b c S U h = ap (λ (z : Bool). cond z (round f true (a - b) c) (round f false (b - a) c)) (lt-ltb b a h)

pub even : (f : Format) (s t : Bool) (a b c : ℕ) → 0 < c → (T s → a ≡ 0) → (T t → b ≡ 0) → a ≡ b → T (is_zero (sum f t b (not s) a c))
unfolding sum
even f true true a b c C S U h =
    subst (λ (z : Bool). T (is_zero (cond z (round f false (a - b) c) (round f (true && ltb a b) (b - a) c)))) (sym (le-ltb b a (omega arith)))
    (round-zero f (true && ltb a b) (b - a) c C (omega arith))
even f false true a b c C S U h = round-zero f true (b + a) c C (omega (arith, U tt))
even f true false a b c C S U h = round-zero f false (b + a) c C (omega (arith, S tt))
even f false false a b c C S U h =
    subst (λ (z : Bool). T (is_zero (cond z (round f true (a - b) c) (round f false (b - a) c)))) (sym (le-ltb b a (omega arith)))
    (round-zero f false (b - a) c C (omega arith))

negated : (x : Float) (s : Bool) (a c : ℕ) → HasValue x s a c → HasValue (neg x) (not s) a c
unfolding neg
negated nan s a c h = absurd h
negated (inf t) s a c h = absurd h
negated (fin t m e) s a c h = (ap not h.0, h.1)

pub difference : (f : Format) (x y : Float) (s t : Bool) (a b c : ℕ) → 0 < c → HasValue x s a c → HasValue y t b c → sub f y x ≡ sum f t b (not s) a c
unfolding sub
difference f x y s t a b c C p q = add_value f y (neg x) t (not s) b a c C q (negated x s a c p)

-- ---- zeros
pub zero_value : (c : ℕ) → HasValue zero_f false 0 c
zero_value c = (refl, omega arith)

zeros_level : (s : Bool) (u d : ℕ) → level s (0 * u * 1) false (0 * d) ≡ true
zeros_level s u d = ap₂ (λ (i j : ℕ). level s i false j) (no_part 0 u 1 refl) (zero-mul d) ∙ signs s
  where
    signs : (s : Bool) → level s 0 false 0 ≡ true
    signs true = refl
    signs false = refl

pub not-zero : (d : Float) → eq d zero_f ≡ false → T (is_zero d) → ⊥
unfolding eq
not-zero nan p z = z
not-zero (inf s) p z = z
not-zero (fin s m e) p z =
    true≢false (sym (ap (λ (k : ℕ). level s (k * up e * 1) false (0 * down e)) (eqb→eq m 0 z) ∙ zeros_level s (up e) (down e)) ∙ p)
