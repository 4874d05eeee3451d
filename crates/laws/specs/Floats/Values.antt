-- The library's sums and comparisons see only the values: of two floats that are ±a / c and ±b / c they are those of a
-- and b. Assumes nothing.
use Rattle.std.specs.Prelude.{◌≡◌, refl, ℕ, ◌+◌, ◌-◌, ◌*◌, ◌<◌, Bool, true, false, ◌&&◌, ◌||◌, cond, ltb, Float}
use Rattle.std.proofs.Common.{sym, ap, ap₂, ◌∙◌, subst, mul_assoc, mul_comm, mul_right_comm, mul-pos, add-mul, zero-mul, mul-lt-mul_of_pos_right, lt_of_mul-lt-mul_right, arith}
use Rattle.std.proofs.Math.Nat.{mul-sub, eq_of_mul-eq-mul_right}
use Rattle.std.specs.Bool.{beq}
use Rattle.std.specs.Float.{nan, inf, fin, Format}
use Rattle.std.specs.Float.Ieee.{up, down, round, sum, add, below, level, lt, eq}
use Rattle.std.specs.Float.Ieee.Fits.{down_pos}
use Rattle.std.specs.Float.Ieee.Exact.{HasValue}
use Rattle.std.specs.Float.Ieee.Scale.{round_same}
use Rattle.laws.specs.Floats.Tests.{ltb_iff, eqb_iff}

-- ---- a value over a multiple of its divisor
pub scaled : (x : Float) (s : Bool) (a c k : ℕ) → HasValue x s a c → HasValue x s (a * k) (c * k)
scaled nan s a c k h = absurd h
scaled (inf t) s a c k h = absurd h
scaled (fin t m e) s a c k h =
    (h.0, sym (mul_assoc (m * up e) c k) ∙ ap (λ (z : ℕ). z * k) h.1 ∙ mul_right_comm a (down e) k)

-- ---- `add` and `lt` see only the values
module _ (A B D a b c : ℕ) (P : 0 < D) (Q : 0 < c) (p : A * c ≡ a * D) (q : B * c ≡ b * D) where
  cross_lt : A < B → a < b
  cross_lt h = lt_of_mul-lt-mul_right D (subst (λ (x : ℕ). x < b * D) p (subst (λ (x : ℕ). A * c < x) q (mul-lt-mul_of_pos_right h Q)))

  cross_sub : (A - B) * c ≡ (a - b) * D
  cross_sub =
      mul_comm (A - B) c ∙ mul-sub c A B ∙ ap₂ (λ (x y : ℕ). x - y) (mul_comm c A ∙ p ∙ mul_comm a D) (mul_comm c B ∙ q ∙ mul_comm b D) ∙ sym (mul-sub D a b) ∙ mul_comm D (a - b)

  cross_add : (A + B) * c ≡ (a + b) * D
  cross_add = add-mul A B c ∙ ap₂ (λ (x y : ℕ). x + y) p q ∙ sym (add-mul a b D)

cross_ltb : (A B D a b c : ℕ) → 0 < D → 0 < c → A * c ≡ a * D → B * c ≡ b * D → ltb A B ≡ ltb a b
cross_ltb A B D a b c P Q p q = ltb_iff A B a b (cross_lt A B D a b c P Q p q) (cross_lt a b c A B D Q P (sym p) (sym q))

sum_same : (f : Format) (s : Bool) (A : ℕ) (t : Bool) (B D a b c : ℕ) → 0 < D → 0 < c → A * c ≡ a * D → B * c ≡ b * D → sum f s A t B D ≡ sum f s a t b c
unfolding sum
sum_same f true A true B D a b c P Q p q = round_same f true (A + B) D (a + b) c P Q (cross_add A B D a b c P Q p q)
sum_same f false A false B D a b c P Q p q = round_same f false (A + B) D (a + b) c P Q (cross_add A B D a b c P Q p q)
sum_same f true A false B D a b c P Q p q =
    ap₂ (λ (u v : Bool). cond u (round f false (B - A) D) (round f v (A - B) D)) (cross_ltb A B D a b c P Q p q) (cross_ltb B A D b a c P Q q p)
    ∙ ap₂ (λ (x y : Float). cond (ltb a b) x y) (round_same f false (B - A) D (b - a) c P Q (cross_sub B A D b a c P Q q p))
    (round_same f (ltb b a) (A - B) D (a - b) c P Q (cross_sub A B D a b c P Q p q))
sum_same f false A true B D a b c P Q p q =
    ap (λ (u : Bool). cond u (round f true (B - A) D) (round f false (A - B) D)) (cross_ltb A B D a b c P Q p q)
    ∙ ap₂ (λ (x y : Float). cond (ltb a b) x y) (round_same f true (B - A) D (b - a) c P Q (cross_sub B A D b a c P Q q p))
    (round_same f false (A - B) D (a - b) c P Q (cross_sub A B D a b c P Q p q))

below-same : (s : Bool) (A : ℕ) (t : Bool) (B D a b c : ℕ) → 0 < D → 0 < c → A * c ≡ a * D → B * c ≡ b * D → below s A t B ≡ below s a t b
below-same false A false B D a b c P Q p q = cross_ltb A B D a b c P Q p q
below-same false A true B D a b c P Q p q = refl
below-same true A false B D a b c P Q p q = cross_ltb 0 (A + B) D 0 (a + b) c P Q (mul-zero-both c D) (cross_add A B D a b c P Q p q)
  where
    mul-zero-both : (x y : ℕ) → 0 * x ≡ 0 * y
    mul-zero-both x y = omega arith
below-same true A true B D a b c P Q p q = cross_ltb B A D b a c P Q q p

-- the two fractions that `add` and `lt` make of x and y
left_cross : (m ue de dd a c : ℕ) → m * ue * c ≡ a * de → m * ue * dd * c ≡ a * (de * dd)
left_cross m ue de dd a c h = mul_right_comm (m * ue) dd c ∙ ap (λ (x : ℕ). x * dd) h ∙ mul_assoc a de dd

right_cross : (n ud de dd b c : ℕ) → n * ud * c ≡ b * dd → n * ud * de * c ≡ b * (de * dd)
right_cross n ud de dd b c h = mul_right_comm (n * ud) de c ∙ ap (λ (x : ℕ). x * de) h ∙ mul_assoc b dd de ∙ ap (λ (x : ℕ). b * x) (mul_comm dd de)

pub add_value : (f : Format) (x y : Float) (s t : Bool) (a b c : ℕ) → 0 < c → HasValue x s a c → HasValue y t b c → add f x y ≡ sum f s a t b c
unfolding add
add_value f nan y s t a b c C p q = absurd p
add_value f (inf u) y s t a b c C p q = absurd p
add_value f (fin u m e) nan s t a b c C p q = absurd q
add_value f (fin u m e) (inf v) s t a b c C p q = absurd q
add_value f (fin u m e) (fin v n d) s t a b c C p q =
    sum_same f u (m * up e * down d) v (n * up d * down e) (down e * down d) a b c (mul-pos (down_pos e) (down_pos d)) C (left_cross m (up e) (down e) (down d) a c p.1)
    (right_cross n (up d) (down e) (down d) b c q.1)
    ∙ ap₂ (λ (i j : Bool). sum f i a j b c) p.0 q.0

pub lt_value : (x y : Float) (s t : Bool) (a b c : ℕ) → 0 < c → HasValue x s a c → HasValue y t b c → lt x y ≡ below s a t b
unfolding lt
lt_value nan y s t a b c C p q = absurd p
lt_value (inf u) y s t a b c C p q = absurd p
lt_value (fin u m e) nan s t a b c C p q = absurd q
lt_value (fin u m e) (inf v) s t a b c C p q = absurd q
lt_value (fin u m e) (fin v n d) s t a b c C p q =
    below-same u (m * up e * down d) v (n * up d * down e) (down e * down d) a b c (mul-pos (down_pos e) (down_pos d)) C (left_cross m (up e) (down e) (down d) a c p.1)
    (right_cross n (up d) (down e) (down d) b c q.1)
    ∙ ap₂ (λ (i j : Bool). below i a j b) p.0 q.0

level-same : (s : Bool) (A : ℕ) (t : Bool) (B D a b c : ℕ) → 0 < D → 0 < c → A * c ≡ a * D → B * c ≡ b * D → level s A t B ≡ level s a t b
level-same s A t B D a b c P Q p q =
    ap₂ (λ (u v : Bool). u && (beq s t || v))
    (eqb_iff A B a b (λ e. eq_of_mul-eq-mul_right D P a b (sym p ∙ ap (λ (x : ℕ). x * c) e ∙ q)) (λ e. eq_of_mul-eq-mul_right c Q A B (p ∙ ap (λ (x : ℕ). x * D) e ∙ sym q)))
    (eqb_iff A 0 a 0 (λ e. eq_of_mul-eq-mul_right D P a 0 (sym p ∙ ap (λ (x : ℕ). x * c) e ∙ zero-mul c ∙ sym (zero-mul D)))
    (λ e. eq_of_mul-eq-mul_right c Q A 0 (p ∙ ap (λ (x : ℕ). x * D) e ∙ zero-mul D ∙ sym (zero-mul c))))

pub eq_value : (x y : Float) (s t : Bool) (a b c : ℕ) → 0 < c → HasValue x s a c → HasValue y t b c → eq x y ≡ level s a t b
unfolding eq
eq_value nan y s t a b c C p q = absurd p
eq_value (inf u) y s t a b c C p q = absurd p
eq_value (fin u m e) nan s t a b c C p q = absurd q
eq_value (fin u m e) (inf v) s t a b c C p q = absurd q
eq_value (fin u m e) (fin v n d) s t a b c C p q =
    level-same u (m * up e * down d) v (n * up d * down e) (down e * down d) a b c (mul-pos (down_pos e) (down_pos d)) C (left_cross m (up e) (down e) (down d) a c p.1)
    (right_cross n (up d) (down e) (down d) b c q.1)
    ∙ ap₂ (λ (i j : Bool). level i a j b) p.0 q.0
