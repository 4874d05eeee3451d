-- A value that fits the format is written in one way only, so a float whose value is known is known as data. Assumes
-- nothing.
use Rattle.std.specs.Prelude.{◌≡◌, refl, ℕ, zero, suc, ◌+◌, ◌*◌, ◌%◌, ◌^◌, ◌<◌, Bool, ◌&&◌, ℤ, pos, negsuc, T, leb, ltb, eqb, Float}
use Rattle.std.proofs.Common.{sym, ap, ◌∙◌, subst, mul-one, one-mul, mul_assoc, mul_left_comm, mul_right_comm, mul-pos, pow-suc, zero-mul, zero-lt-suc, lt_irrefl, arith, eqb→eq, pow-add, pow_pos}
use Rattle.std.proofs.Math.Nat.{pow-succ', eq_of_mul-eq-mul_right}
use Rattle.std.specs.Float.{nan, inf, fin, Format}
use Rattle.std.specs.Float.Ieee.{prec, emax, low, up, down, fits}
use Rattle.std.specs.Float.Ieee.Fits.{up_pos, down_pos, and_l}
use Rattle.std.specs.Float.Ieee.Exact.{HasValue}

even_odd : (m t : ℕ) → m % 2 ≡ 1 → m ≡ 2 * t → ⊥
even_odd m t o h = omega arith

odd_pow : (m n a b : ℕ) → m % 2 ≡ 1 → n % 2 ≡ 1 → m * 2 ^ a ≡ n * 2 ^ b → (m ≡ n) × (a ≡ b)
odd_pow m n zero zero o p h = (sym (mul-one m) ∙ h ∙ mul-one n, refl)
odd_pow m n zero (suc b) o p h = absurd (even_odd m (n * 2 ^ b) o (sym (mul-one m) ∙ h ∙ ap (λ (x : ℕ). n * x) (pow-succ' 2 b) ∙ mul_left_comm n 2 (2 ^ b)))
odd_pow m n (suc a) zero o p h = absurd (even_odd n (m * 2 ^ a) p (sym (mul-one n) ∙ sym h ∙ ap (λ (x : ℕ). m * x) (pow-succ' 2 a) ∙ mul_left_comm m 2 (2 ^ a)))
odd_pow m n (suc a) (suc b) o p h =
    let r = odd_pow m n a b o p (eq_of_mul-eq-mul_right 2 (zero-lt-suc 1) (m * 2 ^ a) (n * 2 ^ b)
    (mul_assoc m (2 ^ a) 2 ∙ ap (λ (x : ℕ). m * x) (sym (pow-suc 2 a)) ∙ h ∙ ap (λ (x : ℕ). n * x) (pow-suc 2 b) ∙ sym (mul_assoc n (2 ^ b) 2))) in
    (r.0, ap suc r.1)

same_exp : (m n : ℕ) (e d : ℤ) → m % 2 ≡ 1 → n % 2 ≡ 1 → m * up e * down d ≡ n * up d * down e → (m ≡ n) × (e ≡ d)
same_exp m n (pos i) (pos j) o p h = let r = odd_pow m n i j o p (sym (mul-one (m * 2 ^ i)) ∙ h ∙ mul-one (n * 2 ^ j)) in (r.0, ap pos r.1)
same_exp m n (pos i) (negsuc j) o p h =
    let r = odd_pow m n (i + suc j) 0 o p (ap (λ (x : ℕ). m * x) (pow-add 2 i (suc j)) ∙ sym (mul_assoc m (2 ^ i) (2 ^ suc j)) ∙ h ∙ mul-one (n * 1)) in absurd (never i j r.1)
  where
    never : (i j : ℕ) → i + suc j ≡ 0 → ⊥
    never i j e = omega arith
same_exp m n (negsuc i) (pos j) o p h =
    let r = odd_pow n m (j + suc i) 0 p o (ap (λ (x : ℕ). n * x) (pow-add 2 j (suc i)) ∙ sym (mul_assoc n (2 ^ j) (2 ^ suc i)) ∙ sym h ∙ mul-one (m * 1)) in absurd
    (never j i r.1)
  where
    never : (i j : ℕ) → i + suc j ≡ 0 → ⊥
    never i j e = omega arith
same_exp m n (negsuc i) (negsuc j) o p h =
    let r = odd_pow m n (suc j) (suc i) o p (ap (λ (x : ℕ). x * 2 ^ suc j) (sym (mul-one m)) ∙ h ∙ ap (λ (x : ℕ). x * 2 ^ suc i) (mul-one n)) in
    (r.0, ap negsuc (less i j r.1))
  where
    less : (i j : ℕ) → suc j ≡ suc i → i ≡ j
    less i j e = omega arith

is_odd : (f : Format) (s : Bool) (m : ℕ) (e : ℤ) → T (fits f (fin s (suc m) e)) → suc m % 2 ≡ 1
unfolding fits
is_odd f s m e t =
    eqb→eq (suc m % 2) 1 (and_l (eqb (suc m % 2) 1) (ltb (suc m) (2 ^ prec f)) (and_l (eqb (suc m % 2) 1 && ltb (suc m) (2 ^ prec f)) (leb (down e) (2 ^ low f))
    (and_l (eqb (suc m % 2) 1 && ltb (suc m) (2 ^ prec f) && leb (down e) (2 ^ low f)) (ltb (suc m * up e) (2 ^ suc (emax f) * down e)) t)))

two_up : (p : ℕ) → 0 < p → 2 * p ≡ 1 → ⊥
two_up p h e = omega arith

flat : (e : ℤ) → up e * down e ≡ 1 → e ≡ pos 0
flat (pos zero) h = refl
flat (pos (suc k)) h = absurd (two_up (2 ^ k) (pow_pos k) (sym (pow-succ' 2 k) ∙ sym (mul-one (2 ^ suc k)) ∙ h))
flat (negsuc k) h = absurd (two_up (2 ^ k) (pow_pos k) (sym (pow-succ' 2 k) ∙ sym (one-mul (2 ^ suc k)) ∙ h))

zero_exp : (f : Format) (s : Bool) (e : ℤ) → T (fits f (fin s zero e)) → e ≡ pos 0
unfolding fits
zero_exp f s e t = flat e (eqb→eq (up e * down e) 1 t)

-- two fractions that are both a / c
cross : (m ue de n ud dd a c : ℕ) → 0 < c → m * ue * c ≡ a * de → n * ud * c ≡ a * dd → m * ue * dd ≡ n * ud * de
cross m ue de n ud dd a c C p q =
    eq_of_mul-eq-mul_right c C (m * ue * dd) (n * ud * de)
    (mul_right_comm (m * ue) dd c ∙ ap (λ (x : ℕ). x * dd) p ∙ mul_right_comm a de dd ∙ ap (λ (x : ℕ). x * de) (sym q) ∙ mul_right_comm (n * ud) c de)

not-zero : (m ue dd : ℕ) → 0 < ue → 0 < dd → suc m * ue * dd ≡ 0 → ⊥
not-zero m ue dd U D h = lt_irrefl 0 (subst (λ (x : ℕ). 0 < x) h (mul-pos (mul-pos (zero-lt-suc m) U) D))

zeros : (ue dd : ℕ) → 0 * ue * dd ≡ 0
zeros ue dd = ap (λ (x : ℕ). x * dd) (zero-mul ue) ∙ zero-mul dd

pub value_unique : (f : Format) (x y : Float) (s : Bool) (a c : ℕ) → 0 < c → T (fits f x) → T (fits f y) → HasValue x s a c → HasValue y s a c → x ≡ y
value_unique f nan y s a c C p q v w = absurd v
value_unique f (inf t) y s a c C p q v w = absurd v
value_unique f (fin t m e) nan s a c C p q v w = absurd w
value_unique f (fin t m e) (inf u) s a c C p q v w = absurd w
value_unique f (fin t zero e) (fin u zero g) s a c C p q v w = λ i. fin ((v.0 ∙ sym w.0) i) zero ((zero_exp f t e p ∙ sym (zero_exp f u g q)) i)
value_unique f (fin t zero e) (fin u (suc n) g) s a c C p q v w =
    absurd (not-zero n (up g) (down e) (up_pos g) (down_pos e) (sym (cross zero (up e) (down e) (suc n) (up g) (down g) a c C v.1 w.1) ∙ zeros (up e) (down g)))
value_unique f (fin t (suc m) e) (fin u zero g) s a c C p q v w =
    absurd (not-zero m (up e) (down g) (up_pos e) (down_pos g) (cross (suc m) (up e) (down e) zero (up g) (down g) a c C v.1 w.1 ∙ zeros (up g) (down e)))
value_unique f (fin t (suc m) e) (fin u (suc n) g) s a c C p q v w =
    let r = same_exp (suc m) (suc n) e g (is_odd f t m e p) (is_odd f u n g q) (cross (suc m) (up e) (down e) (suc n) (up g) (down g) a c C v.1 w.1) in
    λ i. fin ((v.0 ∙ sym w.0) i) (r.0 i) (r.1 i)
