-- Zeros and ones: a sum with a zero and a product with a one leave a number as it is, but that a zero may change its
-- sign. Assumes nothing.
use Rattle.std.specs.Prelude.{◌≡◌, ◌⊎◌, ℕ, zero, suc, ◌+◌, ◌-◌, ◌*◌, ◌%◌, ◌^◌, ◌≤◌, ◌<◌, Bool, ◌&&◌, cond, ℤ, pos, negsuc, T, leb, ltb, eqb, Float}
use Rattle.std.proofs.Math.Path.{refl, ap}
use Rattle.std.proofs.Common.{sym, ap₂, ◌∙◌, subst, inl, inr, zero-le, lt_of_lt_of_le, lt_of_le_of_lt, le_of_eq, mul-one, one-mul, zero-mul, mul-zero, mul_assoc, mul_comm, mul-pos, mul-lt-mul_of_pos_right, zero-lt-suc, add-zero, zero-add, lt_of_not-le, not-le_of_lt, le_of_suc-le-suc, arith, lt-ltb, le-ltb, ltb→lt, leb→le, eqb→eq, pow-add, pow_pos}
use Rattle.std.proofs.Math.Nat.{sub-zero}
use Rattle.std.proofs.Math.Bool.{true, false}
use Rattle.std.proofs.Math.Pow.{pow-lt}
use Rattle.std.specs.Float.{nan, inf, fin, Format}
use Rattle.std.specs.Float.Ieee.{prec, emax, low, up, down, unlike, round, sum, add, mul, fits}
use Rattle.std.specs.Float.Ieee.Fits.{up_pos, down_pos, and_l, and_r, round-fits}
use Rattle.std.specs.Float.Ieee.Exact.{HasValue, round_exact}
use Rattle.std.specs.Float.Ieee.Scale.{finite}
use Rattle.rules.specs.Floats.{one_f}
use Rattle.laws.specs.Floats.Values.{add_value}
use Rattle.laws.specs.Floats.OneForm.{value_unique}

-- ---- zeros
abbrev pub is_zero : Float → Bool
is_zero nan = false
is_zero (inf s) = false
is_zero (fin s m e) = eqb m 0

-- the same number: equal, or two zeros
abbrev pub SameNumber : Float → Float → Type 0
SameNumber x y = (x ≡ y) ⊎ (T (is_zero x) × T (is_zero y))

pub same_trans : (x y z : Float) → SameNumber x y → SameNumber y z → SameNumber x z
same_trans x y z (inl p) q = subst (λ (a : Float). SameNumber a z) (sym p) q
same_trans x y z (inr p) (inl q) = inr (p.0, subst (λ (a : Float). T (is_zero a)) q p.1)
same_trans x y z (inr p) (inr q) = inr (p.0, q.1)

pub zero-finite : (x : Float) → T (is_zero x) → T (finite x)
zero-finite nan t = absurd t
zero-finite (inf s) t = absurd t
zero-finite (fin s m e) t = tt

pub same-finite : (x y : Float) → SameNumber x y → T (finite y) → T (finite x)
same-finite x y (inl p) h = subst (λ (a : Float). T (finite a)) (sym p) h
same-finite x y (inr p) h = zero-finite x p.0

pub same-zero : (x y : Float) → SameNumber x y → T (is_zero y) → T (is_zero x)
same-zero x y (inl p) h = subst (λ (a : Float). T (is_zero a)) (sym p) h
same-zero x y (inr p) h = p.0

zero-from : (x : Float) (s : Bool) (c : ℕ) → 0 < c → HasValue x s 0 c → T (is_zero x)
zero-from nan s c C v = absurd v
zero-from (inf t) s c C v = absurd v
zero-from (fin t zero e) s c C v = tt
zero-from (fin t (suc m) e) s c C v = absurd (no (mul-pos (mul-pos (zero-lt-suc m) (up_pos e)) C) (v.1 ∙ zero-mul (down e)))
  where
    no : 0 < suc m * up e * c → suc m * up e * c ≡ 0 → ⊥
    no p q = omega arith

pub round-zero : (f : Format) (s : Bool) (a c : ℕ) → 0 < c → a ≡ 0 → T (is_zero (round f s a c))
round-zero f s a c C e =
    subst (λ (x : ℕ). T (is_zero (round f s x c))) (sym e)
    (zero-from (round f s 0 c) s c C (round_exact f s 0 c 0 0 C (pow_pos (prec f)) (pow_pos (low f + suc (emax f))) (zero-mul (2 ^ low f) ∙ sym (zero-mul c))))

-- ---- a value that fits, rounded, is itself
own : (f : Format) (s : Bool) (m : ℕ) (e : ℤ) → T (fits f (fin s (suc m) e)) → (suc m < 2 ^ prec f) × (down e ≤ 2 ^ low f) × (suc m * up e < 2 ^ suc (emax f) * down e)
unfolding fits
own f s m e t =
    let a : Bool = eqb (suc m % 2) 1 in
    let b : Bool = ltb (suc m) (2 ^ prec f) in
    let c : Bool = leb (down e) (2 ^ low f) in
    let d : Bool = ltb (suc m * up e) (2 ^ suc (emax f) * down e) in (
      ltb→lt (suc m) (2 ^ prec f) (and_r a b (and_l (a && b) c (and_l (a && b && c) d t))),
      leb→le (down e) (2 ^ low f) (and_r (a && b) c (and_l (a && b && c) d t)),
      ltb→lt (suc m * up e) (2 ^ suc (emax f) * down e) (and_r (a && b && c) d t),
    )

pow_le_back : (a b : ℕ) → 2 ^ a ≤ 2 ^ b → a ≤ b
pow_le_back a b h = le_of_suc-le-suc (lt_of_not-le (λ (g : suc b ≤ a). not-le_of_lt (pow-lt g) h))

own_round_val : (f : Format) (s : Bool) (m : ℕ) (e : ℤ) → T (fits f (fin s (suc m) e)) → HasValue (round f s (suc m * up e) (down e)) s (suc m * up e) (down e)
own_round_val f s m (pos k) t =
    let h = own f s m (pos k) t in
    let q : suc m * 2 ^ (k + low f) ≡ suc m * 2 ^ k * 2 ^ low f = ap (λ (x : ℕ). suc m * x) (pow-add 2 k (low f)) ∙ sym (mul_assoc (suc m) (2 ^ k) (2 ^ low f)) in
    let r : 2 ^ suc (emax f) * 1 * 2 ^ low f ≡ 2 ^ (low f + suc (emax f)) = ap (λ (x : ℕ). x * 2 ^ low f) (mul-one (2 ^ suc (emax f))) ∙ mul_comm (2 ^ suc (emax f)) (2 ^ low f)
    ∙ sym (pow-add 2 (low f) (suc (emax f))) in
    round_exact f s (suc m * 2 ^ k) 1 (suc m) (k + low f) (zero-lt-suc 0) h.0
    (lt_of_lt_of_le (lt_of_le_of_lt (le_of_eq q) (mul-lt-mul_of_pos_right h.2 (pow_pos (low f)))) (le_of_eq r))
    (sym q ∙ sym (mul-one (suc m * 2 ^ (k + low f))))
own_round_val f s m (negsuc k) t =
    let h = own f s m (negsuc k) t in
    let g : suc k ≤ low f = pow_le_back (suc k) (low f) h.1 in
    let j = low f - suc k in
    let w : 2 ^ low f ≡ 2 ^ j * 2 ^ suc k = ap (λ (x : ℕ). 2 ^ x) (fill (low f) (suc k) g) ∙ pow-add 2 j (suc k) in
    let r : 2 ^ suc (emax f) * 2 ^ suc k * 2 ^ j ≡ 2 ^ (low f + suc (emax f)) =
    mul_assoc (2 ^ suc (emax f)) (2 ^ suc k) (2 ^ j) ∙ ap (λ (x : ℕ). 2 ^ suc (emax f) * x) (mul_comm (2 ^ suc k) (2 ^ j) ∙ sym w) ∙ mul_comm (2 ^ suc (emax f)) (2 ^ low f)
    ∙ sym (pow-add 2 (low f) (suc (emax f))) in
    round_exact f s (suc m * 1) (2 ^ suc k) (suc m) j (pow_pos (suc k)) h.0
    (lt_of_lt_of_le (lt_of_le_of_lt (le_of_eq (ap (λ (x : ℕ). x * 2 ^ j) (sym (mul-one (suc m))))) (mul-lt-mul_of_pos_right h.2 (pow_pos j))) (le_of_eq r))
    (ap₂ (λ (x y : ℕ). x * y) (mul-one (suc m)) w ∙ sym (mul_assoc (suc m) (2 ^ j) (2 ^ suc k)))
  where
    fill : (l k : ℕ) → k ≤ l → l ≡ l - k + k
    fill l k h = omega arith

pub round_own : (f : Format) (s : Bool) (m : ℕ) (e : ℤ) → T (fits f (fin s (suc m) e)) → round f s (suc m * up e) (down e) ≡ fin s (suc m) e
round_own f s m e t =
    value_unique f (round f s (suc m * up e) (down e)) (fin s (suc m) e) s (suc m * up e) (down e) (down_pos e) (round-fits f s (suc m * up e) (down e)) t
    (own_round_val f s m e t) (refl, refl)

-- ---- sums with a zero
sum_right_zero : (f : Format) (s : Bool) (a : ℕ) (t : Bool) (c : ℕ) → 0 < a → sum f s a t 0 c ≡ round f s a c
unfolding sum
sum_right_zero f true a true c h = ap (λ (x : ℕ). round f true x c) (add-zero a)
sum_right_zero f false a false c h = ap (λ (x : ℕ). round f false x c) (add-zero a)
sum_right_zero f false a true c h =
    ap (λ (t : Bool). cond t (round f true (0 - a) c) (round f false (a - 0) c)) (le-ltb a 0 zero-le) ∙ ap (λ (x : ℕ). round f false x c) (sub-zero a)
sum_right_zero f true a false c h =
    ap₂ (λ (t u : Bool). cond t (round f false (0 - a) c) (round f u (a - 0) c)) (le-ltb a 0 zero-le) (lt-ltb 0 a h) ∙ ap (λ (x : ℕ). round f true x c) (sub-zero a)

sum-left-zero : (f : Format) (s : Bool) (t : Bool) (b c : ℕ) → 0 < b → sum f s 0 t b c ≡ round f t b c
unfolding sum
sum-left-zero f true true b c h = ap (λ (x : ℕ). round f true x c) (zero-add b)
sum-left-zero f false false b c h = ap (λ (x : ℕ). round f false x c) (zero-add b)
sum-left-zero f false true b c h = ap (λ (t : Bool). cond t (round f true (b - 0) c) (round f false (0 - b) c)) (lt-ltb 0 b h) ∙ ap (λ (x : ℕ). round f true x c) (sub-zero b)
sum-left-zero f true false b c h =
    ap (λ (t : Bool). cond t (round f false (b - 0) c) (round f (ltb b 0) (0 - b) c)) (lt-ltb 0 b h) ∙ ap (λ (x : ℕ). round f false x c) (sub-zero b)

sum_zeros : (f : Format) (s : Bool) (a : ℕ) (t : Bool) (b c : ℕ) → 0 < c → a ≡ 0 → b ≡ 0 → T (is_zero (sum f s a t b c))
unfolding sum
sum_zeros f true a true b c C p q = round-zero f true (a + b) c C (omega arith)
sum_zeros f false a false b c C p q = round-zero f false (a + b) c C (omega arith)
sum_zeros f false a true b c C p q =
    subst (λ (t : Bool). T (is_zero (cond t (round f true (b - a) c) (round f false (a - b) c)))) (sym (le-ltb a b (omega arith))) (round-zero f false (a - b) c C (omega arith))
sum_zeros f true a false b c C p q =
    subst (λ (t : Bool). T (is_zero (cond t (round f false (b - a) c) (round f (ltb b a) (a - b) c)))) (sym (le-ltb a b (omega arith)))
    (round-zero f (ltb b a) (a - b) c C (omega arith))

-- a zero over any divisor
zero_value : (t : Bool) (n : ℕ) (g : ℤ) (c : ℕ) → T (is_zero (fin t n g)) → HasValue (fin t n g) t 0 c
zero_value t n g c h = (refl, ap (λ (x : ℕ). x * up g * c) (eqb→eq n 0 h) ∙ ap (λ (x : ℕ). x * c) (zero-mul (up g)) ∙ zero-mul c ∙ sym (zero-mul (down g)))

pub add_right_zero : (f : Format) (x z : Float) → T (fits f x) → T (finite x) → T (is_zero z) → SameNumber (add f x z) x
add_right_zero f nan z p q r = absurd q
add_right_zero f (inf s) z p q r = absurd q
add_right_zero f (fin s m e) nan p q r = absurd r
add_right_zero f (fin s m e) (inf t) p q r = absurd r
add_right_zero f (fin s zero e) (fin t n g) p q r =
    inr (
      subst (λ (y : Float). T (is_zero y)) (sym (add_value f (fin s zero e) (fin t n g) s t (zero * up e) 0 (down e) (down_pos e) (refl, refl) (zero_value t n g (down e) r)))
          (sum_zeros f s (zero * up e) t 0 (down e) (down_pos e) (zero-mul (up e)) refl),
      tt,
    )
add_right_zero f (fin s (suc m) e) (fin t n g) p q r =
    inl (add_value f (fin s (suc m) e) (fin t n g) s t (suc m * up e) 0 (down e) (down_pos e) (refl, refl) (zero_value t n g (down e) r)
    ∙ sum_right_zero f s (suc m * up e) t (down e) (mul-pos (zero-lt-suc m) (up_pos e)) ∙ round_own f s m e p)

pub add-left-zero : (f : Format) (z x : Float) → T (fits f x) → T (finite x) → T (is_zero z) → SameNumber (add f z x) x
add-left-zero f z nan p q r = absurd q
add-left-zero f z (inf s) p q r = absurd q
add-left-zero f nan (fin s m e) p q r = absurd r
add-left-zero f (inf t) (fin s m e) p q r = absurd r
add-left-zero f (fin t n g) (fin s zero e) p q r =
    inr (
      subst (λ (y : Float). T (is_zero y)) (sym (add_value f (fin t n g) (fin s zero e) t s 0 (zero * up e) (down e) (down_pos e) (zero_value t n g (down e) r) (refl, refl)))
          (sum_zeros f t 0 s (zero * up e) (down e) (down_pos e) refl (zero-mul (up e))),
      tt,
    )
add-left-zero f (fin t n g) (fin s (suc m) e) p q r =
    inl (add_value f (fin t n g) (fin s (suc m) e) t s 0 (suc m * up e) (down e) (down_pos e) (zero_value t n g (down e) r) (refl, refl)
    ∙ sum-left-zero f t s (suc m * up e) (down e) (mul-pos (zero-lt-suc m) (up_pos e)) ∙ round_own f s m e p)

-- ---- products with a zero and with one
pub mul-left-zero : (f : Format) (z x : Float) → T (is_zero z) → T (finite x) → T (is_zero (mul f z x))
unfolding mul
mul-left-zero f nan x p q = absurd p
mul-left-zero f (inf s) x p q = absurd p
mul-left-zero f (fin s m e) nan p q = absurd q
mul-left-zero f (fin s m e) (inf t) p q = absurd q
mul-left-zero f (fin s m e) (fin t n d) p q =
    round-zero f (unlike s t) (m * up e * (n * up d)) (down e * down d) (mul-pos (down_pos e) (down_pos d))
    (ap (λ (x : ℕ). x * up e * (n * up d)) (eqb→eq m 0 p) ∙ ap (λ (x : ℕ). x * (n * up d)) (zero-mul (up e)) ∙ zero-mul (n * up d))

pub mul_right_zero : (f : Format) (x z : Float) → T (finite x) → T (is_zero z) → T (is_zero (mul f x z))
unfolding mul
mul_right_zero f nan x p q = absurd p
mul_right_zero f (inf s) x p q = absurd p
mul_right_zero f (fin s m e) nan p q = absurd q
mul_right_zero f (fin s m e) (inf t) p q = absurd q
mul_right_zero f (fin s m e) (fin t n d) p q =
    round-zero f (unlike s t) (m * up e * (n * up d)) (down e * down d) (mul-pos (down_pos e) (down_pos d))
    (ap (λ (x : ℕ). m * up e * (x * up d)) (eqb→eq n 0 q) ∙ ap (λ (x : ℕ). m * up e * x) (zero-mul (up d)) ∙ mul-zero (m * up e))

pub mul-one-left : (f : Format) (x : Float) → T (fits f x) → T (finite x) → SameNumber (mul f one_f x) x
mul-one-left f nan p q = absurd q
mul-one-left f (inf s) p q = absurd q
mul-one-left f (fin s zero e) p q = inr (mul_right_zero f one_f (fin s zero e) tt tt, tt)
mul-one-left f (fin s (suc m) e) p q =
    inl (unfold mul in (ap₂ (λ (x y : ℕ). round f (unlike false s) x y) (one-mul (suc m * up e)) (one-mul (down e))
    ∙ ap (λ (b : Bool). round f b (suc m * up e) (down e)) (twice s) ∙ round_own f s m e p))
  where
    twice : (s : Bool) → unlike false s ≡ s
    twice true = refl
    twice false = refl
