-- Numbers that are equal but for a zero's sign: comparisons, sums, products and truncation do not tell them apart,
-- again but for a zero's sign. Of any float, finite or not, and any format. Assumes nothing.
use Rattle.std.specs.Prelude.{ℕ, zero, suc, ◌-◌, ◌*◌, ◌/◌, ◌^◌, ◌<◌, min, Bool, true, false, cond, ◌&&◌, ◌||◌, ◌≡◌, refl, T, ltb, eqb, ℤ, pos, neg_ℤ, Float}
use Rattle.std.proofs.Common.{zero-le, inl, inr, sym, ap, ap₂, ◌∙◌, subst, add-zero, zero-add, zero-mul, zero-lt-suc, arith, eqb→eq, lt-ltb, le-ltb}
use Rattle.std.proofs.Math.Nat.{sub-zero, zero-div}
use Rattle.std.specs.Float.{nan, inf, fin, Format}
use Rattle.std.specs.Float.Ieee.{up, down, below, level, unlike, round, sum, add, sub, neg, mul, lt, le, eq, fits, to_signed}
use Rattle.std.specs.Float.Ieee.Exact.{HasValue}
use Rattle.std.specs.Float.Ieee.Fits.{down_pos}
use Rattle.rules.specs.Floats.{zero_f, mag}
use Rattle.rules.specs.Coordinates.{truncated}
use Rattle.laws.specs.Floats.OneForm.{value_unique}
use Rattle.laws.specs.Floats.Values.{add_value, lt_value, eq_value}
use Rattle.laws.specs.Floats.Zeros.{is_zero, SameNumber, same_trans, round-zero, mul_right_zero}

pub same-sym : (x y : Float) → SameNumber x y → SameNumber y x
same-sym x y (inl p) = inl (sym p)
same-sym x y (inr p) = inr (p.1, p.0)

pub same_cond : (b : Bool) (x y u v : Float) → SameNumber x u → SameNumber y v → SameNumber (cond b x y) (cond b u v)
same_cond true x y u v p q = p
same_cond false x y u v p q = q

-- a zero over any divisor
over : (t : Bool) (n : ℕ) (g : ℤ) (c : ℕ) → T (is_zero (fin t n g)) → HasValue (fin t n g) t 0 c
over t n g c h = (refl, ap (λ (x : ℕ). x * up g * c) (eqb→eq n 0 h) ∙ ap (λ (x : ℕ). x * c) (zero-mul (up g)) ∙ zero-mul c ∙ sym (zero-mul (down g)))

-- ---- comparisons
below_left : (s t : Bool) (b : ℕ) → below s 0 t b ≡ below false 0 t b
below_left false t b = refl
below_left true false b = ap (ltb 0) (zero-add b)
below_left true true b = le-ltb b 0 zero-le

below_right : (s t : Bool) (b : ℕ) → below t b s 0 ≡ below t b false 0
below_right false t b = refl
below_right true false b = sym (le-ltb b 0 zero-le)
below_right true true b = ap (ltb 0) (sym (add-zero b))

level_right : (s t : Bool) (b : ℕ) → level t b s 0 ≡ level t b false 0
level_right false t b = refl
level_right true false b = go (eqb b 0)
  where
    go : (c : Bool) → c && c ≡ c && true
    go true = refl
    go false = refl
level_right true true b = go (eqb b 0)
  where
    go : (c : Bool) → c && true ≡ c && c
    go true = refl
    go false = refl

lt-zero-left : (x y : Float) → T (is_zero x) → lt x y ≡ lt zero_f y
unfolding lt
lt-zero-left nan y t = absurd t
lt-zero-left (inf s) y t = absurd t
lt-zero-left (fin s m e) nan t = refl
lt-zero-left (fin s m e) (inf u) t = refl
lt-zero-left (fin s m e) (fin u n d) t =
    lt_value (fin s m e) (fin u n d) s u 0 (n * up d) (down d) (down_pos d) (over s m e (down d) t) (refl, refl) ∙ below_left s u (n * up d)
    ∙ sym (lt_value zero_f (fin u n d) false u 0 (n * up d) (down d) (down_pos d) (over false 0 (pos 0) (down d) tt) (refl, refl))

lt_zero_right : (y x : Float) → T (is_zero x) → lt y x ≡ lt y zero_f
unfolding lt
lt_zero_right y nan t = absurd t
lt_zero_right y (inf s) t = absurd t
lt_zero_right nan (fin s m e) t = refl
lt_zero_right (inf u) (fin s m e) t = refl
lt_zero_right (fin u n d) (fin s m e) t =
    lt_value (fin u n d) (fin s m e) u s (n * up d) 0 (down d) (down_pos d) (refl, refl) (over s m e (down d) t) ∙ below_right s u (n * up d)
    ∙ sym (lt_value (fin u n d) zero_f u false (n * up d) 0 (down d) (down_pos d) (refl, refl) (over false 0 (pos 0) (down d) tt))

eq_zero_right : (y x : Float) → T (is_zero x) → eq y x ≡ eq y zero_f
unfolding eq
eq_zero_right y nan t = absurd t
eq_zero_right y (inf s) t = absurd t
eq_zero_right nan (fin s m e) t = refl
eq_zero_right (inf u) (fin s m e) t = refl
eq_zero_right (fin u n d) (fin s m e) t =
    eq_value (fin u n d) (fin s m e) u s (n * up d) 0 (down d) (down_pos d) (refl, refl) (over s m e (down d) t) ∙ level_right s u (n * up d)
    ∙ sym (eq_value (fin u n d) zero_f u false (n * up d) 0 (down d) (down_pos d) (refl, refl) (over false 0 (pos 0) (down d) tt))

pub same-lt : (x y u v : Float) → SameNumber x u → SameNumber y v → lt x y ≡ lt u v
same-lt x y u v p q = left p ∙ right q
  where
    left : SameNumber x u → lt x y ≡ lt u y
    left (inl e) = ap (λ (z : Float). lt z y) e
    left (inr e) = lt-zero-left x y e.0 ∙ sym (lt-zero-left u y e.1)

    right : SameNumber y v → lt u y ≡ lt u v
    right (inl e) = ap (lt u) e
    right (inr e) = lt_zero_right u y e.0 ∙ sym (lt_zero_right u v e.1)

pub same-le : (x y v : Float) → SameNumber y v → le x y ≡ le x v
unfolding le
same-le x y v (inl e) = ap (le x) e
same-le x y v (inr e) =
    ap₂ (λ (i j : Bool). i || j) (lt_zero_right x y e.0 ∙ sym (lt_zero_right x v e.1)) (eq_zero_right x y e.0 ∙ sym (eq_zero_right x v e.1))

-- ---- sums: with a zero, a number is rounded alone
abbrev alone : Format → Float → Float
alone f nan = nan
alone f (inf s) = inf s
alone f (fin s m e) = round f s (m * up e) (down e)

sum_right : (f : Format) (s : Bool) (a : ℕ) (t : Bool) (c : ℕ) → 0 < c → SameNumber (sum f s a t 0 c) (round f s a c)
unfolding sum
sum_right f true a true c C = inl (ap (λ (x : ℕ). round f true x c) (add-zero a))
sum_right f false a false c C = inl (ap (λ (x : ℕ). round f false x c) (add-zero a))
sum_right f false a true c C =
    inl (ap (λ (t : Bool). cond t (round f true (0 - a) c) (round f false (a - 0) c)) (le-ltb a 0 zero-le) ∙ ap (λ (x : ℕ). round f false x c) (sub-zero a))
sum_right f true zero false c C = inr (round-zero f false 0 c C refl, round-zero f true 0 c C refl)
sum_right f true (suc a) false c C =
    inl (ap₂ (λ (t u : Bool). cond t (round f false (0 - suc a) c) (round f u (suc a - 0) c)) (le-ltb (suc a) 0 zero-le) (lt-ltb 0 (suc a) (zero-lt-suc a))
    ∙ ap (λ (x : ℕ). round f true x c) (sub-zero (suc a)))

sum_left : (f : Format) (s t : Bool) (b c : ℕ) → 0 < c → SameNumber (sum f s 0 t b c) (round f t b c)
unfolding sum
sum_left f true true b c C = inl (ap (λ (x : ℕ). round f true x c) (zero-add b))
sum_left f false false b c C = inl (ap (λ (x : ℕ). round f false x c) (zero-add b))
sum_left f false true zero c C = inr (round-zero f false 0 c C refl, round-zero f true 0 c C refl)
sum_left f true false zero c C = inr (round-zero f false 0 c C refl, round-zero f false 0 c C refl)
sum_left f false true (suc b) c C =
    inl (ap (λ (t : Bool). cond t (round f true (suc b - 0) c) (round f false (0 - suc b) c)) (lt-ltb 0 (suc b) (zero-lt-suc b))
    ∙ ap (λ (x : ℕ). round f true x c) (sub-zero (suc b)))
sum_left f true false (suc b) c C =
    inl (ap (λ (t : Bool). cond t (round f false (suc b - 0) c) (round f (ltb (suc b) 0) (0 - suc b) c)) (lt-ltb 0 (suc b) (zero-lt-suc b))
    ∙ ap (λ (x : ℕ). round f false x c) (sub-zero (suc b)))

add_right : (f : Format) (x z : Float) → T (is_zero z) → SameNumber (add f x z) (alone f x)
unfolding add
add_right f x nan t = absurd t
add_right f x (inf s) t = absurd t
add_right f nan (fin s m e) t = inl refl
add_right f (inf u) (fin s m e) t = inl refl
add_right f (fin u n d) (fin s m e) t =
    subst (λ (y : Float). SameNumber y (round f u (n * up d) (down d)))
    (sym (add_value f (fin u n d) (fin s m e) u s (n * up d) 0 (down d) (down_pos d) (refl, refl) (over s m e (down d) t)))
    (sum_right f u (n * up d) s (down d) (down_pos d))

add_left : (f : Format) (z x : Float) → T (is_zero z) → SameNumber (add f z x) (alone f x)
unfolding add
add_left f nan x t = absurd t
add_left f (inf s) x t = absurd t
add_left f (fin s m e) nan t = inl refl
add_left f (fin s m e) (inf u) t = inl refl
add_left f (fin s m e) (fin u n d) t =
    subst (λ (y : Float). SameNumber y (round f u (n * up d) (down d)))
    (sym (add_value f (fin s m e) (fin u n d) s u 0 (n * up d) (down d) (down_pos d) (over s m e (down d) t) (refl, refl)))
    (sum_left f s u (n * up d) (down d) (down_pos d))

pub same_add : (f : Format) (x y u v : Float) → SameNumber x u → SameNumber y v → SameNumber (add f x y) (add f u v)
same_add f x y u v p q = same_trans (add f x y) (add f u y) (add f u v) (left p) (right q)
  where
    left : SameNumber x u → SameNumber (add f x y) (add f u y)
    left (inl e) = inl (ap (λ (z : Float). add f z y) e)
    left (inr e) = same_trans (add f x y) (alone f y) (add f u y) (add_left f x y e.0) (same-sym (add f u y) (alone f y) (add_left f u y e.1))

    right : SameNumber y v → SameNumber (add f u y) (add f u v)
    right (inl e) = inl (ap (add f u) e)
    right (inr e) = same_trans (add f u y) (alone f u) (add f u v) (add_right f u y e.0) (same-sym (add f u v) (alone f u) (add_right f u v e.1))

pub neg-zero : (x : Float) → T (is_zero x) → T (is_zero (neg x))
unfolding neg
neg-zero nan t = t
neg-zero (inf s) t = t
neg-zero (fin s m e) t = t

pub same-sub : (f : Format) (x y u v : Float) → SameNumber x u → SameNumber y v → SameNumber (sub f x y) (sub f u v)
unfolding sub
same-sub f x y u v p q = same_add f x (neg y) u (neg v) p (turned q)
  where
    turned : SameNumber y v → SameNumber (neg y) (neg v)
    turned (inl e) = inl (ap neg e)
    turned (inr e) = inr (neg-zero y e.0, neg-zero v e.1)

-- ---- products, also of an infinity, and truncation
pub same-mul : (f : Format) (d x u : Float) → SameNumber x u → SameNumber (mul f d x) (mul f d u)
unfolding mul
same-mul f d x u (inl e) = inl (ap (mul f d) e)
same-mul f nan x u (inr e) = inl refl
same-mul f (inf s) x u (inr e) = inl (none x e.0 ∙ sym (none u e.1))
  where
    none : (z : Float) → T (is_zero z) → mul f (inf s) z ≡ nan
    none nan t = absurd t
    none (inf t) z = absurd z
    none (fin t n d) z = ap (λ (k : ℕ). cond (eqb k 0) nan (inf (unlike s t))) (eqb→eq n 0 z)
same-mul f (fin s m k) x u (inr e) = inr (mul_right_zero f (fin s m k) x tt e.0, mul_right_zero f (fin s m k) u tt e.1)

-- a zero has one size
zero-size : (f : Format) (x : Float) → T (fits f x) → T (is_zero x) → mag x ≡ zero_f
unfolding mag fits
zero-size f nan g t = absurd t
zero-size f (inf s) g t = absurd t
zero-size f (fin s zero e) g t = value_unique f (fin false zero e) zero_f false 0 1 (zero-lt-suc 0) g tt (over false 0 e 1 tt) (refl, refl)
zero-size f (fin s (suc m) e) g t = let z : suc m ≡ 0 = eqb→eq (suc m) 0 t in absurd (omega arith)

pub same_size : (f : Format) (x y : Float) → T (fits f x) → T (fits f y) → SameNumber x y → mag x ≡ mag y
same_size f x y p q (inl e) = ap mag e
same_size f x y p q (inr e) = zero-size f x p e.0 ∙ sym (zero-size f y q e.1)

none_of : (m : ℕ) (e : ℤ) → T (eqb m 0) → m * up e / down e ≡ 0
none_of m e t = ap (λ (n : ℕ). n * up e / down e) (eqb→eq m 0 t) ∙ ap (λ (n : ℕ). n / down e) (zero-mul (up e)) ∙ zero-div (down e)

zero-cell : (x : Float) → T (is_zero x) → truncated x ≡ pos 0
unfolding truncated to_signed
zero-cell nan t = absurd t
zero-cell (inf s) t = absurd t
zero-cell (fin true m e) t = ap (λ (n : ℕ). neg_ℤ (pos (min n (2 ^ 63)))) (none_of m e t)
zero-cell (fin false m e) t = ap (λ (n : ℕ). pos (min n (2 ^ 63 - 1))) (none_of m e t)

pub same-cell : (x y : Float) → SameNumber x y → truncated x ≡ truncated y
same-cell x y (inl e) = ap truncated e
same-cell x y (inr e) = zero-cell x e.0 ∙ sym (zero-cell y e.1)
