-- |d| by what a comparison with zero finds, and what is finite by a comparison with the infinities. Assumes nothing.
use Rattle.std.proofs.Common.{◌≡◌, ℕ, zero, suc, ◌+◌, ◌*◌, ◌^◌, ◌<◌, Bool, true, false, cond, ◌||◌, T, eqb, ℤ, pos, negsuc, sym, refl, ap, ◌∙◌, subst, zero-lt-suc, mul-pos, one-mul, zero-mul, mul-one, arith, eqb→eq, pow_pos, ltb-false, ltb-true}
use mathlib.Core.Bool.{beq}
use native.Mathlib.Nat.{pow-succ'}
use lib.Ieee.{Float, nan, inf, fin, Format, up, down, fits, lt, eq, neg}
use lib.Ieee.Scale.{finite}
use lib.Ieee.Fits.{up_pos, and_l}
use Rattle.rules.specs.Floats.{zero_f, mag}

clash : {A : Type 0} → false ≡ true → A
clash h = let z : ◌≡◌ {A = ℕ} 0 1 = cc in absurd (omega arith)

-- the two sizes that a comparison of `fin s m e` with zero compares
abbrev size : ℕ → ℤ → ℕ
size m e = m * up e * 1

abbrev none : ℤ → ℕ
none e = 0 * 1 * down e

pub below-zero : (d : Float) → lt d zero_f ≡ true → neg d ≡ mag d
unfolding lt neg mag
below-zero nan h = refl
below-zero (inf true) h = refl
below-zero (inf false) h = clash h
below-zero (fin true m e) h = refl
below-zero (fin false m e) h = absurd (omega (arith, ltb-true (size m e) (none e) h, zero-mul (down e)))

pub above_zero : (d : Float) → lt d zero_f ≡ false → eq d zero_f ≡ false → d ≡ mag d
unfolding lt eq mag
above_zero nan h g = refl
above_zero (inf true) h g = clash (sym h)
above_zero (inf false) h g = refl
above_zero (fin false m e) h g = refl
above_zero (fin true m e) h g =
    let z : size m e ≡ 0 = omega (arith, ltb-false 0 (size m e + none e) h) in
    clash (sym g ∙ rw (z, zero-mul (down e)))

-- a zero that fits has the exponent 0
twice : (p : ℕ) → 0 < p → 2 * p ≡ 1 → ⊥
twice p h e = omega arith

flat : (e : ℤ) → up e * down e ≡ 1 → e ≡ pos 0
flat (pos zero) h = refl
flat (pos (suc k)) h = absurd (twice (2 ^ k) (pow_pos k) (sym (pow-succ' 2 k) ∙ sym (mul-one (2 ^ suc k)) ∙ h))
flat (negsuc k) h = absurd (twice (2 ^ k) (pow_pos k) (sym (pow-succ' 2 k) ∙ sym (one-mul (2 ^ suc k)) ∙ h))

pub at_zero : (f : Format) (d : Float) → T (fits f d) → eq d zero_f ≡ true → zero_f ≡ mag d
unfolding eq mag fits
at_zero f nan t h = clash h
at_zero f (inf s) t h = clash h
at_zero f (fin s zero e) t h = ap (λ (z : ℤ). fin false 0 z) (sym (flat e (eqb→eq (up e * down e) 1 t)))
at_zero f (fin s (suc m) e) t h =
    let z : size (suc m) e ≡ none e = eqb→eq _ _ (and_l (eqb (size (suc m) e) (none e)) (beq s false || eqb (size (suc m) e) 0) (subst T (sym h) tt)) in
    absurd (omega (arith, z, zero-mul (down e), mul-pos (zero-lt-suc m) (up_pos e)))

-- |d| as the code chooses it, without a branch
pub sized : (f : Format) (d : Float) → T (fits f d) → cond (eq d zero_f) zero_f (cond (lt d zero_f) (neg d) d) ≡ mag d
sized f d t = go (lt d zero_f) (eq d zero_f) refl refl
  where
    go : (b e : Bool) → lt d zero_f ≡ b → eq d zero_f ≡ e → cond e zero_f (cond b (neg d) d) ≡ mag d
    go b true p q = at_zero f d t q
    go true false p q = below-zero d p
    go false false p q = above_zero d p q

pub finite_under : (x : Float) → lt x (inf false) ≡ true → lt (inf true) x ≡ finite x
unfolding lt
finite_under nan h = refl
finite_under (inf true) h = refl
finite_under (inf false) h = clash h
finite_under (fin s m e) h = refl

pub not_finite : (x : Float) → lt x (inf false) ≡ false → false ≡ finite x
unfolding lt
not_finite nan h = refl
not_finite (inf s) h = refl
not_finite (fin s m e) h = sym h
