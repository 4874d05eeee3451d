-- Where a quotient lies beside 0 and 1: of two numbers with one sign it is 1 or more if the divisor is no larger; of
-- two with unlike signs it is 0 or less. Rounding changes neither. Assumes nothing.
use Rattle.std.specs.Prelude.{◌≡◌, refl, ℕ, ◌+◌, ◌*◌, ◌≤◌, ◌<◌, Bool, true, false, not, cond, ◌&&◌, ℤ, T, eqb, Float}
use Rattle.std.proofs.Common.{sym, ◌∙◌, subst, zero-le, le_trans, mul-one, one-mul, zero-mul, mul-pos, zero-lt-suc, le_of_eq, arith, true≢false, lt-ltb, le-ltb, ne_eqb, eqb→eq}
use Rattle.std.proofs.Math.Path.{ap}
use Rattle.std.specs.Float.{nan, inf, fin, Format, binary32, binary64}
use Rattle.std.specs.Float.Ieee.{up, down, unlike, round, div, lt, le, eq}
use Rattle.std.specs.Float.Ieee.Fits.{up_pos, down_pos, and_r}
use Rattle.std.specs.Float.Ieee.Order.{round_mono}
use Rattle.rules.specs.Floats.{zero_f, one_f, mag}
use Rattle.laws.specs.Floats.Tests.{less_or_equal}
use Rattle.laws.specs.Floats.Sizes.{Signed, signed_round}
use Rattle.laws.specs.Floats.Zeros.{is_zero, round-zero}

-- 1 or more
abbrev pub OneOrMore : Float → Type 0
OneOrMore nan = ⊥
OneOrMore (inf s) = s ≡ false
OneOrMore (fin true m e) = ⊥
OneOrMore (fin false m e) = down e ≤ m * up e

-- 0 or less
abbrev pub ZeroOrLess : Float → Type 0
ZeroOrLess nan = ⊥
ZeroOrLess (inf s) = s ≡ true
ZeroOrLess (fin true m e) = Unit {0}
ZeroOrLess (fin false m e) = m ≡ 0

-- ---- what the comparisons say of them
pub no_part : (m u k : ℕ) → m ≡ 0 → m * u * k ≡ 0
no_part m u k z = ap (λ (a : ℕ). a * u * k) z ∙ ap (λ (a : ℕ). a * k) (zero-mul u) ∙ zero-mul k

some_part : (n u d : ℕ) → 0 < d → d ≤ n * u → 0 < n * u
some_part n u d D h = omega arith

pub not-above-zero : (x : Float) → ZeroOrLess x → lt zero_f x ≡ false
unfolding lt
not-above-zero nan h = absurd h
not-above-zero (inf s) h = ap not h
not-above-zero (fin true m e) h = refl
not-above-zero (fin false m e) h = le-ltb (0 * down e) (m * up e * 1) (le_of_eq (no_part m (up e) 1 h ∙ sym (zero-mul (down e))))

pub not-below-one : (x : Float) → OneOrMore x → lt x one_f ≡ false
unfolding lt
not-below-one nan h = absurd h
not-below-one (inf s) h = h
not-below-one (fin true m e) h = absurd h
not-below-one (fin false m e) h = le-ltb (m * up e * 1) (1 * down e) (omega (arith, mul-one (m * up e), one-mul (down e)))

pub in_order : (x y : Float) → ZeroOrLess x → OneOrMore y → lt x y ≡ true
unfolding lt
in_order nan y h k = absurd h
in_order (inf s) nan h k = absurd k
in_order (inf s) (inf t) h k = ap (λ (b : Bool). b && not t) h ∙ ap not k
in_order (inf s) (fin t n g) h k = h
in_order (fin s m e) nan h k = absurd k
in_order (fin s m e) (inf t) h k = ap not k
in_order (fin s m e) (fin true n g) h k = absurd k
in_order (fin true m e) (fin false n g) h k = lt-ltb 0 (m * up e * down g + n * up g * down e) (omega (arith, mul-pos (some_part n (up g) (down g) (down_pos g) k) (down_pos e)))
in_order (fin false m e) (fin false n g) h k =
    lt-ltb _ _
    (subst (λ (z : ℕ). z < n * up g * down e) (sym (no_part m (up e) (down g) h)) (mul-pos (some_part n (up g) (down g) (down_pos g) k) (down_pos e)))

pub not_crossed : (x y : Float) → ZeroOrLess x → OneOrMore y → lt y x ≡ false
unfolding lt
not_crossed nan y h k = absurd h
not_crossed (inf s) nan h k = absurd k
not_crossed (inf s) (inf t) h k = ap (λ (b : Bool). b && not s) k
not_crossed (inf s) (fin t n g) h k = ap not h
not_crossed (fin s m e) nan h k = absurd k
not_crossed (fin s m e) (inf t) h k = k
not_crossed (fin s m e) (fin true n g) h k = absurd k
not_crossed (fin true m e) (fin false n g) h k = refl
not_crossed (fin false m e) (fin false n g) h k = le-ltb (n * up g * down e) (m * up e * down g) (le_trans (le_of_eq (no_part m (up e) (down g) h)) zero-le)

-- ---- rounded
one_rounded : (f : Format) → round f false 1 1 ≡ one_f
unfolding round
one_rounded binary32 = refl
one_rounded binary64 = refl

from_one : (x : Float) → T (le one_f x) → OneOrMore x
unfolding le lt eq
from_one nan h = absurd h
from_one (inf true) h = absurd h
from_one (inf false) h = refl
from_one (fin true m e) h =
    absurd (none (down e) (down_pos e) (eqb→eq (1 * down e) 0 (and_r (eqb (1 * down e) (m * up e * 1)) (eqb (1 * down e) 0) h)))
  where
    none : (d : ℕ) → 0 < d → 1 * d ≡ 0 → ⊥
    none d D z = omega arith
from_one (fin false m e) h =
    omega (arith, less_or_equal (1 * down e) (m * up e * 1) true h, mul-one (m * up e), one-mul (down e))

one_or_more : (f : Format) (a c : ℕ) → 0 < c → c ≤ a → OneOrMore (round f false a c)
one_or_more f a c C h =
    from_one (round f false a c)
    (subst (λ (x : Float). T (le x (round f false a c))) (one_rounded f) (round_mono f 1 1 a c (zero-lt-suc 0) C (omega (arith, mul-one a, one-mul c))))

signed_less : (x : Float) → Signed true x → ZeroOrLess x
signed_less nan h = absurd h
signed_less (inf s) h = h
signed_less (fin true m e) h = tt
signed_less (fin false m e) h = absurd (true≢false (sym h))

zero-less : (x : Float) → T (is_zero x) → ZeroOrLess x
zero-less nan h = absurd h
zero-less (inf s) h = absurd h
zero-less (fin true m e) h = tt
zero-less (fin false m e) h = eqb→eq m 0 h

-- ---- the quotients
alike : (s : Bool) → unlike s s ≡ false
alike true = refl
alike false = refl

opposite : (s : Bool) → unlike s (not s) ≡ true
opposite true = refl
opposite false = refl

-- the divisor is a number, and no zero
abbrev pub Divides : Float → Type 0
Divides nan = ⊥
Divides (inf s) = ⊥
Divides (fin s m e) = 0 < m

by_number : (f : Format) (s t : Bool) (m : ℕ) (e : ℤ) (n : ℕ) (g : ℤ) → 0 < n
    → div f (fin s m e) (fin t n g) ≡ round f (unlike s t) (m * up e * down g) (n * up g * down e)
unfolding div
by_number f s t m e n g h =
    ap (λ (b : Bool). cond b (cond (eqb m 0) nan (inf (unlike s t))) (round f (unlike s t) (m * up e * down g) (n * up g * down e))) (ne_eqb n 0 (λ z. positive n h z))
  where
    positive : (n : ℕ) → 0 < n → n ≡ 0 → ⊥
    positive n h z = omega arith

pub no_smaller : (f : Format) (s : Bool) (x y : Float) → Signed s x → Signed s y → Divides y → T (le (mag y) (mag x)) → OneOrMore (div f x y)
unfolding mag le
no_smaller f s nan y p q d h = absurd p
no_smaller f s (inf r) nan p q d h = absurd d
no_smaller f s (inf r) (inf t) p q d h = absurd d
no_smaller f s (inf r) (fin t n g) p q d h = unfold div in (ap (λ (b : Bool). unlike b t) p ∙ ap (λ (b : Bool). unlike s b) q ∙ alike s)
no_smaller f s (fin r m e) nan p q d h = absurd d
no_smaller f s (fin r m e) (inf t) p q d h = absurd d
no_smaller f s (fin r m e) (fin t n g) p q d h =
    subst OneOrMore (sym (by_number f r t m e n g d ∙ ap (λ (b : Bool). round f b (m * up e * down g) (n * up g * down e)) same))
    (one_or_more f (m * up e * down g) (n * up g * down e) (mul-pos (mul-pos d (up_pos g)) (down_pos e)) (less_or_equal (n * up g * down e) (m * up e * down g) true h))
  where
    same : unlike r t ≡ false
    same = ap (λ (b : Bool). unlike b t) p ∙ ap (λ (b : Bool). unlike s b) q ∙ alike s

pub signs_unlike : (f : Format) (s : Bool) (x y : Float) → Signed s x → Signed (not s) y → Divides y → ZeroOrLess (div f x y)
signs_unlike f s nan y p q d = absurd p
signs_unlike f s (inf r) nan p q d = absurd d
signs_unlike f s (inf r) (inf t) p q d = absurd d
signs_unlike f s (inf r) (fin t n g) p q d = unfold div in (ap (λ (b : Bool). unlike b t) p ∙ ap (λ (b : Bool). unlike s b) q ∙ opposite s)
signs_unlike f s (fin r m e) nan p q d = absurd d
signs_unlike f s (fin r m e) (inf t) p q d = absurd d
signs_unlike f s (fin r m e) (fin t n g) p q d =
    subst ZeroOrLess (sym (by_number f r t m e n g d ∙ ap (λ (b : Bool). round f b (m * up e * down g) (n * up g * down e)) other))
    (signed_less (round f true (m * up e * down g) (n * up g * down e)) (signed_round f true (m * up e * down g) (n * up g * down e)))
  where
    other : unlike r t ≡ true
    other = ap (λ (b : Bool). unlike b t) p ∙ ap (λ (b : Bool). unlike s b) q ∙ opposite s

pub of_zero : (f : Format) (x y : Float) → T (is_zero x) → Divides y → ZeroOrLess (div f x y)
of_zero f nan y z d = absurd z
of_zero f (inf s) y z d = absurd z
of_zero f (fin s m e) nan z d = absurd d
of_zero f (fin s m e) (inf t) z d = absurd d
of_zero f (fin s m e) (fin t n g) z d =
    subst ZeroOrLess (sym (by_number f s t m e n g d))
    (zero-less (round f (unlike s t) (m * up e * down g) (n * up g * down e)) (round-zero f (unlike s t) (m * up e * down g) (n * up g * down e) (mul-pos (mul-pos d (up_pos g)) (down_pos e)) (no_part m (up e) (down g) (eqb→eq m 0 z))))
