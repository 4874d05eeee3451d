-- A coordinate that lies on an axis, in [0, extent), as a fraction: what the proofs of uncut beams take it apart into.
-- Assumes nothing.
use Rattle.std.proofs.Common.{◌≡◌, ℕ, zero, suc, ◌+◌, ◌*◌, ◌<◌, ◌≤◌, Bool, true, false, ◌&&◌, T, eqb, List, [], ◌∷◌, length, ℤ, sym, refl, ap, ◌∙◌, subst, ap₂, mul-le-mul_right, zero-lt-suc, mul-pos, one-mul, zero-mul, mul-one, arith, eqb→eq, ltb→lt}
use lib.Ieee.{Float, nan, inf, fin, Format, up, down, lt, le, below}
use lib.Ieee.Bits.{is_true}
use lib.Ieee.Exact.{HasValue}
use lib.Ieee.Fits.{up_pos, down_pos, and_l, and_r}
use lib.Ieee.Order.{transfer}
use lib.Ieee.Scale.{finite}
use Rattle.rules.specs.Floats.{zero_f, number_f, all_finite}
use Rattle.rules.specs.TheGridAndItsBounds.{most_extent}
use Rattle.rules.specs.Coordinates.{within}
use Rattle.rules.specs.OneBeam.{all_within}
use Rattle.laws.specs.Checks.{AxesInBounds}
use Rattle.laws.specs.Floats.Values.{scaled, lt_value}
use Rattle.laws.specs.Floats.Sizes.{AtMost, number_value}

-- on an axis of n cells; a zero may have either sign
pub record Placed (n : ℕ) (x : Float) : Type 0 where
  pub sign : Bool
  pub num : ℕ
  pub den : ℕ
  pub positive : 0 < den
  pub is : HasValue x sign num den
  pub zero : T sign → num ≡ 0
  pub under : num < n * den

none_of : (m u d : ℕ) → 0 * d ≡ m * u * 1 → m * u ≡ 0
none_of m u d h = omega arith

-- below n, over the coordinate's own divisor
under_number : (f : Format) (n : ℕ) (s : Bool) (m : ℕ) (e : ℤ) → n ≤ most_extent → T (lt (fin s m e) (number_f f n)) → T (below s (m * up e) false (n * down e))
under_number f n s m e h t =
    subst T
    (lt_value (fin s m e) (number_f f n) s false (m * up e) (n * down e) (down e) (down_pos e) (refl, refl)
    (subst (λ (z : ℕ). HasValue (number_f f n) false (n * down e) z) (one-mul (down e)) (scaled (number_f f n) false n 1 (down e) (number_value f n h))))
    t

not_endless : (f : Format) (n : ℕ) → n ≤ most_extent → T (lt (inf false) (number_f f n)) → ⊥
not_endless f n h t = go (number_f f n) (number_value f n h) t
  where
    go : (w : Float) → HasValue w false n 1 → T (lt (inf false) w) → ⊥
    go nan a b = absurd a
    go (inf t) a b = absurd a
    go (fin t k g) a b = absurd (unfold lt in b)

on-axis : (f : Format) (n : ℕ) (x : Float) → n ≤ most_extent → T (le zero_f x) → T (lt x (number_f f n)) → Placed n x
unfolding le
on-axis f n nan h p q = absurd p
on-axis f n (inf true) h p q = absurd p
on-axis f n (inf false) h p q = absurd (not_endless f n h q)
on-axis f n (fin true m e) h p q =
    record {
      sign = true;
      num = m * up e;
      den = down e;
      positive = down_pos e;
      is = (refl, refl);
      zero = λ t. nothing;
      under = omega (arith, nothing, ltb→lt 0 (m * up e + n * down e) (under_number f n true m e h q));
    }
  where
    nothing : m * up e ≡ 0
    nothing = none_of m (up e) (down e) (eqb→eq (0 * down e) (m * up e * 1) (and_l (eqb (0 * down e) (m * up e * 1)) (eqb (0 * down e) 0) p))
on-axis f n (fin false m e) h p q =
    record {
      sign = false;
      num = m * up e;
      den = down e;
      positive = down_pos e;
      is = (refl, refl);
      zero = λ t. absurd t;
      under = ltb→lt (m * up e) (n * down e) (under_number f n false m e h q);
    }

pub placed : (f : Format) (n : ℕ) (x : Float) → n ≤ most_extent → T (within f n x) → Placed n x
unfolding within
placed f n x h t = on-axis f n x h (and_l (le zero_f x) (lt x (number_f f n)) t) (and_r (le zero_f x) (lt x (number_f f n)) t)

-- finite, and at most n
pub at_most : (n : ℕ) (x : Float) → Placed n x → AtMost x n 1
at_most n nan p = absurd p.is
at_most n (inf s) p = absurd p.is
at_most n (fin true m e) p = zero_of m (up e) p.den p.num (down e) (up_pos e) p.positive p.is.1 (p.zero (subst T p.is.0 tt))
  where
    zero_of : (m u d k g : ℕ) → 0 < u → 0 < d → m * u * d ≡ k * g → k ≡ 0 → m ≡ 0
    zero_of zero u d k g U D h z = refl
    zero_of (suc m) u d k g U D h z = absurd (no (mul-pos (mul-pos (zero-lt-suc m) U) D) (h ∙ ap (λ (a : ℕ). a * g) z ∙ zero-mul g))
      where
        no : 0 < suc m * u * d → suc m * u * d ≡ 0 → ⊥
        no a b = omega arith
at_most n (fin false m e) p =
    transfer (m * up e) n (down e) 1 p.num (n * p.den) p.den p.den p.positive p.positive p.is.1 (ap (λ (z : ℕ). n * z) refl ∙ sym (mul-one (n * p.den)))
    (mul-le-mul_right p.den (omega (arith, p.under)))

finite-on-axis : (n : ℕ) (x : Float) → Placed n x → T (finite x)
finite-on-axis n nan p = absurd p.is
finite-on-axis n (inf s) p = absurd p.is
finite-on-axis n (fin s m e) p = tt

-- a point on the map has finite coordinates
pub all-finite : (f : Format) (es : List ℕ) (xs : List Float) → AxesInBounds es → length xs ≤ length es → T (all_within f es xs) → all_finite xs ≡ true
unfolding all_within all_finite
all-finite f es [] h l p = refl
all-finite f [] (x ∷ xs) h l p = absurd (omega arith)
all-finite f (e ∷ es) (x ∷ xs) h l p =
    ap₂ (λ (i j : Bool). i && j) (is_true (finite x) (finite-on-axis e x (placed f e x h.1 (and_l (within f e x) (all_within f es xs) p))))
    (all-finite f es xs h.2 (omega arith) (and_r (within f e x) (all_within f es xs) p))
