-- A coordinate that is followed by whole steps: its cell is known, and goes up or down by 1 with the coordinate, which
-- is rounded at each step. Rounding keeps the order and leaves an exact bound where it is, so it cannot carry the
-- coordinate across a face as long as the coordinate starts at least a margin below its cell's upper face: the cell's
-- number c and c + 1 less the margin are both exact. The margin is one of a cell's parts, of which a format has as many
-- as its fraction leaves room for. Assumes nothing.
use Rattle.std.specs.Prelude.{◌≡◌, ℕ, suc, ◌+◌, ◌-◌, ◌*◌, ◌/◌, ◌^◌, ◌≤◌, ◌<◌, min, Bool, ℤ, pos, T, Float}
use Rattle.std.proofs.Math.Path.{refl, ap}
use Rattle.std.proofs.Common.{sym, ◌∙◌, subst, lt_of_lt_of_le, mul-one, one-mul, add-mul, suc-mul, mul_assoc, mul_comm, mul_right_comm, mul-lt-mul_of_pos_right, lt_of_mul-lt-mul_right, arith, true≢false, le-ltb, lit≤, lit<, pow_pos}
use Rattle.std.proofs.Math.Nat.{div-eq_of_lt-le}
use Rattle.std.proofs.Math.Bool.{true, false, cond}
use Rattle.std.specs.Float.{nan, inf, fin, Format, binary32, binary64}
use Rattle.std.specs.Float.Ieee.{prec, up, down, round, sum, add, neg, le, to_signed}
use Rattle.std.specs.Float.Ieee.Back.{round_whole}
use Rattle.std.specs.Float.Ieee.Exact.{HasValue, round_exact}
use Rattle.std.specs.Float.Ieee.Fits.{down_pos}
use Rattle.std.specs.Float.Ieee.Nearest.{div_same}
use Rattle.std.specs.Float.Ieee.Order.{transfer, round_mono}
use Rattle.rules.specs.Coordinates.{truncated}
use Rattle.rules.specs.Floats.{one_f}
use Rattle.rules.specs.TheGridAndItsBounds.{most_extent}
use Rattle.laws.specs.Floats.Tests.{less_or_equal}
use Rattle.laws.specs.Floats.Values.{add_value}
use Rattle.laws.specs.Floats.Sizes.{AtMost, unsigned, unsigned-round, round-most}

-- the parts of a cell
abbrev pub parts : Format → ℕ
parts binary32 = 2_048
parts binary64 = 1_048_576

-- c + 1 less the margin, in parts
abbrev pub highest : Format → ℕ → ℕ
highest f c = c * parts f + (parts f - 1)

-- the coordinate x lies in cell c, at least the margin below its upper face
pub record Inside (f : Format) (c : ℕ) (x : Float) : Type 0 where
  pub num : ℕ
  pub den : ℕ
  pub positive : 0 < den
  pub is : HasValue x false num den
  pub from : c * den ≤ num
  pub to : num * parts f ≤ highest f c * den

-- A number of a cell that a coordinate is followed from; a number beyond every map says nothing.
abbrev pub Followed : Format → ℕ → Float → Type 0
Followed f c x = c ≤ most_extent → Inside f c x

-- ---- both bounds are exact
pub some-parts : (f : Format) → 0 < parts f
some-parts binary32 = lit< tt
some-parts binary64 = lit< tt

enough_digits : (f : Format) (c : ℕ) → c ≤ suc most_extent → highest f c < 2 ^ prec f
enough_digits binary32 c h = omega arith
enough_digits binary64 c h = omega arith

parts_exact : (f : Format) (n : ℕ) → n < 2 ^ prec f → HasValue (round f false n (parts f)) false n (parts f)
parts_exact binary32 n q =
    let scale : 2 ^ 149 ≡ 2 ^ 138 * 2_048 = refl in
    round_exact binary32 false n 2_048 n 138 (lit< tt) q
    (lt_of_lt_of_le (mul-lt-mul_of_pos_right q (pow_pos 138)) (lit≤ tt))
    (ap (λ (x : ℕ). n * x) scale ∙ sym (mul_assoc n (2 ^ 138) 2_048))
parts_exact binary64 n q =
    let scale : 2 ^ 1074 ≡ 2 ^ 1054 * 1_048_576 = refl in
    round_exact binary64 false n 1_048_576 n 1054 (lit< tt) q
    (lt_of_lt_of_le (mul-lt-mul_of_pos_right q (pow_pos 1054)) (lit≤ tt))
    (ap (λ (x : ℕ). n * x) scale ∙ sym (mul_assoc n (2 ^ 1054) 1_048_576))

pub highest_value : (f : Format) (c : ℕ) → c ≤ suc most_extent → HasValue (round f false (highest f c) (parts f)) false (highest f c) (parts f)
highest_value f c h = parts_exact f (highest f c) (enough_digits f c h)

least_value : (f : Format) (c : ℕ) → c ≤ suc most_extent → HasValue (round f false c 1) false c 1
least_value binary32 c h = round_whole binary32 false c (omega arith)
least_value binary64 c h = round_whole binary64 false c (omega arith)

-- ---- from the comparisons with the bounds to the cell
above_exact : (v : Float) (m : ℕ) (e : ℤ) (c : ℕ) → HasValue v false c 1 → T (le v (fin false m e)) → c * down e ≤ m * up e
unfolding le
above_exact nan m e c h q = absurd h
above_exact (inf t) m e c h q = absurd h
above_exact (fin true n g) m e c h q = absurd (true≢false h.0)
above_exact (fin false n g) m e c h q =
    subst (λ (x : ℕ). c * down e ≤ x) (mul-one (m * up e))
    (transfer c (m * up e) 1 (down e) (n * up g) (m * up e) (down g) (down e) (down_pos g) (down_pos e) (sym h.1) refl
    (less_or_equal (n * up g * down e) (m * up e * down g) true q))

between : (f : Format) (c : ℕ) (x v : Float) → HasValue v false c 1 → T (unsigned x) → T (le v x) → AtMost x (highest f c) (parts f) → Inside f c x
between f c nan v h u l p = absurd p
between f c (inf s) v h u l p = absurd p
between f c (fin true m e) v h u l p = absurd u
between f c (fin false m e) v h u l p =
    record {
      num = m * up e;
      den = down e;
      positive = down_pos e;
      is = (refl, refl);
      from = above_exact v m e c h l;
      to = p;
    }

-- a fraction between the bounds stays there as it is rounded
rounded : (f : Format) (c a b : ℕ) → c ≤ suc most_extent → 0 < b → c * b ≤ a → a * parts f ≤ highest f c * b → Inside f c (round f false a b)
rounded f c a b h B l u =
    let r = round f false a b in
    between f c r (round f false c 1) (least_value f c h) (unsigned-round f a b)
    (round_mono f c 1 a b (lit< tt) B (subst (λ (x : ℕ). c * b ≤ x) (sym (mul-one a)) l))
    (round-most f a b (highest f c) (parts f) B (some-parts f) (highest_value f c h) u)

-- ---- the cell that the coordinate is in
pub inside-truncated : (f : Format) (c : ℕ) (x : Float) → c ≤ most_extent → Inside f c x → truncated x ≡ pos c
unfolding truncated to_signed
inside-truncated f c nan h i = absurd i.is
inside-truncated f c (inf s) h i = absurd i.is
inside-truncated f c (fin true m e) h i = absurd (true≢false i.is.0)
inside-truncated f c (fin false m e) h i =
    let d = i.den in
    let whole : i.num / d ≡ c = div-eq_of_lt-le d i.from (under (parts f) d i.num (some-parts f) i.positive i.to) in
    let cell : m * up e / down e ≡ c = div_same (m * up e) (down e) i.num d (down_pos e) i.positive i.is.1 ∙ whole in
    ap (λ (a : ℕ). pos (min a (2 ^ 63 - 1))) cell ∙ ap pos (small c h)
  where
    small : (c : ℕ) → c ≤ most_extent → min c (2 ^ 63 - 1) ≡ c
    small c h = omega arith

    under : (k d n : ℕ) → 0 < k → 0 < d → n * k ≤ (c * k + (k - 1)) * d → n < (c + 1) * d
    under k d n K D t =
        let e1 : c * k + (k - 1) + 1 ≡ (c + 1) * k = omega (arith, add-mul c 1 k) in
        let e2 : (c * k + (k - 1)) * d + 1 * d ≡ (c + 1) * k * d = sym (add-mul (c * k + (k - 1)) 1 d) ∙ ap (λ (z : ℕ). z * d) e1 in
        let e3 : (c + 1) * k * d ≡ (c + 1) * d * k = mul_right_comm (c + 1) k d in
        lt_of_mul-lt-mul_right k (omega arith)

-- ---- a step along the axis
one_value : (d : ℕ) → HasValue one_f false d d
one_value d = (refl, one-mul d ∙ sym (mul-one d))

minus_one_value : (d : ℕ) → HasValue (neg one_f) true d d
unfolding neg
minus_one_value d = (refl, one-mul d ∙ sym (mul-one d))

module _ (f : Format) where
  -- the upper bound of the next cell, over any divisor
  next : (c d : ℕ) → highest f (suc c) * d ≡ highest f c * d + parts f * d
  next c d =
      let e : highest f (suc c) ≡ highest f c + parts f = omega (arith, suc-mul c (parts f)) in
      ap (λ (z : ℕ). z * d) e ∙ add-mul (highest f c) (parts f) d

  more : (n d : ℕ) → sum f false n false d d ≡ round f false (n + d) d
  unfolding sum
  more n d = refl

  less : (n d : ℕ) → d ≤ n → sum f false n true d d ≡ round f false (n - d) d
  unfolding sum
  less n d l = ap (λ (t : Bool). cond t (round f true (d - n) d) (round f false (n - d) d)) (le-ltb n d l)

  pub inside-up : (c : ℕ) (x : Float) → c ≤ most_extent → Inside f c x → Inside f (suc c) (add f x one_f)
  inside-up c x h i =
      let d = i.den in
      let n = i.num in
      let t = i.to in
      subst (λ (y : Float). Inside f (suc c) y)
      (sym (add_value f x one_f false false n d d i.positive i.is (one_value d) ∙ more n d))
      (rounded f (suc c) (n + d) d (omega arith) i.positive (omega (arith, suc-mul c d, i.from)) (omega (arith, next c d, add-mul n d (parts f), mul_comm d (parts f))))

  pub inside-down : (c : ℕ) (x : Float) → c ≤ most_extent → Inside f (suc c) x → Inside f c (add f x (neg one_f))
  inside-down c x h i =
      let d = i.den in
      let n = i.num in
      let t = i.to in
      let l = i.from in
      let s : suc c * d ≡ c * d + d = suc-mul c d in
      let k : n - d + d ≡ n = omega arith in
      subst (λ (y : Float). Inside f c y)
      (sym (add_value f x (neg one_f) false true n d d i.positive i.is (minus_one_value d) ∙ less n d (omega arith)))
      (rounded f c (n - d) d (omega arith) i.positive (omega arith)
      (omega (arith, next c d, add-mul (n - d) d (parts f), ap (λ (z : ℕ). z * parts f) k, mul_comm d (parts f))))
