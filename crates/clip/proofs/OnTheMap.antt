-- A beam that starts and ends on the map is not cut by the slabs: its fractions stay 0 and 1. The far side of a slab is
-- reached at 1 or more and the near side at 0 or less, since rounding keeps the order of the differences and of 1. Of
-- every format and any number of axes. Assumes nothing.
pub mod Coordinate
use Rattle.std.proofs.Common.{◌≡◌, ℕ, zero, suc, ◌+◌, ◌-◌, ◌*◌, ◌<◌, ◌≤◌, Bool, true, false, cond, not, ◌&&◌, ◌||◌, T, eqb, ◌⊎◌, List, [], ◌∷◌, sym, refl, ap, ◌∙◌, subst, ap₂, inl, inr, mul-le-mul_right, zero-lt-suc, mul_assoc, mul_comm, mul-lt-mul_of_pos_right, mul-pos, one-mul, zero-mul, arith, le-ltb, ne_eqb}
use mathlib.Core.Option.{some, none}
use mathlib.Core.Bool.{beq}
use lib.Ieee.{Float, nan, inf, fin, Format, up, down, round, sum, sub, div, lt, le, eq, below, level}
use lib.Ieee.Back.{round_whole}
use lib.Ieee.Exact.{HasValue}
use lib.Ieee.Fits.{and_l, and_r, eq→eqb}
use lib.Ieee.Order.{round_mono}
use Rattle.rules.specs.Floats.{zero_f, one_f, number_f, mag}
use Rattle.rules.specs.TheGridAndItsBounds.{most_extent}
use Rattle.rules.specs.Coordinates.{within}
use Rattle.rules.specs.OneBeam.{whole_span, larger_of, smaller_of, cut_to, slab, slabs, unless_missed, directions, all_within, point_at, clipped_at, clip}
use Rattle.laws.specs.Checks.{AxesInBounds}
use Rattle.laws.specs.Floats.Tests.{order}
use Rattle.laws.specs.Floats.Values.{scaled, lt_value, eq_value}
use Rattle.laws.specs.Floats.Sizes.{AtMost, Signed, signed_round, mag-round, apart_most, extents_exact, number_value}
use Rattle.laws.specs.Floats.Zeros.{is_zero}
use Rattle.laws.specs.Floats.Quotients.{OneOrMore, ZeroOrLess, Divides, not-above-zero, not-below-one, in_order, not_crossed, no_smaller, signs_unlike, of_zero}
use Rattle.laws.specs.Floats.Differences.{upward, downward, even, difference, zero_value, not-zero}
use Rattle.clip.proofs.OnTheMap.Coordinate.{Placed, placed, at_most}

-- ---- two fractions of a beam, one 0 or less and the other 1 or more, cut nothing off
pub cut_to_whole : (near far : Float) → ZeroOrLess near → OneOrMore far → cut_to near far whole_span ≡ some whole_span
unfolding cut_to larger_of smaller_of lt
cut_to_whole near far p q =
    ap₂ (λ (i j : Bool). cond (lt (cond j far one_f) (cond i near zero_f)) none (some (record { entry = cond i near zero_f; exit = cond j far one_f })))
    (not-above-zero near p) (not-below-one far q)

-- ---- one slab
-- the origin and the endpoint over one divisor, and the extent
record Between (f : Format) (n : ℕ) (x y : Float) : Type 0 where
  s : Bool
  t : Bool
  a : ℕ
  b : ℕ
  c : ℕ
  C : 0 < c
  x_is : HasValue x s a c
  y_is : HasValue y t b c
  n_is : HasValue (number_f f n) false (n * c) c
  S : T s → a ≡ 0
  U : T t → b ≡ 0
  x_under : a < n * c
  y_under : b < n * c

between : (f : Format) (n : ℕ) (x y : Float) → n ≤ most_extent → Placed n x → Placed n y → Between f n x y
between f n x y h p q =
    let e = p.den in
    let g = q.den in
    record {
      s = p.sign;
      t = q.sign;
      a = p.num * g;
      b = q.num * e;
      c = e * g;
      C = mul-pos p.positive q.positive;
      x_is = scaled x p.sign p.num e g p.is;
      y_is = subst (λ (z : ℕ). HasValue y q.sign (q.num * e) z) (mul_comm g e) (scaled y q.sign q.num g e q.is);
      n_is = subst (λ (z : ℕ). HasValue (number_f f n) false (n * (e * g)) z) (one-mul (e * g)) (scaled (number_f f n) false n 1 (e * g) (number_value f n h));
      S = λ t. ap (λ (z : ℕ). z * g) (p.zero t) ∙ zero-mul g;
      U = λ t. ap (λ (z : ℕ). z * e) (q.zero t) ∙ zero-mul e;
      x_under = subst (λ (z : ℕ). p.num * g < z) (mul_assoc n e g) (mul-lt-mul_of_pos_right p.under q.positive);
      y_under =
          subst (λ (z : ℕ). q.num * e < z) (mul_assoc n g e ∙ ap (λ (z : ℕ). n * z) (mul_comm g e)) (mul-lt-mul_of_pos_right q.under p.positive);
    }

divides : (d : Float) (c k : ℕ) → AtMost (mag d) c k → eq d zero_f ≡ false → Divides d
unfolding mag
divides nan c k h z = absurd h
divides (inf s) c k h z = absurd h
divides (fin s m e) c k h z = go m refl
  where
    go : (n : ℕ) → m ≡ n → 0 < m
    go zero q = absurd (not-zero (fin s m e) z (eq→eqb q))
    go (suc n) q = subst (λ (k : ℕ). 0 < k) (sym q) (zero-lt-suc n)

-- the endpoint beyond the origin, and before it: where the sides of the slab are reached
reached-up : (f : Format) (n : ℕ) (x y : Float) (w : Between f n x y) → Divides (sub f y x) → w.a < w.b
    → ZeroOrLess (div f (sub f zero_f x) (sub f y x)) × OneOrMore (div f (sub f (number_f f n) x) (sub f y x))
reached-up f n x y w D h =
    let d = sub f y x in
    let up : d ≡ round f false (w.b - w.a) w.c = difference f x y w.s w.t w.a w.b w.c w.C w.x_is w.y_is ∙ upward f w.s w.t w.a w.b w.c w.S w.U h in
    let far : sub f (number_f f n) x ≡ round f false (n * w.c - w.a) w.c =
    difference f x (number_f f n) w.s false w.a (n * w.c) w.c w.C w.x_is w.n_is
    ∙ upward f w.s false w.a (n * w.c) w.c w.S (λ t. absurd t) w.x_under in
    let plain : Signed false d = subst (Signed false) (sym up) (signed_round f false (w.b - w.a) w.c) in (
      near plain (order 0 w.a),
      no_smaller f false (sub f (number_f f n) x) d (subst (Signed false) (sym far) (signed_round f false (n * w.c - w.a) w.c)) plain D
          (rw (up, far, mag-round f false (w.b - w.a) w.c, mag-round f false (n * w.c - w.a) w.c)
          (round_mono f (w.b - w.a) w.c (n * w.c - w.a) w.c w.C w.C (mul-le-mul_right w.c (omega (arith, w.y_under))))),
    )
  where
    zero-less : sub f zero_f x ≡ sum f false 0 (not w.s) w.a w.c
    zero-less = difference f x zero_f w.s false w.a 0 w.c w.C w.x_is (zero_value w.c)

    near : Signed false (sub f y x) → (0 < w.a) ⊎ (w.a ≤ 0) → ZeroOrLess (div f (sub f zero_f x) (sub f y x))
    near p (inl k) =
        signs_unlike f true (sub f zero_f x) (sub f y x)
        (subst (Signed true) (sym (zero-less ∙ downward f w.s false w.a 0 w.c w.S (λ t. absurd t) k)) (signed_round f true (w.a - 0) w.c)) p D
    near p (inr k) =
        of_zero f (sub f zero_f x) (sub f y x)
        (subst (λ (z : Float). T (is_zero z)) (sym zero-less) (even f w.s false w.a 0 w.c w.C w.S (λ t. absurd t) (omega arith))) D

reached-down : (f : Format) (n : ℕ) (x y : Float) (w : Between f n x y) → Divides (sub f y x) → w.b < w.a
    → OneOrMore (div f (sub f zero_f x) (sub f y x)) × ZeroOrLess (div f (sub f (number_f f n) x) (sub f y x))
reached-down f n x y w D h =
    let d = sub f y x in
    let down : d ≡ round f true (w.a - w.b) w.c = difference f x y w.s w.t w.a w.b w.c w.C w.x_is w.y_is ∙ downward f w.s w.t w.a w.b w.c w.S w.U h in
    let near : sub f zero_f x ≡ round f true (w.a - 0) w.c =
    difference f x zero_f w.s false w.a 0 w.c w.C w.x_is (zero_value w.c)
    ∙ downward f w.s false w.a 0 w.c w.S (λ t. absurd t) (omega arith) in
    let far : sub f (number_f f n) x ≡ round f false (n * w.c - w.a) w.c =
    difference f x (number_f f n) w.s false w.a (n * w.c) w.c w.C w.x_is w.n_is
    ∙ upward f w.s false w.a (n * w.c) w.c w.S (λ t. absurd t) w.x_under in
    let negative : Signed true d = subst (Signed true) (sym down) (signed_round f true (w.a - w.b) w.c) in (
      no_smaller f true (sub f zero_f x) d (subst (Signed true) (sym near) (signed_round f true (w.a - 0) w.c)) negative D
          (rw (down, near, mag-round f true (w.a - w.b) w.c, mag-round f true (w.a - 0) w.c)
          (round_mono f (w.a - w.b) w.c (w.a - 0) w.c w.C w.C (mul-le-mul_right w.c (omega arith)))),
      signs_unlike f false (sub f (number_f f n) x) d (subst (Signed false) (sym far) (signed_round f false (n * w.c - w.a) w.c)) negative D,
    )

-- the plain test of a slab that the beam runs along
not_outside : (f : Format) (n : ℕ) (x y : Float) (w : Between f n x y) → (lt x zero_f || le (number_f f n) x) ≡ false
unfolding le
not_outside f n x y w =
    ap₂ (λ (i j : Bool). i || (lt (number_f f n) x || j)) (lt_value x zero_f w.s false w.a 0 w.c w.C w.x_is (zero_value w.c) ∙ above w.s w.S)
    (eq_value (number_f f n) x false w.s (n * w.c) w.a w.c w.C w.n_is w.x_is ∙ apart w.s)
    ∙ ap (λ (i : Bool). i || false) (lt_value (number_f f n) x false w.s (n * w.c) w.a w.c w.C w.n_is w.x_is ∙ below_it w.s)
  where
    above : (s : Bool) → (T s → w.a ≡ 0) → below s w.a false 0 ≡ false
    above true S = le-ltb 0 (w.a + 0) (omega (arith, S tt))
    above false S = le-ltb w.a 0 (omega arith)

    apart : (s : Bool) → level false (n * w.c) s w.a ≡ false
    apart s = ap (λ (b : Bool). b && (beq false s || eqb (n * w.c) 0)) (ne_eqb (n * w.c) w.a (λ e. clash w.a (n * w.c) w.x_under e))
      where
        clash : (p q : ℕ) → p < q → q ≡ p → ⊥
        clash p q h e = omega arith

    below_it : (s : Bool) → below false (n * w.c) s w.a ≡ false
    below_it true = refl
    below_it false = le-ltb (n * w.c) w.a (omega (arith, w.x_under))

slab_crossed : (f : Format) (n : ℕ) (x y : Float) → n ≤ most_extent → Placed n x → Placed n y → slab f n x (sub f y x) whole_span ≡ some whole_span
unfolding slab
slab_crossed f n x y h p q = go (eq (sub f y x) zero_f) refl
  where
    w : Between f n x y
    w = between f n x y h p q

    near : Float
    near = div f (sub f zero_f x) (sub f y x)

    far : Float
    far = div f (sub f (number_f f n) x) (sub f y x)

    exact : HasValue (round f false n 1) false n 1
    exact = round_whole f false n (omega (arith, extents_exact f))

    turned : Divides (sub f y x) → eq (sub f y x) zero_f ≡ false → (w.a < w.b) ⊎ (w.b ≤ w.a) → cond (lt far near) (cut_to far near whole_span) (cut_to near far whole_span) ≡ some whole_span
    turned D z (inl k) =
        let r = reached-up f n x y w D k in
        ap (λ (b : Bool). cond b (cut_to far near whole_span) (cut_to near far whole_span)) (not_crossed near far r.0 r.1) ∙ cut_to_whole near far r.0 r.1
    turned D z (inr k) = back D z (order w.b w.a)
      where
        back : Divides (sub f y x) → eq (sub f y x) zero_f ≡ false → (w.b < w.a) ⊎ (w.a ≤ w.b) → cond (lt far near) (cut_to far near whole_span) (cut_to near far whole_span) ≡ some whole_span
        back D z (inl l) =
            let r = reached-down f n x y w D l in
            ap (λ (b : Bool). cond b (cut_to far near whole_span) (cut_to near far whole_span)) (in_order far near r.1 r.0) ∙ cut_to_whole far near r.1 r.0
        back D z (inr l) =
            absurd (not-zero (sub f y x) z (subst (λ (v : Float). T (is_zero v)) (sym (difference f x y w.s w.t w.a w.b w.c w.C w.x_is w.y_is))
            (even f w.s w.t w.a w.b w.c w.C w.S w.U (omega arith))))

    go : (b : Bool) → eq (sub f y x) zero_f ≡ b
        → cond (eq (sub f y x) zero_f) (cond (lt x zero_f || le (number_f f n) x) none (some whole_span)) (cond (lt far near) (cut_to far near whole_span) (cut_to near far whole_span)) ≡ some whole_span
    go true e =
        ap₂ (λ (i j : Bool). cond i (cond j none (some whole_span)) (cond (lt far near) (cut_to far near whole_span) (cut_to near far whole_span))) e (not_outside f n x y w)
    go false e =
        ap (λ (i : Bool). cond i (cond (lt x zero_f || le (number_f f n) x) none (some whole_span)) (cond (lt far near) (cut_to far near whole_span) (cut_to near far whole_span))) e
        ∙ turned (divides (sub f y x) n 1 (apart_most f x y n 1 (zero-lt-suc 0) exact (at_most n x p) (at_most n y q)) e) e (order w.a w.b)

-- ---- all axes
slabs_crossed : (f : Format) (es : List ℕ) (xs ys : List Float) → AxesInBounds es → T (all_within f es xs) → T (all_within f es ys)
    → slabs f es xs (directions f xs ys) whole_span ≡ some whole_span
unfolding slabs directions all_within
slabs_crossed f [] xs ys h p q = refl
slabs_crossed f (e ∷ es) [] ys h p q = refl
slabs_crossed f (e ∷ es) (x ∷ xs) [] h p q = refl
slabs_crossed f (e ∷ es) (x ∷ xs) (y ∷ ys) h p q =
    ap (λ r. unless_missed r (λ s. slabs f es xs (directions f xs ys) s))
    (slab_crossed f e x y h.1 (placed f e x h.1 (and_l (within f e x) (all_within f es xs) p)) (placed f e y h.1 (and_l (within f e y) (all_within f es ys) q)))
    ∙ slabs_crossed f es xs ys h.2 (and_r (within f e x) (all_within f es xs) p) (and_r (within f e y) (all_within f es ys) q)

-- what clipping leaves of a beam that starts and ends on the map
pub clip-uncut : (f : Format) (es : List ℕ) (xs ys : List Float) → AxesInBounds es → T (all_within f es xs) → T (all_within f es ys)
    → clip f es xs ys ≡ clipped_at f es one_f (point_at f zero_f xs (directions f xs ys)) (point_at f one_f xs (directions f xs ys))
unfolding clip
clip-uncut f es xs ys h p q =
    ap (λ r. unless_missed r (λ s. clipped_at f es s.exit (point_at f s.entry xs (directions f xs ys)) (point_at f s.exit xs (directions f xs ys))))
    (slabs_crossed f es xs ys h p q)
