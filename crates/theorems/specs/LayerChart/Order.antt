-- More odds, no lower grade: floats are ordered, as fractions with a sign, and NaN stands outside the order. Assumes
-- nothing.
use Rattle.std.specs.Prelude.{ℕ, ◌+◌, ◌*◌, ◌≤◌, ◌<◌, ◌≡◌, refl, ◌⊎◌, Bool, true, false, cond, not, ◌&&◌, ◌||◌, List, [], ◌∷◌, T, ltb, eqb, ℤ, Float}
use Rattle.std.proofs.Common.{sym, ap, ◌∙◌, inl, inr, zero-mul, le_of_mul-le-mul_right, arith, lt→ltb, ltb→lt, eqb→eq}
use Rattle.std.specs.Float.{nan, inf, fin}
use Rattle.std.specs.Float.Ieee.{lt, eq, le, below, level, up, down}
use Rattle.std.specs.Float.Ieee.Fits.{and_i, and_l, and_r, eq→eqb, down_pos}
use Rattle.std.specs.Float.Ieee.Positive.{through}
use Rattle.rules.specs.LayerChart.{limits, reaches, reached, eighths}
use Rattle.laws.specs.Floats.Tests.{or_cases, or_l, or_r, order}
use Rattle.theorems.specs.LayerChart.{MoreOdds}
use Rattle.chart.proofs.Bounds.{reached-most}

-- ±a at most ±b, as facts about numbers
abbrev Most : Bool → ℕ → Bool → ℕ → Type 0
Most false a false b = a ≤ b
Most false a true b = (a ≡ 0) × (b ≡ 0)
Most true a false b = Unit {0}
Most true a true b = b ≤ a

least_or_equal : (a b : ℕ) → a ≤ b → (a < b) ⊎ (a ≡ b)
least_or_equal a b h = go (order a b)
  where
    go : (a < b) ⊎ (b ≤ a) → (a < b) ⊎ (a ≡ b)
    go (inl p) = inl p
    go (inr p) = inr (omega arith)

most_of : (s : Bool) (a : ℕ) (t : Bool) (b : ℕ) → T (below s a t b || level s a t b) → Most s a t b
most_of false a false b h = go (or_cases (ltb a b) (level false a false b) h)
  where
    go : T (ltb a b) ⊎ T (eqb a b && true) → a ≤ b
    go (inl p) = omega (arith, ltb→lt a b p)
    go (inr p) = omega (arith, eqb→eq a b (and_l (eqb a b) true p))
most_of false a true b h =
    let e = eqb→eq a b (and_l (eqb a b) (eqb a 0) h) in
    let z = eqb→eq a 0 (and_r (eqb a b) (eqb a 0) h) in
    (z, sym e ∙ z)
most_of true a false b h = tt
most_of true a true b h = go (or_cases (ltb b a) (level true a true b) h)
  where
    go : T (ltb b a) ⊎ T (eqb a b && true) → b ≤ a
    go (inl p) = omega (arith, ltb→lt b a p)
    go (inr p) = omega (arith, eqb→eq a b (and_l (eqb a b) true p))

of_most : (s : Bool) (a : ℕ) (t : Bool) (b : ℕ) → Most s a t b → T (below s a t b || level s a t b)
of_most false a false b h = go (least_or_equal a b h)
  where
    go : (a < b) ⊎ (a ≡ b) → T (ltb a b || (eqb a b && true))
    go (inl p) = or_l (ltb a b) (eqb a b && true) (lt→ltb a b p)
    go (inr p) = or_r (ltb a b) (eqb a b && true) (and_i (eqb a b) true (eq→eqb p) tt)
of_most false a true b h = and_i (eqb a b) (eqb a 0) (eq→eqb (h.0 ∙ sym h.1)) (eq→eqb h.0)
of_most true a false b h = go (order 0 (a + b))
  where
    go : (0 < a + b) ⊎ (a + b ≤ 0) → T (ltb 0 (a + b) || (eqb a b && eqb a 0))
    go (inl p) = or_l (ltb 0 (a + b)) (eqb a b && eqb a 0) (lt→ltb 0 (a + b) p)
    go (inr p) =
        let same : a ≡ b = omega arith in
        let none : a ≡ 0 = omega arith in
        or_r (ltb 0 (a + b)) (eqb a b && eqb a 0) (and_i (eqb a b) (eqb a 0) (eq→eqb same) (eq→eqb none))
of_most true a true b h = go (least_or_equal b a h)
  where
    go : (b < a) ⊎ (b ≡ a) → T (ltb b a || (eqb a b && true))
    go (inl p) = or_l (ltb b a) (eqb a b && true) (lt→ltb b a p)
    go (inr p) = or_r (ltb b a) (eqb a b && true) (and_i (eqb a b) true (eq→eqb (sym p)) tt)

-- a product that is zero has a first factor of zero, where the second is none
none_of : (a d : ℕ) → 0 < d → a * d ≤ 0 → a ≡ 0
none_of a d h z = let p : a ≤ 0 = le_of_mul-le-mul_right {m = a} {n = 0} {k = d} (omega (arith, zero-mul d)) h in omega arith

product_none : (a d : ℕ) → a ≡ 0 → a * d ≡ 0
product_none a d e = ap (λ (n : ℕ). n * d) e ∙ zero-mul d

-- a / p at most b / q, and that at most c / r, signs included
most_trans : (s t u : Bool) (a b c p q r : ℕ) → 0 < p → 0 < q → 0 < r → Most s (a * q) t (b * p) → Most t (b * r) u (c * q) → Most s (a * r) u (c * p)
most_trans false false false a b c p q r P Q R h k = through a b c p q r Q h k
most_trans false false true a b c p q r P Q R h k =
    let b0 = none_of b r R (omega (arith, k.0)) in
    let a0 = none_of a q Q (omega (arith, product_none b p b0)) in
    (product_none a r a0, product_none c p (none_of c q Q (omega (arith, k.1))))
most_trans false true false a b c p q r P Q R h k = let a0 = none_of a q Q (omega (arith, h.0)) in omega (arith, product_none a r a0)
most_trans false true true a b c p q r P Q R h k =
    let b0 = none_of b p P (omega (arith, h.1)) in
    let c0 = none_of c q Q (omega (arith, product_none b r b0)) in
    (product_none a r (none_of a q Q (omega (arith, h.0))), product_none c p c0)
most_trans true false false a b c p q r P Q R h k = tt
most_trans true false true a b c p q r P Q R h k = let c0 = none_of c q Q (omega (arith, k.1)) in omega (arith, product_none c p c0)
most_trans true true false a b c p q r P Q R h k = tt
most_trans true true true a b c p q r P Q R h k = through c b a r q p Q k h

pub le_trans : (x y z : Float) → T (le x y) → T (le y z) → T (le x z)
unfolding le lt eq
le_trans nan y z h k = absurd h
le_trans (inf s) nan z h k = absurd h
le_trans (inf s) (inf t) nan h k = absurd k
le_trans (inf true) (inf t) (inf true) h k = tt
le_trans (inf true) (inf t) (inf false) h k = tt
le_trans (inf false) (inf true) (inf u) h k = absurd h
le_trans (inf false) (inf false) (inf u) h k = k
le_trans (inf true) (inf t) (fin u c g) h k = tt
le_trans (inf false) (inf true) (fin u c g) h k = absurd h
le_trans (inf false) (inf false) (fin u c g) h k = absurd k
le_trans (inf s) (fin t b d) nan h k = absurd k
le_trans (inf true) (fin t b d) (inf true) h k = tt
le_trans (inf true) (fin t b d) (inf false) h k = tt
le_trans (inf false) (fin t b d) (inf u) h k = absurd h
le_trans (inf true) (fin t b d) (fin u c g) h k = tt
le_trans (inf false) (fin t b d) (fin u c g) h k = absurd h
le_trans (fin s a e) nan z h k = absurd h
le_trans (fin s a e) (inf t) nan h k = absurd k
le_trans (fin s a e) (inf true) (inf u) h k = absurd h
le_trans (fin s a e) (inf false) (inf true) h k = absurd k
le_trans (fin s a e) (inf false) (inf false) h k = tt
le_trans (fin s a e) (inf true) (fin u c g) h k = absurd h
le_trans (fin s a e) (inf false) (fin u c g) h k = absurd k
le_trans (fin s a e) (fin t b d) nan h k = absurd k
le_trans (fin s a e) (fin t b d) (inf true) h k = absurd k
le_trans (fin s a e) (fin t b d) (inf false) h k = tt
le_trans (fin s a e) (fin t b d) (fin u c g) h k =
    of_most s (a * up e * down g) u (c * up g * down e)
    (most_trans s t u (a * up e) (b * up d) (c * up g) (down e) (down d) (down g) (down_pos e) (down_pos d) (down_pos g)
    (most_of s (a * up e * down d) t (b * up d * down e) h) (most_of t (b * up d * down g) u (c * up g * down d) k))

-- ---- grades
reaches_more : (l x y : Float) → T (le x y) → reaches x l ≤ reaches y l
reaches_more l x y h = go (le l x) (le l y) (λ t. le_trans l x y t h)
  where
    go : (p q : Bool) → (T p → T q) → cond p 1 0 ≤ cond q 1 0
    go true true f = omega arith
    go true false f = absurd (f tt)
    go false q f = omega arith

reached_more : (ls : List Float) (x y : Float) → T (le x y) → reached x ls ≤ reached y ls
unfolding reached
reached_more [] x y h = omega arith
reached_more (l ∷ ls) x y h = omega (arith, reaches_more l x y h, reached_more ls x y h)

pub eighths_more : MoreOdds
unfolding eighths
eighths_more ceiling x y h = go (le ceiling x) (le ceiling y) (λ t. le_trans ceiling x y t h)
  where
    go : (p q : Bool) → (T p → T q) → cond p 8 (reached x limits) ≤ cond q 8 (reached y limits)
    go true true f = omega arith
    go true false f = absurd (f tt)
    go false true f = omega (arith, reached-most x limits)
    go false false f = reached_more limits x y h
