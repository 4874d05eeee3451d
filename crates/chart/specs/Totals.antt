-- The two totals of a column side by side: all 9 * 9 * 9 columns are tried, by one computed test. Assumes nothing.
use Rattle.std.specs.Prelude.{ℕ, zero, suc, ◌*◌, ◌≤◌, ◌<◌, ◌≡◌, refl, Bool, true, false, not, cond, ◌&&◌, ◌||◌, T, leb, eqb}
use Rattle.std.proofs.Common.{arith, leb→le, eqb-true}
use Rattle.std.specs.Float.Ieee.Fits.{and_l, and_r}
use Rattle.std.proofs.lemmas.Bool.{eqb-false}
use Rattle.rules.specs.LayerChart.{maximum_overlap, random_overlap}

-- two bands at least are clear, or one is overcast
abbrev pub one_band_decides : ℕ → ℕ → ℕ → Bool
one_band_decides a b c = (eqb a 0 && eqb b 0) || (eqb a 0 && eqb c 0) || (eqb b 0 && eqb c 0) || eqb a 8 || eqb b 8 || eqb c 8

-- "Show that random is never below maximum, and when they are equal": over the common 512, for bands of at most 8
pub record Overlaps (a b c : ℕ) : Type 0 where
  pub never_below : 64 * maximum_overlap a b c ≤ random_overlap a b c
  pub equal_exactly_when : eqb (64 * maximum_overlap a b c) (random_overlap a b c) ≡ one_band_decides a b c
  pub maximum_most : maximum_overlap a b c ≤ 8
  pub random_most : random_overlap a b c ≤ 512

abbrev pub OverlapsCompared : Type 0
OverlapsCompared = (a b c : ℕ) → a ≤ 8 → b ≤ 8 → c ≤ 8 → Overlaps a b c

abbrev pub all_below : ℕ → (ℕ → Bool) → Bool
all_below zero p = true
all_below (suc n) p = p n && all_below n p

one_below : (n : ℕ) (p : ℕ → Bool) (i : ℕ) → T (p n) → (i < n → T (p i)) → i < suc n → T (p i)
one_below n p i t below h = go (eqb i n) refl
  where
    go : (b : Bool) → eqb i n ≡ b → T (p i)
    go true e = let same : i ≡ n = eqb-true i n e in rw same t
    go false e = let other = eqb-false i n e in below (omega arith)

pub each_below : (n : ℕ) (p : ℕ → Bool) → T (all_below n p) → (i : ℕ) → i < n → T (p i)
each_below zero p t i h = absurd (omega arith)
each_below (suc n) p t i h = one_below n p i (and_l (p n) (all_below n p) t) (λ g. each_below n p (and_r (p n) (all_below n p) t) i g) h

abbrev same : Bool → Bool → Bool
same p q = cond p q (not q)

same_is : (p q : Bool) → T (same p q) → p ≡ q
same_is true true t = refl
same_is true false t = absurd t
same_is false true t = absurd t
same_is false false t = refl

-- one column
abbrev compared : ℕ → ℕ → ℕ → Bool
compared a b c =
    (leb (64 * maximum_overlap a b c) (random_overlap a b c) && same (eqb (64 * maximum_overlap a b c) (random_overlap a b c)) (one_band_decides a b c))
    && (leb (maximum_overlap a b c) 8 && leb (random_overlap a b c) 512)

-- all of them
all-compared : T (all_below 9 (λ a. all_below 9 (λ b. all_below 9 (λ c. compared a b c))))
all-compared = tt

pub overlaps : OverlapsCompared
overlaps a b c p q r =
    let t : T (compared a b c) =
    each_below 9 (λ z. compared a b z) (each_below 9 (λ y. all_below 9 (λ z. compared a y z))
    (each_below 9 (λ x. all_below 9 (λ y. all_below 9 (λ z. compared x y z))) all-compared a (omega arith)) b (omega arith)) c (omega arith) in
    let m : ℕ = 64 * maximum_overlap a b c in
    let n : ℕ = random_overlap a b c in
    let equal : Bool = same (eqb m n) (one_band_decides a b c) in
    let low = and_l (leb m n && equal) (leb (maximum_overlap a b c) 8 && leb n 512) t in
    let high = and_r (leb m n && equal) (leb (maximum_overlap a b c) 8 && leb n 512) t in
    record {
      never_below = leb→le m n (and_l (leb m n) equal low);
      equal_exactly_when = same_is (eqb m n) (one_band_decides a b c) (and_r (leb m n) equal low);
      maximum_most = leb→le (maximum_overlap a b c) 8 (and_l (leb (maximum_overlap a b c) 8) (leb n 512) high);
      random_most = leb→le n 512 (and_r (leb (maximum_overlap a b c) 8) (leb n 512) high);
    }
