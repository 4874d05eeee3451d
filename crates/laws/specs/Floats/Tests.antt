-- Tests of numbers, as truth values and as facts: what the tests of floats come down to.
-- The library's `borrow.Author.Tests` has the tests of one order; here are two orders that follow from each other.
-- Assumes nothing.
use Rattle.std.specs.Prelude.{◌≡◌, refl, ◌⊎◌, Bool, true, false, not, ◌&&◌, ◌||◌, ℕ, ◌≤◌, ◌<◌, T, leb, ltb, eqb}
use Rattle.std.proofs.Common.{inl, inr, arith, ltb→lt, lt→ltb, nltb→le, leb→le, le→leb, eqb→eq}
use Rattle.std.specs.Float.Ieee.Fits.{and_i, and_l, and_r, eq→eqb}

pub bool_ext : (p q : Bool) → (T p → T q) → (T q → T p) → p ≡ q
bool_ext true true f g = refl
bool_ext true false f g = absurd (f tt)
bool_ext false true f g = absurd (g tt)
bool_ext false false f g = refl

pub and-true : (p : Bool) → p && true ≡ p
and-true true = refl
and-true false = refl

pub or_cases : (p q : Bool) → T (p || q) → T p ⊎ T q
or_cases true q t = inl tt
or_cases false q t = inr t

pub or_l : (p q : Bool) → T p → T (p || q)
or_l true q t = tt
or_l false q t = absurd t

pub or_r : (p q : Bool) → T q → T (p || q)
or_r true q t = tt
or_r false q t = t

pub order : (a b : ℕ) → (a < b) ⊎ (b ≤ a)
order a b = go (ltb a b) (ltb→lt a b) (nltb→le a b)
  where
    go : (t : Bool) → (T t → a < b) → (T (not t) → b ≤ a) → (a < b) ⊎ (b ≤ a)
    go true h k = inl (h tt)
    go false h k = inr (k tt)

-- two tests that follow from each other
pub ltb_iff : (a b c d : ℕ) → (a < b → c < d) → (c < d → a < b) → ltb a b ≡ ltb c d
ltb_iff a b c d p q = bool_ext (ltb a b) (ltb c d) (λ t. lt→ltb c d (p (ltb→lt a b t))) (λ t. lt→ltb a b (q (ltb→lt c d t)))

pub eqb_iff : (a b c d : ℕ) → (a ≡ b → c ≡ d) → (c ≡ d → a ≡ b) → eqb a b ≡ eqb c d
eqb_iff a b c d p q = bool_ext (eqb a b) (eqb c d) (λ t. eq→eqb (p (eqb→eq a b t))) (λ t. eq→eqb (q (eqb→eq c d t)))

pub eqb-both : (n k x y : ℕ) → (n ≡ k → n ≡ 0 → x ≡ y) → (x ≡ y → n ≡ k) → (x ≡ y → n ≡ 0) → eqb n k && eqb n 0 ≡ eqb x y
eqb-both n k x y p q r =
    bool_ext (eqb n k && eqb n 0) (eqb x y)
    (λ t. eq→eqb (p (eqb→eq n k (and_l (eqb n k) (eqb n 0) t)) (eqb→eq n 0 (and_r (eqb n k) (eqb n 0) t))))
    (λ t. and_i (eqb n k) (eqb n 0) (eq→eqb (q (eqb→eq x y t))) (eq→eqb (r (eqb→eq x y t))))

-- less, or equal: at most, and back
pub less_or_equal : (a b : ℕ) (t : Bool) → T (ltb a b || (eqb a b && t)) → a ≤ b
less_or_equal a b t h = go (or_cases (ltb a b) (eqb a b && t) h)
  where
    go : T (ltb a b) ⊎ T (eqb a b && t) → a ≤ b
    go (inl p) = omega (arith, ltb→lt a b p)
    go (inr p) = omega (arith, eqb→eq a b (and_l (eqb a b) t p))

pub lt_or_eq : (x y : ℕ) → ltb x y || eqb x y ≡ leb x y
lt_or_eq x y =
    bool_ext (ltb x y || eqb x y) (leb x y) (λ t. le→leb x y (there (or_cases (ltb x y) (eqb x y) t))) (λ t. back (order x y) (leb→le x y t))
  where
    there : T (ltb x y) ⊎ T (eqb x y) → x ≤ y
    there (inl p) = omega (arith, ltb→lt x y p)
    there (inr p) = omega (arith, eqb→eq x y p)

    same : x ≤ y → y ≤ x → x ≡ y
    same p q = omega arith

    back : (x < y) ⊎ (y ≤ x) → x ≤ y → T (ltb x y || eqb x y)
    back (inl h) g = or_l (ltb x y) (eqb x y) (lt→ltb x y h)
    back (inr h) g = or_r (ltb x y) (eqb x y) (eq→eqb (same g h))
