-- Floats that are whole multiples of the unit, 2 ^ -20 in binary64 and 2 ^ -8 in binary32: sums, differences and
-- comparisons of them are those of whole numbers, so they are exact. `dif f a b` is (a - b) units. Assumes nothing.
use Rattle.std.specs.Prelude.{◌≡◌, refl, ℕ, zero, suc, ◌+◌, ◌-◌, ◌*◌, ◌^◌, ◌≤◌, ◌<◌, Bool, true, false, not, ◌&&◌, ◌||◌, cond, ◌⊎◌, T, leb, ltb, eqb, Float}
use Rattle.std.proofs.Common.{sym, ap, ap₂, ◌∙◌, subst, le_trans, le_of_eq, lt_of_lt_of_le, mul_comm, mul_left_comm, mul-lt-mul_of_pos_right, arith, inl, inr, lt-ltb, le-ltb, lit≤, pow-add, pow_pos, pow_mono}
use Rattle.std.specs.Float.{inf, Format, binary32, binary64}
use Rattle.std.specs.Float.Ieee.{prec, emax, low, round, odd, units, sum, add, sub, neg, below, level, lt, le}
use Rattle.std.specs.Float.Ieee.Exact.{HasValue, round_exact}
use Rattle.laws.specs.Floats.Tests.{and-true, order, ltb_iff, eqb_iff, eqb-both, lt_or_eq}
use Rattle.theorems.specs.PromiseThree.{places}
use Rattle.laws.specs.Floats.Values.{add_value, lt_value, eq_value}

-- n units with the sign s
abbrev pub at : Format → Bool → ℕ → Float
at f s n = round f s n (2 ^ places f)

-- (a - b) units: 0 is +0
abbrev pub dif : Format → ℕ → ℕ → Float
dif f a b = cond (ltb a b) (at f true (b - a)) (at f false (a - b))

scale : (f : Format) → places f + (low f - places f) ≡ low f
scale binary32 = refl
scale binary64 = refl

room : (f : Format) → prec f + (low f - places f) ≤ low f + suc (emax f)
room binary32 = lit≤ tt
room binary64 = lit≤ tt

pub at_val : (f : Format) (s : Bool) (n : ℕ) → n < 2 ^ prec f → HasValue (at f s n) s n (2 ^ places f)
at_val f s n h =
    let j = low f - places f in
    round_exact f s n (2 ^ places f) n j (pow_pos (places f)) h
    (lt_of_lt_of_le (mul-lt-mul_of_pos_right h (pow_pos j)) (le_trans (le_of_eq (sym (pow-add 2 (prec f) j))) (pow_mono (room f))))
    (ap (λ (x : ℕ). n * 2 ^ x) (sym (scale f)) ∙ ap (λ (x : ℕ). n * x) (pow-add 2 (places f) j) ∙ mul_left_comm n (2 ^ places f) (2 ^ j) ∙ mul_comm (2 ^ places f) (n * 2 ^ j))

-- ---- x is (a - b) units: one sign and a number of units, which the format keeps exactly. A zero may have either sign.
abbrev pub Signed : Bool → ℕ → ℕ → ℕ → Type 0
Signed true n a b = a + n ≡ b
Signed false n a b = a ≡ b + n

pub record Units (f : Format) (x : Float) (a b : ℕ) : Type 0 where
  pub sign : Bool
  pub count : ℕ
  pub is : x ≡ at f sign count
  pub small : count < 2 ^ prec f
  pub apart : Signed sign count a b

pub units_val : (f : Format) (x : Float) (a b : ℕ) (u : Units f x a b) → HasValue x u.sign u.count (2 ^ places f)
units_val f x a b u = subst (λ (z : Float). HasValue z u.sign u.count (2 ^ places f)) (sym u.is) (at_val f u.sign u.count u.small)

-- ---- `dif`
pub dif_neg : (f : Format) (a b : ℕ) → a < b → dif f a b ≡ at f true (b - a)
dif_neg f a b h = ap (λ (t : Bool). cond t (at f true (b - a)) (at f false (a - b))) (lt-ltb a b h)

pub dif_pos : (f : Format) (a b : ℕ) → b ≤ a → dif f a b ≡ at f false (a - b)
dif_pos f a b h = ap (λ (t : Bool). cond t (at f true (b - a)) (at f false (a - b))) (le-ltb a b h)

pub dif-same : (f : Format) (a b c d : ℕ) → a + d ≡ c + b → dif f a b ≡ dif f c d
dif-same f a b c d h = go (order a b)
  where
    less : a < b → c < d
    less p = omega arith

    more : b ≤ a → d ≤ c
    more p = omega arith

    same : b - a ≡ d - c
    same = omega arith

    same' : a - b ≡ c - d
    same' = omega arith

    go : (a < b) ⊎ (b ≤ a) → dif f a b ≡ dif f c d
    go (inl p) = dif_neg f a b p ∙ ap (λ (x : ℕ). at f true x) same ∙ sym (dif_neg f c d (less p))
    go (inr p) = dif_pos f a b p ∙ ap (λ (x : ℕ). at f false x) same' ∙ sym (dif_pos f c d (more p))

pub dif-units : (f : Format) (a b : ℕ) → a < b + 2 ^ prec f → b < a + 2 ^ prec f → Units f (dif f a b) a b
dif-units f a b p q = go (order a b)
  where
    go : (a < b) ⊎ (b ≤ a) → Units f (dif f a b) a b
    go (inl h) = record { sign = true; count = b - a; is = dif_neg f a b h; small = omega arith; apart = omega arith }
    go (inr h) = record { sign = false; count = a - b; is = dif_pos f a b h; small = omega arith; apart = omega arith }

-- ---- the sum of two signed numbers of units. Only -0 and -0 would make -0.
sum-dif : (f : Format) (s : Bool) (n : ℕ) (t : Bool) (k a b c d : ℕ) → Signed s n a b → Signed t k c d → (T s → T t → 0 < n + k)
    → sum f s n t k (2 ^ places f) ≡ dif f (a + c) (b + d)
unfolding sum
sum-dif f true n true k a b c d p q z = ap (λ (x : ℕ). at f true x) (e a b c d n k p q) ∙ sym (dif_neg f (a + c) (b + d) (l a b c d n k p q (z tt tt)))
  where
    e : (a b c d n k : ℕ) → a + n ≡ b → c + k ≡ d → n + k ≡ b + d - (a + c)
    e a b c d n k p q = omega arith

    l : (a b c d n k : ℕ) → a + n ≡ b → c + k ≡ d → 0 < n + k → a + c < b + d
    l a b c d n k p q z = omega arith
sum-dif f false n false k a b c d p q z = ap (λ (x : ℕ). at f false x) (e a b c d n k p q) ∙ sym (dif_pos f (a + c) (b + d) (l a b c d n k p q))
  where
    e : (a b c d n k : ℕ) → a ≡ b + n → c ≡ d + k → n + k ≡ a + c - (b + d)
    e a b c d n k p q = omega arith

    l : (a b c d n k : ℕ) → a ≡ b + n → c ≡ d + k → b + d ≤ a + c
    l a b c d n k p q = omega arith
sum-dif f false n true k a b c d p q z = dif-same f n k (a + c) (b + d) (e a b c d n k p q)
  where
    e : (a b c d n k : ℕ) → a ≡ b + n → c + k ≡ d → n + (b + d) ≡ a + c + k
    e a b c d n k p q = omega arith
sum-dif f true n false k a b c d p q z = turn (order n k) ∙ dif-same f k n (a + c) (b + d) (e a b c d n k p q)
  where
    e : (a b c d n k : ℕ) → a + n ≡ b → c ≡ d + k → k + (b + d) ≡ a + c + n
    e a b c d n k p q = omega arith

    turn : (n < k) ⊎ (k ≤ n) → cond (ltb n k) (at f false (k - n)) (at f (ltb k n) (n - k)) ≡ dif f k n
    turn (inl h) = ap (λ (u : Bool). cond u (at f false (k - n)) (at f (ltb k n) (n - k))) (lt-ltb n k h) ∙ sym (dif_pos f k n (omega arith))
    turn (inr h) = ap (λ (u : Bool). cond u (at f false (k - n)) (at f (ltb k n) (n - k))) (le-ltb n k h) ∙ last (order k n)
      where
        equal : n ≤ k → n - k ≡ k - n
        equal g = omega arith

        last : (k < n) ⊎ (n ≤ k) → at f (ltb k n) (n - k) ≡ dif f k n
        last (inl g) = ap (λ (u : Bool). at f u (n - k)) (lt-ltb k n g) ∙ sym (dif_neg f k n g)
        last (inr g) = ap₂ (λ (u : Bool) (x : ℕ). at f u x) (le-ltb k n g) (equal g) ∙ sym (dif_pos f k n g)

-- ---- the operations on numbers of units
add-units : (f : Format) (x y : Float) (a b c d : ℕ) (u : Units f x a b) (v : Units f y c d) → (T u.sign → T v.sign → 0 < u.count + v.count)
    → add f x y ≡ dif f (a + c) (b + d)
add-units f x y a b c d u v z =
    add_value f x y u.sign v.sign u.count v.count (2 ^ places f) (pow_pos (places f)) (units_val f x a b u) (units_val f y c d v)
    ∙ sum-dif f u.sign u.count v.sign v.count a b c d u.apart v.apart z

-- any number of units, -0 included, and one written by `dif`
pub add-dif : (f : Format) (x : Float) (a b c d : ℕ) → Units f x a b → c < d + 2 ^ prec f → d < c + 2 ^ prec f → add f x (dif f c d) ≡ dif f (a + c) (b + d)
add-dif f x a b c d u p q = go (order c d)
  where
    go : (c < d) ⊎ (d ≤ c) → add f x (dif f c d) ≡ dif f (a + c) (b + d)
    go (inl h) = add-units f x (dif f c d) a b c d u (record { sign = true; count = d - c; is = dif_neg f c d h; small = omega arith; apart = omega arith }) (λ s t. omega arith)
    go (inr h) = add-units f x (dif f c d) a b c d u (record { sign = false; count = c - d; is = dif_pos f c d h; small = omega arith; apart = omega arith }) (λ s t. absurd t)

neg-cond : (b : Bool) (x y : Float) → neg (cond b x y) ≡ cond b (neg x) (neg y)
neg-cond true x y = refl
neg-cond false x y = refl

neg-odd : (d : ℕ) (s : Bool) (q k l : ℕ) → neg (odd d s q k l) ≡ odd d (not s) q k l
unfolding odd neg
neg-odd d s zero k l = refl
neg-odd d s (suc q) k l = refl

neg-units : (f : Format) (s : Bool) (q k : ℕ) → neg (units f s q k) ≡ units f (not s) q k
unfolding units
neg-units f s q k =
    let b = ltb (q * 2 ^ k) (2 ^ (low f + suc (emax f))) in
    neg-cond b (odd (suc (prec f)) s q k (low f)) (inf s) ∙ ap₂ (λ (x y : Float). cond b x y) (neg-odd (suc (prec f)) s q k (low f)) (unfold neg in refl)

neg-round : (f : Format) (s : Bool) (a c : ℕ) → neg (round f s a c) ≡ round f (not s) a c
unfolding round
neg-round f s a c = neg-units f s _ _

pub neg_units_are : (f : Format) (x : Float) (a b : ℕ) → Units f x a b → Units f (neg x) b a
neg_units_are f x a b u =
    record {
      sign = not u.sign;
      count = u.count;
      is = ap neg u.is
          ∙ neg-round f u.sign u.count (2 ^ places f);
      small = u.small;
      apart = turned u.sign u.count u.apart;
    }
  where
    turned : (s : Bool) (n : ℕ) → Signed s n a b → Signed (not s) n b a
    turned true n h = sym h
    turned false n h = sym h

-- ---- the order
below-dif : (s : Bool) (n : ℕ) (t : Bool) (k a b c d : ℕ) → Signed s n a b → Signed t k c d → below s n t k ≡ ltb (a + d) (c + b)
below-dif false n false k a b c d p q = ltb_iff n k (a + d) (c + b) (λ h. omega arith) (λ h. omega arith)
below-dif false n true k a b c d p q = sym (le-ltb (a + d) (c + b) (omega arith))
below-dif true n false k a b c d p q = ltb_iff 0 (n + k) (a + d) (c + b) (λ h. omega arith) (λ h. omega arith)
below-dif true n true k a b c d p q = ltb_iff k n (a + d) (c + b) (λ h. omega arith) (λ h. omega arith)

pub lt_signed : (f : Format) (x y : Float) (s t : Bool) (n k a b c d : ℕ) → HasValue x s n (2 ^ places f) → HasValue y t k (2 ^ places f)
    → Signed s n a b → Signed t k c d → lt x y ≡ ltb (a + d) (c + b)
lt_signed f x y s t n k a b c d p q g h = lt_value x y s t n k (2 ^ places f) (pow_pos (places f)) p q ∙ below-dif s n t k a b c d g h

pub lt-units : (f : Format) (x y : Float) (a b c d : ℕ) → Units f x a b → Units f y c d → lt x y ≡ ltb (a + d) (c + b)
lt-units f x y a b c d u v =
    lt_signed f x y u.sign v.sign u.count v.count a b c d (units_val f x a b u) (units_val f y c d v) u.apart v.apart

-- ---- equality, and at most
level-dif : (s : Bool) (n : ℕ) (t : Bool) (k a b c d : ℕ) → Signed s n a b → Signed t k c d → level s n t k ≡ eqb (a + d) (c + b)
level-dif false n false k a b c d p q = and-true (eqb n k) ∙ eqb_iff n k (a + d) (c + b) (λ h. omega arith) (λ h. omega arith)
level-dif true n true k a b c d p q = and-true (eqb n k) ∙ eqb_iff n k (a + d) (c + b) (λ h. omega arith) (λ h. omega arith)
level-dif false n true k a b c d p q = eqb-both n k (a + d) (c + b) (λ h g. omega arith) (λ h. omega arith) (λ h. omega arith)
level-dif true n false k a b c d p q = eqb-both n k (a + d) (c + b) (λ h g. omega arith) (λ h. omega arith) (λ h. omega arith)

pub le_signed : (f : Format) (x y : Float) (s t : Bool) (n k a b c d : ℕ) → HasValue x s n (2 ^ places f) → HasValue y t k (2 ^ places f)
    → Signed s n a b → Signed t k c d → le x y ≡ leb (a + d) (c + b)
unfolding le
le_signed f x y s t n k a b c d p q g h =
    ap₂ (λ (i j : Bool). i || j) (lt_signed f x y s t n k a b c d p q g h)
    (eq_value x y s t n k (2 ^ places f) (pow_pos (places f)) p q ∙ level-dif s n t k a b c d g h)
    ∙ lt_or_eq (a + d) (c + b)

pub le-units : (f : Format) (x y : Float) (a b c d : ℕ) → Units f x a b → Units f y c d → le x y ≡ leb (a + d) (c + b)
le-units f x y a b c d u v =
    le_signed f x y u.sign v.sign u.count v.count a b c d (units_val f x a b u) (units_val f y c d v) u.apart v.apart

-- one written by `dif`, and any number of units taken off
pub dif-sub : (f : Format) (y : Float) (a b c d : ℕ) → Units f y c d → a < b + 2 ^ prec f → b < a + 2 ^ prec f → sub f (dif f a b) y ≡ dif f (a + d) (b + c)
unfolding sub
dif-sub f y a b c d u p q = go (order a b)
  where
    n : Units f (neg y) d c
    n = neg_units_are f y c d u

    go : (a < b) ⊎ (b ≤ a) → add f (dif f a b) (neg y) ≡ dif f (a + d) (b + c)
    go (inl h) =
        add-units f (dif f a b) (neg y) a b d c (record { sign = true; count = b - a; is = dif_neg f a b h; small = omega arith; apart = omega arith }) n (λ s t. omega arith)
    go (inr h) =
        add-units f (dif f a b) (neg y) a b d c (record { sign = false; count = a - b; is = dif_pos f a b h; small = omega arith; apart = omega arith }) n (λ s t. absurd s)
