-- Places in the lent lists: a cell on the grid has a place below the number of cells. Over any number of axes. Assumes
-- nothing.
use Rattle.std.specs.Prelude.{ℕ, suc, ◌+◌, ◌*◌, ◌≤◌, ◌<◌, ◌≡◌, refl, Bool, true, false, cond, not, List, [], ◌∷◌, ℤ, pos, negsuc, nat_abs, length, T, ltb}
use Rattle.std.proofs.Common.{sym, ap, subst, ◌∙◌, mul_assoc, mul_comm, mul-one, one-mul, suc-mul, zero-add, mul-le-mul_right, lt_of_lt_of_le, mul-le-mul, le_trans, le_of_lt, arith, ltb-true, lt-ltb, le-ltb}
use Rattle.std.proofs.Math.Option.{Option, some, none}
use Rattle.std.specs.Int.Signed.{non_neg, lt_z}
use Rattle.rules.specs.RefusalNumbers.{Answer, given, refused, and_then, out_of_bounds}
use Rattle.rules.specs.TheGridAndItsBounds.{cells, strides_from, strides}
use Rattle.rules.specs.Coordinates.{along, or_off, is_off, off_axes, on_grid_from, times_strides, flat_index}

-- ---- one axis alone
pub along-lt : (e : ℕ) (i : ℤ) (n : ℕ) → along e i ≡ some n → n < e
unfolding along
along-lt e (pos m) n h = go (ltb m e) refl h
  where
    go : (b : Bool) → ltb m e ≡ b → cond b (some m) none ≡ some n → n < e
    go true t q = let k : m ≡ n = cc in omega (arith, ltb-true m e t)
    go false t q = let z : ◌≡◌ {A = ℕ} 0 1 = cc in absurd (omega arith)
along-lt e (negsuc m) n h = let z : ◌≡◌ {A = ℕ} 0 1 = cc in absurd (omega arith)

-- the same of an axis's answer
pub answer_lt : (off k e : ℕ) (i : ℤ) (n : ℕ) → or_off off k e i (along e i) ≡ given n → n < e
answer_lt off k e i n h = go (along e i) refl h
  where
    go : (a : Option ℕ) → along e i ≡ a → or_off off k e i a ≡ given n → n < e
    go (some m) t q = along-lt e i n (t ∙ ap some cc)
    go none t q = let z : ◌≡◌ {A = ℕ} 0 1 = cc in absurd (omega arith)

-- and the index is that number
pub answer_is : (off k e : ℕ) (i : ℤ) (n : ℕ) → or_off off k e i (along e i) ≡ given n → pos n ≡ i
unfolding along
answer_is off k e (pos m) n h = go (ltb m e) h
  where
    go : (b : Bool) → or_off off k e (pos m) (cond b (some m) none) ≡ given n → pos n ≡ pos m
    go true q = let w : m ≡ n = cc in ap pos (sym w)
    go false q = let z : ◌≡◌ {A = ℕ} 0 1 = cc in absurd (omega arith)
answer_is off k e (negsuc m) n h = let z : ◌≡◌ {A = ℕ} 0 1 = cc in absurd (omega arith)

pub not_negative : (i : ℤ) → lt_z i (pos 0) ≡ false → T (non_neg i)
not_negative (pos n) h = tt
not_negative (negsuc n) h = let z : ◌≡◌ {A = ℕ} 0 1 = cc in absurd (omega arith)

pub along-negative : (e : ℕ) (i : ℤ) → lt_z i (pos 0) ≡ true → along e i ≡ none
unfolding along
along-negative e (pos n) h = absurd (omega (arith, ltb-true n 0 h))
along-negative e (negsuc n) h = refl

pub along_in : (e : ℕ) (i : ℤ) → T (non_neg i) → nat_abs i < e → along e i ≡ some (nat_abs i)
unfolding along
along_in e (pos n) p h = simp (lt-ltb n e h)
along_in e (negsuc n) p h = absurd p

pub along_off : (e : ℕ) (i : ℤ) → T (non_neg i) → e ≤ nat_abs i → along e i ≡ none
unfolding along
along_off e (pos n) p h = simp (le-ltb n e h)
along_off e (negsuc n) p h = absurd p

pub off_by_size : (e : ℕ) (i : ℤ) → T (non_neg i) → is_off (along e i) ≡ not (ltb (nat_abs i) e)
unfolding along
off_by_size e (pos n) p = go (ltb n e)
  where
    go : (b : Bool) → is_off (cond b (some n) none) ≡ not b
    go true = refl
    go false = refl
off_by_size e (negsuc n) p = absurd p

-- the same by the test: an axis that is off, and one that is not
pub off_is : (e : ℕ) (i : ℤ) → is_off (along e i) ≡ true → along e i ≡ none
off_is e i h = go (along e i) h
  where
    go : (a : Option ℕ) → is_off a ≡ true → a ≡ none
    go (some n) q = let z : ◌≡◌ {A = ℕ} 0 1 = cc in absurd (omega arith)
    go none q = refl

pub on_is : (e : ℕ) (i : ℤ) → is_off (along e i) ≡ false → T (non_neg i) × (along e i ≡ some (nat_abs i))
unfolding along
on_is e (pos n) h = (tt, go (ltb n e) h)
  where
    go : (b : Bool) → is_off (cond b (some n) none) ≡ false → cond b (some n) none ≡ some n
    go true q = refl
    go false q = let z : ◌≡◌ {A = ℕ} 0 1 = cc in absurd (omega arith)
on_is e (negsuc n) h = let z : ◌≡◌ {A = ℕ} 0 1 = cc in absurd (omega arith)

-- ---- the axes together
-- an axis that is off refuses, whatever the axes after it; one that is in leaves it to them
module _ (off k e : ℕ) (es : List ℕ) (i : ℤ) (is : List ℤ) where
  pub axis_off : along e i ≡ none → on_grid_from off k (e ∷ es) (i ∷ is) ≡ refused (out_of_bounds k i e off)
  unfolding on_grid_from
  axis_off h = simp h

  pub axis_in : (n : ℕ) → along e i ≡ some n → on_grid_from off k (e ∷ es) (i ∷ is) ≡ and_then (on_grid_from off (suc k) es is) (λ ns. given (n ∷ ns))
  unfolding on_grid_from
  axis_in n h = simp h

-- what the axes before give, with n strides more, is below the next stride
room : (sum stride n e : ℕ) → sum < stride → n < e → sum + n * stride < stride * e
room sum stride n e h g =
    subst (λ (k : ℕ). sum + n * stride < k) (mul_comm e stride)
    (lt_of_lt_of_le (omega (arith, suc-mul n stride)) (mul-le-mul_right stride g))

-- the indices that were found, times their strides, stay below the product of the extents
sum_lt : (off k stride sum : ℕ) (es : List ℕ) (is : List ℤ) (ns : List ℕ) → length is ≡ length es → sum < stride → on_grid_from off k es is ≡ given ns
    → sum + times_strides ns (strides_from stride es) < stride * cells es
unfolding on_grid_from times_strides strides_from cells
sum_lt off k stride sum [] is ns l h q =
    let e : ◌≡◌ {A = List ℕ} [] ns = cc in
    subst (λ (m : List ℕ). sum + times_strides m [] < stride * 1) e (subst (λ (n : ℕ). sum + 0 < n) (sym (mul-one stride)) (omega arith))
sum_lt off k stride sum (e ∷ es) [] ns l h q = absurd (omega arith)
sum_lt off k stride sum (e ∷ es) (i ∷ is) ns l h q =
    go (along e i) refl (on_grid_from off (suc k) es is) refl (λ s ms. sum_lt off (suc k) (stride * e) s es is ms (omega arith)) q
  where
    go : (a : Option ℕ) → along e i ≡ a → (r : Answer (List ℕ)) → on_grid_from off (suc k) es is ≡ r
        → ((s : ℕ) (ms : List ℕ) → s < stride * e → on_grid_from off (suc k) es is ≡ given ms
        → s + times_strides ms (strides_from (stride * e) es) < stride * e * cells es)
        → and_then (or_off off k e i a) (λ n. and_then r (λ ms. given (n ∷ ms))) ≡ given ns
        → sum + times_strides ns (stride ∷ strides_from (stride * e) es) < stride * (e * cells es)
    go (some n) t (given ms) u ih v =
        let w : ◌≡◌ {A = List ℕ} (n ∷ ms) ns = cc in
        let b = ih (sum + n * stride) ms (room sum stride n e h (along-lt e i n t)) u in
        subst (λ (x : List ℕ). sum + times_strides x (stride ∷ strides_from (stride * e) es) < stride * (e * cells es)) w
        (subst (λ (x : ℕ). sum + (n * stride + times_strides ms (strides_from (stride * e) es)) < x) (mul_assoc stride e (cells es)) (omega arith))
    go (some n) t (refused x) u ih v = let z : ◌≡◌ {A = ℕ} 0 1 = cc in absurd (omega arith)
    go none t r u ih v = let z : ◌≡◌ {A = ℕ} 0 1 = cc in absurd (omega arith)

-- the product of an index and of a stride, each below its bound
pub within_products : {a b m n l : ℕ} → a < b → b ≤ m → n ≤ l → a * n ≤ m * l
within_products h g k = mul-le-mul (le_trans (le_of_lt h) g) k

-- a place is below the number of cells
pub place_lt : (es : List ℕ) (is : List ℤ) (place : ℕ) → length is ≡ length es → flat_index es is ≡ given place → place < cells es
unfolding flat_index strides
place_lt es is place l q = go (on_grid_from (off_axes es is) 0 es is) refl q
  where
    go : (r : Answer (List ℕ)) → on_grid_from (off_axes es is) 0 es is ≡ r → and_then r (λ ns. given (times_strides ns (strides_from 1 es))) ≡ given place → place < cells es
    go (given ns) t v =
        let w : times_strides ns (strides_from 1 es) ≡ place = cc in
        subst (λ (n : ℕ). place < n) (one-mul (cells es)) (subst (λ (p : ℕ). p < 1 * cells es) w (rw zero-add at (sum_lt (off_axes es is) 0 1 0 es is ns l (omega arith) t)))
    go (refused r) t v = let z : ◌≡◌ {A = ℕ} 0 1 = cc in absurd (omega arith)
