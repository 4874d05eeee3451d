-- Floats of a list as bytes, one step at a time: what a loop over them has left; and a field as its head and its bytes.
-- Assumes nothing.
use Prim.Native.Nat.{ℕ, zero, suc, ◌+◌, ◌-◌, ◌*◌, ◌≤◌, ◌<◌}
use mathlib.Core.List.{List, [], ◌∷◌, ◌++◌}
use mathlib.Core.Path.{◌≡◌, refl, ap, ◌∙◌}
use native.Mathlib.Nat.{suc-mul}
use native.Mathlib.Numerals.{add-one}
use native.Mathlib.Omega.{arith}
use lib.Ieee.{Float, binary64, to_bits}
use lib.ListN.{length, length-append, length-drop, get_or, take, drop}
use lib.Seq.{drop-cons, length-take-le}
use Rattle.rules.specs.Fields.{little_endian, float_bytes, field_size, field}
use Rattle.rules.specs.EditionTwo.{stamp_bytes}
use Rattle.fields.proofs.Bytes.{length_little}

-- one of so many and those after it
pub one_of : (n k : ℕ) → 0 < n → n * k ≡ k + (n - 1) * k
one_of zero k h = absurd (omega arith)
one_of (suc n) k h = let e : suc n - 1 ≡ n = omega arith in rw (suc-mul, e) (omega arith)

-- the same, by how many there were and how many are done
pub one_left : (n i k : ℕ) → i < n → (n - i) * k ≡ k + (n - (i + 1)) * k
one_left n i k h = let e : n - i ≡ suc (n - (i + 1)) = omega arith in rw (e, suc-mul) (omega arith)

-- the first of so many numbers from a place on, and those after it
pub part_step : {A : Type 0} (d : A) (n at : ℕ) (xs : List A) → 0 < n → at + n ≤ length xs
    → take n (drop at xs) ≡ get_or xs at d ∷ take (n - 1) (drop (at + 1) xs)
part_step d zero at xs h l = absurd (omega arith)
part_step d (suc n) at xs h l =
    let e : suc n - 1 ≡ n = omega arith in
    let p : at < length xs = omega arith in
    ap (take (suc n)) (drop-cons xs at d p) ∙ rw (e, add-one) refl

pub length_part : {A : Type 0} (n at : ℕ) (xs : List A) → at + n ≤ length xs → length (take n (drop at xs)) ≡ n
length_part n at xs h = length-take-le n (drop at xs) (let d = length-drop at xs in omega arith)

-- the same of `&xs[at..at + n]`
pub length_cut : {A : Type 0} (n at : ℕ) (xs : List A) → at + n ≤ length xs → length (take (at + n - at) (drop at xs)) ≡ n
length_cut n at xs h = let e : at + n - at ≡ n = omega arith in rw e (length_part n at xs h)

pub length_float_bytes : (xs : List Float) → length (float_bytes xs) ≡ 8 * length xs
unfolding float_bytes
length_float_bytes [] = refl
length_float_bytes (x ∷ xs) =
    length-append (little_endian 8 (to_bits binary64 x)) (float_bytes xs)
    ∙ (let a = length_little 8 (to_bits binary64 x) in let b = length_float_bytes xs in omega arith)

-- the same of numbers of 32 bits
pub length_stamp_bytes : (xs : List ℕ) → length (stamp_bytes xs) ≡ 4 * length xs
unfolding stamp_bytes
length_stamp_bytes [] = refl
length_stamp_bytes (x ∷ xs) =
    length-append (little_endian 4 x) (stamp_bytes xs) ∙ (let a = length_little 4 x in let b = length_stamp_bytes xs in omega arith)

-- ---- a field
pub length-field : (tag : ℕ) (bs : List ℕ) → length (field tag bs) ≡ field_size (length bs)
unfolding field
length-field tag bs = length-append (tag ∷ little_endian 2 (length bs)) bs ∙ (let a = length_little 2 (length bs) in omega arith)

-- its head, and its bytes
pub field_of : (tag n : ℕ) (bs : List ℕ) → length bs ≡ n → field tag bs ≡ (tag ∷ little_endian 2 n) ++ bs
unfolding field
field_of tag n bs e = ap (λ (k : ℕ). (tag ∷ little_endian 2 k) ++ bs) e
