-- Little-endian numbers by halves, and a field's head by its tests. Assumes nothing.
use Prim.Native.Nat.{ℕ, zero, suc, ◌+◌, ◌-◌, ◌*◌, ◌^◌, ◌/◌, ◌%◌, ◌≤◌, ◌<◌}
use mathlib.Core.Bool.{Bool, true, false, ◌&&◌}
use mathlib.Core.List.{List, [], ◌∷◌}
use mathlib.Core.Path.{◌≡◌, refl, sym, ap, ◌∙◌}
use native.Mathlib.Nat.{pow-succ', mul_comm, div-one, div-div-eq-div-mul}
use native.Mathlib.Omega.{arith}
use lib.Dec.{eqb}
use lib.ListN.{length, get_or, take, drop, length-drop}
use lib.Seq.{drop-drop, get_or-drop}
use Rattle.std.specs.Int.{byte_at, bytes_low_first, from_le_bytes, w16, w32, w64}
use borrow.Author.Tests.{leb-true, le-leb, lt-leb, eq-eqb, ne_eqb}
use Rattle.rules.specs.Fields.{little_endian, from_little_endian, field_here}

-- ---- reading
from-none : (k : ℕ) → from_little_endian k [] ≡ 0
unfolding from_little_endian
from-none zero = refl
from-none (suc k) = refl

-- the first byte, and the rest of the number; past the end both are 0
pub from_step : (k at : ℕ) (bs : List ℕ) → from_little_endian (suc k) (drop at bs) ≡ get_or bs at 0 + 256 * from_little_endian k (drop (suc at) bs)
unfolding from_little_endian
from_step k zero [] = rw (from-none k) refl
from_step k (suc at) [] = rw (from-none k) refl
from_step k zero (b ∷ bs) = refl
from_step k (suc at) (b ∷ bs) = from_step k at bs

-- the byte at a place after the first, and the rest
from_next : (k at i : ℕ) (bs : List ℕ) → from_little_endian (suc k) (drop (at + i) bs) ≡ get_or bs (at + i) 0 + 256 * from_little_endian k (drop (at + (i + 1)) bs)
from_next k at i bs = let e : at + (i + 1) ≡ suc (at + i) = omega arith in rw e (from_step k (at + i) bs)

from_first : (k at : ℕ) (bs : List ℕ) → from_little_endian (suc k) (drop at bs) ≡ get_or bs at 0 + 256 * from_little_endian k (drop (at + 1) bs)
from_first k at bs = let e : at + 1 ≡ suc at = omega arith in rw e (from_step k at bs)

from_end : (bs : List ℕ) → from_little_endian 0 bs ≡ 0
unfolding from_little_endian
from_end bs = refl

module _ (n at : ℕ) (bs : List ℕ) where
  -- a number of std's bytes from a place on
  pub from_2 : n ≡ from_le_bytes w16 (get_or bs at 0 ∷ get_or bs (at + 1) 0 ∷ []) → n ≡ from_little_endian 2 (drop at bs)
  from_2 e = omega (arith, e, from_first 1 at bs, from_next 0 at 1 bs, from_end (drop (at + 2) bs))

  pub from_4 : n ≡ from_le_bytes w32 (get_or bs at 0 ∷ get_or bs (at + 1) 0 ∷ get_or bs (at + 2) 0 ∷ get_or bs (at + 3) 0 ∷ []) → n ≡ from_little_endian 4 (drop at bs)
  from_4 e = omega (arith, e, from_first 3 at bs, from_next 2 at 1 bs, from_next 1 at 2 bs, from_next 0 at 3 bs, from_end (drop (at + 4) bs))

  pub from_8 :
      n ≡ from_le_bytes w64 (get_or bs at 0 ∷ get_or bs (at + 1) 0 ∷ get_or bs (at + 2) 0 ∷ get_or bs (at + 3) 0
      ∷ get_or bs (at + 4) 0 ∷ get_or bs (at + 5) 0 ∷ get_or bs (at + 6) 0 ∷ get_or bs (at + 7) 0 ∷ [])
      → n ≡ from_little_endian 8 (drop at bs)
  from_8 e =
      let a = from_first 7 at bs in
      let b = from_next 6 at 1 bs in
      let c = from_next 5 at 2 bs in
      let d = from_next 4 at 3 bs in
      omega (arith, e, from_next 3 at 4 bs, from_next 2 at 5 bs, from_next 1 at 6 bs, from_next 0 at 7 bs, from_end (drop (at + 8) bs))

-- the bytes of a number are enough to read it
from_take : (k : ℕ) (bs : List ℕ) → from_little_endian k (take k bs) ≡ from_little_endian k bs
unfolding from_little_endian
from_take zero bs = refl
from_take (suc k) [] = refl
from_take (suc k) (b ∷ bs) = ap (λ (n : ℕ). b + 256 * n) (from_take k bs)

pub from_part : (k at : ℕ) (bs : List ℕ) → from_little_endian k (take (at + k - at) (drop at bs)) ≡ from_little_endian k (drop at bs)
from_part k at bs = let e : at + k - at ≡ k = omega arith in rw e (from_take k (drop at bs))

-- ---- writing
byte_is : (i n : ℕ) → byte_at i n ≡ n / 256 ^ i % 256
byte_is zero n = ap (λ (m : ℕ). m % 256) (sym (div-one n))
byte_is (suc i) n = refl

bytes-from : (i k n : ℕ) → bytes_low_first i k n ≡ little_endian k (n / 256 ^ i)
unfolding little_endian
bytes-from i zero n = refl
bytes-from i (suc k) n =
    let e : n / 256 ^ i / 256 ≡ n / 256 ^ suc i = div-div-eq-div-mul n (256 ^ i) 256 ∙ ap (λ (m : ℕ). n / m) (mul_comm (256 ^ i) 256 ∙ sym (pow-succ' 256 i)) in
    rw (e, byte_is i n) (ap (λ (bs : List ℕ). n / 256 ^ i % 256 ∷ bs) (bytes-from (suc i) k n))

-- std's bytes of a number
pub little_is : (k n : ℕ) → bytes_low_first 0 k n ≡ little_endian k n
little_is k n = bytes-from 0 k n ∙ ap (little_endian k) (div-one n)

pub length_little : (k n : ℕ) → length (little_endian k n) ≡ k
unfolding little_endian
length_little zero n = refl
length_little (suc k) n = ap suc (length_little k (n / 256))

-- ---- a field's head
module _ (tag size at : ℕ) (bs : List ℕ) where
  pub field_cut : length bs < at + 3 + size → field_here tag size (drop at bs) ≡ false
  unfolding field_here
  field_cut h = rw (length-drop, lt-leb (3 + size) (length bs - at) (omega arith)) refl

  pub field-other : at + 3 + size ≤ length bs → (get_or bs at 0 ≡ tag → ⊥) → field_here tag size (drop at bs) ≡ false
  unfolding field_here
  field-other h t =
      let e : at + 0 ≡ at = omega arith in
      rw (length-drop, le-leb (3 + size) (length bs - at) (omega arith), get_or-drop, e, ne_eqb (get_or bs at 0) tag t) refl

  pub field_is : at + 3 + size ≤ length bs → get_or bs at 0 ≡ tag → eqb (from_little_endian 2 (drop (at + 1) bs)) size ≡ field_here tag size (drop at bs)
  unfolding field_here
  field_is h t =
      let e : at + 0 ≡ at = omega arith in
      rw (length-drop, le-leb (3 + size) (length bs - at) (omega arith), get_or-drop, e, eq-eqb (get_or bs at 0) tag t, drop-drop) refl

-- ---- a field that stands whole has its bytes
pub both_l : (a b : Bool) → (a && b) ≡ true → a ≡ true
both_l true b e = refl
both_l false b e = e

pub both_r : (a b : Bool) → (a && b) ≡ true → b ≡ true
both_r true b e = e
both_r false b e = let z : ◌≡◌ {A = ℕ} 0 1 = cc in absurd (omega arith)

pub whole : (tag size : ℕ) (bs : List ℕ) → field_here tag size bs ≡ true → 3 + size ≤ length bs
unfolding field_here
whole tag size bs e = leb-true _ _ (both_l _ _ (both_l _ _ e))

pub whole-at : (tag size at : ℕ) (bs : List ℕ) → field_here tag size (drop at bs) ≡ true → at + 3 + size ≤ length bs
whole-at tag size at bs e = let h = whole tag size (drop at bs) e in let d = length-drop at bs in omega arith
