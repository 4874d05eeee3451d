-- Numbers of the same width one after another, as a record's extents, floats and stamps are: what was written is read
-- again, and what was read is written again. One law for all, then each by its name in the rules. Assumes nothing.
use Prim.Native.Nat.{ℕ, zero, suc, ◌+◌, ◌*◌, ◌^◌, ◌≤◌, ◌<◌}
use Rattle.std.specs.Prelude.{not, true, ◌≡◌, T, length, take, drop, Float}
use mathlib.Core.List.{List, [], ◌∷◌, ◌++◌, append_assoc}
use Rattle.std.proofs.Math.Path.{refl, sym, ap, ap₂}
use Rattle.std.proofs.Common.{◌∙◌, drop_at, take-add, eqb-true}
use Rattle.std.proofs.Math.Nat.{mul-zero}
use native.Mathlib.Omega.{arith}
use Rattle.std.proofs.Math.ListN.{length-append, length-drop}
use Rattle.std.specs.Float.{nan, inf, fin, binary64}
use Rattle.std.specs.Float.Ieee.{fits, is_nan, to_bits, of_bits}
use Rattle.std.specs.Float.Ieee.Bits.{of_bits-to_bits, to_bits-lt, of_bits-fits, to_bits-of_bits, is_true}
use Rattle.rules.specs.Fields.{little_endian, from_little_endian, float_bytes, floats_in}
use Rattle.rules.specs.MapRecord.{extent_bytes, extents_in, same_bits}
use Rattle.rules.specs.EditionTwo.{stamp_bytes, stamps_in}
use Rattle.record_laws.specs.Words.{Each, IsByte, AreBytes, Is64, Are64, NotNan, NoNan}
use Rattle.record_laws.specs.Each.{each_nil, each_tail, each_cons, each_drop}
use Rattle.record_laws.specs.Bytes.{little_endian_length, little_endian_back, little_endian_again, little_endian_below}

-- ---- numbers of k bytes
module _ {A : Type 0} (k : ℕ) (to : A → ℕ) where
  packed : List A → List ℕ
  packed [] = []
  packed (x ∷ xs) = little_endian k (to x) ++ packed xs

  packed_length : (xs : List A) → length (packed xs) ≡ k * length xs
  unfolding packed
  packed_length [] = sym (mul-zero k)
  packed_length (x ∷ xs) =
      length-append (little_endian k (to x)) (packed xs)
      ∙ ap₂ ◌+◌ (little_endian_length k (to x)) (packed_length xs)
      ∙ omega arith

module _ {A : Type 0} (k : ℕ) (of : ℕ → A) where
  unpacked : ℕ → List ℕ → List A
  unpacked zero bs = []
  unpacked (suc n) bs = of (from_little_endian k bs) ∷ unpacked n (drop k bs)

  unpacked_length : (n : ℕ) (bs : List ℕ) → length (unpacked n bs) ≡ n
  unfolding unpacked
  unpacked_length zero bs = refl
  unpacked_length (suc n) bs = ap suc (unpacked_length n (drop k bs))

  unpacked_each : (P : A → Type 0) (d : A) → ((m : ℕ) → P (of m)) → (n : ℕ) (bs : List ℕ) → Each P d (unpacked n bs)
  unfolding unpacked
  unpacked_each P d p zero bs = each_nil P d
  unpacked_each P d p (suc n) bs =
      each_cons P d (of (from_little_endian k bs)) (unpacked n (drop k bs)) (p (from_little_endian k bs)) (unpacked_each P d p n (drop k bs))

module _ {A : Type 0} (k : ℕ) (to : A → ℕ) (of : ℕ → A) (P : A → Type 0) (d : A) where
  packed_back : ((x : A) → P x → (to x < 256 ^ k) × (of (to x) ≡ x)) → (xs : List A) (rest : List ℕ) → Each P d xs
      → unpacked k of (length xs) (packed k to xs ++ rest) ≡ xs
  unfolding packed unpacked
  packed_back back [] rest h = refl
  packed_back back (x ∷ xs) rest h =
      let b = back x (h 0 (omega arith)) in
      let bytes = little_endian k (to x) in
      let after = packed k to xs ++ rest in
      rw append_assoc
      (ap₂ (λ (y : A) (ys : List A). y ∷ ys) (ap of (little_endian_back k (to x) after b.0) ∙ b.1)
      (ap (unpacked k of (length xs)) (drop_at bytes after k (little_endian_length k (to x))) ∙ packed_back back xs rest (each_tail P d x xs h)))

  unpacked_again : ((n : ℕ) → n < 256 ^ k → P (of n) → to (of n) ≡ n) → (n : ℕ) (bs : List ℕ) → AreBytes bs → k * n ≤ length bs
      → Each P d (unpacked k of n bs) → packed k to (unpacked k of n bs) ≡ take (k * n) bs
  unfolding packed unpacked
  unpacked_again again zero bs b l h = rw mul-zero refl
  unpacked_again again (suc n) bs b l h =
      let m = from_little_endian k bs in
      let e : k * suc n ≡ k + k * n = omega arith in
      rw e
      (ap₂ (λ (x y : List ℕ). x ++ y)
      (ap (little_endian k) (again m (little_endian_below k bs b) (h 0 (omega arith))) ∙ little_endian_again k bs b (omega arith))
      (unpacked_again again n (drop k bs) (each_drop IsByte 0 k bs b) (simp length-drop (omega arith))
      (each_tail P d (of m) (unpacked k of n (drop k bs)) h))
      ∙ sym (take-add k (k * n) bs))

-- ---- extents: two bytes each
extents_packed : (es : List ℕ) → extent_bytes es ≡ packed 2 (λ e. e) es
unfolding extent_bytes packed
extents_packed [] = refl
extents_packed (e ∷ es) = ap (λ (x : List ℕ). little_endian 2 e ++ x) (extents_packed es)

extents_unpacked : (n : ℕ) (bs : List ℕ) → extents_in n bs ≡ unpacked 2 (λ e. e) n bs
unfolding extents_in unpacked
extents_unpacked zero bs = refl
extents_unpacked (suc n) bs = ap (λ (x : List ℕ). from_little_endian 2 bs ∷ x) (extents_unpacked n (drop 2 bs))

pub extent_bytes_length : (es : List ℕ) → length (extent_bytes es) ≡ 2 * length es
extent_bytes_length es = rw extents_packed (packed_length 2 (λ e. e) es)

pub extents_in_length : (n : ℕ) (bs : List ℕ) → length (extents_in n bs) ≡ n
extents_in_length n bs = rw extents_unpacked (unpacked_length 2 (λ e. e) n bs)

-- an extent that two bytes hold
abbrev pub InTwoBytes : ℕ → Type 0
InTwoBytes e = e < 65_536

pub extents_back : (es rest : List ℕ) (n : ℕ) → length es ≡ n → Each InTwoBytes 0 es → extents_in n (extent_bytes es ++ rest) ≡ es
extents_back es rest n e h =
    rw (← e, extents_packed, extents_unpacked) (packed_back 2 (λ e. e) (λ e. e) InTwoBytes 0 (λ x p. (p, refl)) es rest h)

pub extents_again : (n : ℕ) (bs : List ℕ) → AreBytes bs → 2 * n ≤ length bs → extent_bytes (extents_in n bs) ≡ take (2 * n) bs
extents_again n bs b l =
    rw (extents_packed, extents_unpacked)
    (unpacked_again 2 (λ e. e) (λ e. e) (λ e. Unit {0}) 0 (λ m l p. refl) n bs b l (unpacked_each 2 (λ e. e) (λ e. Unit {0}) 0 (λ m. tt) n bs))

-- ---- floats: the eight bytes of their pattern
floats_packed : (xs : List Float) → float_bytes xs ≡ packed 8 (to_bits binary64) xs
unfolding float_bytes packed
floats_packed [] = refl
floats_packed (x ∷ xs) = ap (λ (y : List ℕ). little_endian 8 (to_bits binary64 x) ++ y) (floats_packed xs)

floats_unpacked : (n : ℕ) (bs : List ℕ) → floats_in n bs ≡ unpacked 8 (of_bits binary64) n bs
unfolding floats_in unpacked
floats_unpacked zero bs = refl
floats_unpacked (suc n) bs = ap (λ (y : List Float). of_bits binary64 (from_little_endian 8 bs) ∷ y) (floats_unpacked n (drop 8 bs))

pub float_bytes_length : (xs : List Float) → length (float_bytes xs) ≡ 8 * length xs
float_bytes_length xs = rw floats_packed (packed_length 8 (to_bits binary64) xs)

pub floats_in_length : (n : ℕ) (bs : List ℕ) → length (floats_in n bs) ≡ n
floats_in_length n bs = rw floats_unpacked (unpacked_length 8 (of_bits binary64) n bs)

-- the NaN and the infinities too
pub floats_back : (xs : List Float) (rest : List ℕ) (n : ℕ) → length xs ≡ n → Are64 xs → floats_in n (float_bytes xs ++ rest) ≡ xs
floats_back xs rest n e h =
    rw (← e, floats_packed, floats_unpacked) (packed_back 8 (to_bits binary64) (of_bits binary64) Is64 nan pattern_back xs rest h)
  where
    pattern_back : (x : Float) → Is64 x → (to_bits binary64 x < 256 ^ 8) × (of_bits binary64 (to_bits binary64 x) ≡ x)
    pattern_back x p = let t : T (fits binary64 x) = rw p tt in (to_bits-lt binary64 x t, of_bits-to_bits binary64 x t)

pub floats_in_64 : (n : ℕ) (bs : List ℕ) → Are64 (floats_in n bs)
floats_in_64 n bs =
    rw floats_unpacked (unpacked_each 8 (of_bits binary64) Is64 nan (λ m. is_true (fits binary64 (of_bits binary64 m)) (of_bits-fits binary64 m)) n bs)

not-nan : (x : Float) → NotNan x → T (not (is_nan x))
unfolding is_nan
not-nan nan h = absurd (h refl)
not-nan (inf s) h = tt
not-nan (fin s m e) h = tt

pub floats_again : (n : ℕ) (bs : List ℕ) → AreBytes bs → 8 * n ≤ length bs → NoNan (floats_in n bs) → float_bytes (floats_in n bs) ≡ take (8 * n) bs
floats_again n bs b l h =
    rw (floats_packed, floats_unpacked)
    (unpacked_again 8 (to_bits binary64) (of_bits binary64) NotNan nan
    (λ m g p. to_bits-of_bits binary64 m g (not-nan (of_bits binary64 m) p)) n bs b l (rw floats_unpacked at h))

-- equal patterns of values of binary64 are equal values
pub same_float : (x y : Float) → Is64 x → Is64 y → same_bits x y ≡ true → x ≡ y
unfolding same_bits
same_float x y p q e =
    let s : T (fits binary64 x) = rw p tt in
    let t : T (fits binary64 y) = rw q tt in
    sym (of_bits-to_bits binary64 x s) ∙ ap (of_bits binary64) (eqb-true (to_bits binary64 x) (to_bits binary64 y) e) ∙ of_bits-to_bits binary64 y t

-- ---- stamps: four bytes each
stamps_packed : (ss : List ℕ) → stamp_bytes ss ≡ packed 4 (λ s. s) ss
unfolding stamp_bytes packed
stamps_packed [] = refl
stamps_packed (s ∷ ss) = ap (λ (x : List ℕ). little_endian 4 s ++ x) (stamps_packed ss)

stamps_unpacked : (n : ℕ) (bs : List ℕ) → stamps_in n bs ≡ unpacked 4 (λ s. s) n bs
unfolding stamps_in unpacked
stamps_unpacked zero bs = refl
stamps_unpacked (suc n) bs = ap (λ (x : List ℕ). from_little_endian 4 bs ∷ x) (stamps_unpacked n (drop 4 bs))

pub stamp_bytes_length : (ss : List ℕ) → length (stamp_bytes ss) ≡ 4 * length ss
stamp_bytes_length ss = rw stamps_packed (packed_length 4 (λ s. s) ss)

pub stamps_in_length : (n : ℕ) (bs : List ℕ) → length (stamps_in n bs) ≡ n
stamps_in_length n bs = rw stamps_unpacked (unpacked_length 4 (λ s. s) n bs)

-- a stamp that four bytes hold
abbrev pub InFourBytes : ℕ → Type 0
InFourBytes s = s < 4_294_967_296

pub stamps_back : (ss rest : List ℕ) (n : ℕ) → length ss ≡ n → Each InFourBytes 0 ss → stamps_in n (stamp_bytes ss ++ rest) ≡ ss
stamps_back ss rest n e h =
    rw (← e, stamps_packed, stamps_unpacked) (packed_back 4 (λ s. s) (λ s. s) InFourBytes 0 (λ x p. (p, refl)) ss rest h)

pub stamps_again : (n : ℕ) (bs : List ℕ) → AreBytes bs → 4 * n ≤ length bs → stamp_bytes (stamps_in n bs) ≡ take (4 * n) bs
stamps_again n bs b l =
    rw (stamps_packed, stamps_unpacked)
    (unpacked_again 4 (λ s. s) (λ s. s) (λ s. Unit {0}) 0 (λ m l p. refl) n bs b l (unpacked_each 4 (λ s. s) (λ s. Unit {0}) 0 (λ m. tt) n bs))
