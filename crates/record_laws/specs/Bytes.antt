-- Whole numbers as bytes, lowest byte first: what was written is read again, and what was read is written again. Of any
-- number of bytes. Assumes nothing.
use Rattle.std.specs.Prelude.{ℕ, zero, suc, ◌+◌, ◌*◌, ◌/◌, ◌%◌, ◌^◌, ◌≤◌, ◌<◌, List, [], ◌∷◌, ◌++◌, ◌≡◌, refl, length, take}
use Rattle.std.proofs.Common.{ap, ap₂, ◌∙◌, pow-suc, mod-eq_of_lt, zero-lt-suc, div-lt_iff_lt-mul, arith}
use Rattle.std.proofs.Math.Nat.{pow-succ', mod-add-div, div-eq_of_lt, add-mul-mod_self_left, add-mul-div_left}
use Rattle.rules.specs.Fields.{little_endian, from_little_endian}
use Rattle.record_laws.specs.Words.{IsByte, AreBytes}
use Rattle.record_laws.specs.Each.{each_tail}

pub little_endian_length : (k n : ℕ) → length (little_endian k n) ≡ k
unfolding little_endian
little_endian_length zero n = refl
little_endian_length (suc k) n = ap suc (little_endian_length k (n / 256))

-- a number written in so many bytes, whatever follows them, is read again if it fits them
pub little_endian_back : (k n : ℕ) (rest : List ℕ) → n < 256 ^ k → from_little_endian k (little_endian k n ++ rest) ≡ n
unfolding little_endian from_little_endian
little_endian_back zero n rest h = omega arith
little_endian_back (suc k) n rest h =
    ap (λ (m : ℕ). n % 256 + 256 * m) (little_endian_back k (n / 256) rest ((div-lt_iff_lt-mul (zero-lt-suc 255)).1 (rw pow-suc at h)))
    ∙ mod-add-div n 256

-- bytes read as a number, and the number written in as many bytes, are those bytes
pub little_endian_again : (k : ℕ) (bs : List ℕ) → AreBytes bs → k ≤ length bs → little_endian k (from_little_endian k bs) ≡ take k bs
unfolding little_endian from_little_endian
little_endian_again zero bs h l = refl
little_endian_again (suc k) [] h l = absurd (omega arith)
little_endian_again (suc k) (b ∷ bs) h l =
    let n = from_little_endian k bs in
    let low : b < 256 = h 0 (omega arith) in
    ap₂ (λ (x : ℕ) (xs : List ℕ). x ∷ xs) (add-mul-mod_self_left b 256 n ∙ mod-eq_of_lt low)
    (ap (little_endian k) (add-mul-div_left b n (zero-lt-suc 255) ∙ ap (λ (m : ℕ). m + n) (div-eq_of_lt low) ∙ omega arith)
    ∙ little_endian_again k bs (each_tail IsByte 0 b bs h) (omega arith))

-- k bytes hold a number below 256 ^ k
pub little_endian_below : (k : ℕ) (bs : List ℕ) → AreBytes bs → from_little_endian k bs < 256 ^ k
unfolding from_little_endian
little_endian_below zero bs h = omega arith
little_endian_below (suc k) [] h = rw pow-succ' (let p = little_endian_below k [] h in omega arith)
little_endian_below (suc k) (b ∷ bs) h =
    let low : b < 256 = h 0 (omega arith) in
    let p = little_endian_below k bs (each_tail IsByte 0 b bs h) in
    rw pow-succ' (omega arith)
