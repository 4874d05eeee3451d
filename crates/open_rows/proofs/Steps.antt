-- The stamps of a row, one step at a time: what a loop over them has left. Assumes nothing.
use Prim.Native.Nat.{ℕ, zero, suc, ◌+◌, ◌-◌, ◌*◌, ◌<◌}
use mathlib.Core.Bool.{cond, ◌&&◌}
use mathlib.Core.List.{List, [], ◌∷◌}
use mathlib.Core.Path.{◌≡◌, refl, ap, ◌∙◌}
use native.Mathlib.Omega.{arith}
use lib.Bits.{bit_or}
use lib.Dec.{ltb, leb}
use lib.ListN.{length, get_or, drop}
use lib.Seq.{drop-drop}
use Rattle.std.proofs.lemmas.List.{at_drop_more}
use Rattle.rules.specs.MarksAndFrames.{frame_of}
use Rattle.rules.specs.Fields.{from_little_endian}
use Rattle.rules.specs.EditionTwo.{stamps_in, none_above}
use Rattle.rows.proofs.Seen.{one_more_marked, no_more}

pub stamps_step : (n i at : ℕ) (bs : List ℕ) → i < n
    → stamps_in (n - i) (drop (at + 4 * i) bs) ≡ from_little_endian 4 (drop (at + 4 * i) bs) ∷ stamps_in (n - (i + 1)) (drop (at + 4 * (i + 1)) bs)
unfolding stamps_in
stamps_step n i at bs h =
    let e : n - i ≡ suc (n - (i + 1)) = omega arith in
    let k : at + 4 * i + 4 ≡ at + 4 * (i + 1) = omega arith in
    rw (e, drop-drop 4 (at + 4 * i) bs, k) refl

pub length-stamps : (n : ℕ) (bs : List ℕ) → length (stamps_in n bs) ≡ n
unfolding stamps_in
length-stamps zero bs = refl
length-stamps (suc n) bs = ap suc (length-stamps n (drop 4 bs))

-- ---- the marks of stamps: below the highest bit exactly if the frame is none above; a loop's step, and its end
abbrev pub highest : ℕ
highest = 0x8000_0000

module _ (frame seen : ℕ) where
  stamp_seen : (s : ℕ) (ss : List ℕ) → (ltb seen highest && none_above frame (s ∷ ss))
      ≡ (ltb (bit_or seen (cond (leb (frame_of s) frame) 0 highest)) highest && none_above frame ss)
  unfolding none_above
  stamp_seen s ss = one_more_marked 31 seen (leb (frame_of s) frame) (none_above frame ss)

  pub lent_seen : (i : ℕ) (stamps : List ℕ) → i < length stamps
      → (ltb seen highest && none_above frame (drop i stamps))
      ≡ (ltb (bit_or seen (cond (leb (frame_of (get_or stamps i 0)) frame) 0 highest)) highest && none_above frame (drop (i + 1) stamps))
  lent_seen i stamps h =
      at_drop_more (λ (ss : List ℕ). ltb seen highest && none_above frame ss) stamps i 0 h ∙ stamp_seen (get_or stamps i 0) (drop (i + 1) stamps)

  pub stored_seen : (n i at : ℕ) (bytes : List ℕ) → i < n
      → (ltb seen highest && none_above frame (stamps_in (n - i) (drop (at + 4 * i) bytes)))
      ≡ (ltb (bit_or seen (cond (leb (frame_of (from_little_endian 4 (drop (at + 4 * i) bytes))) frame) 0 highest)) highest
      && none_above frame (stamps_in (n - (i + 1)) (drop (at + 4 * (i + 1)) bytes)))
  stored_seen n i at bytes h =
      ap (λ (ss : List ℕ). ltb seen highest && none_above frame ss) (stamps_step n i at bytes h)
      ∙ stamp_seen (from_little_endian 4 (drop (at + 4 * i) bytes)) (stamps_in (n - (i + 1)) (drop (at + 4 * (i + 1)) bytes))

  pub all_seen : (ltb seen highest && none_above frame []) ≡ ltb seen highest
  unfolding none_above
  all_seen = no_more 31 seen
