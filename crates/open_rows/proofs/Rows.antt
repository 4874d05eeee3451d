-- The rows of an open record, one step at a time: what a loop over them has left. Assumes nothing.
use Prim.Native.Nat.{ℕ, zero, suc, ◌+◌, ◌-◌, ◌*◌, ◌≤◌, ◌<◌}
use mathlib.Core.Bool.{true, false}
use mathlib.Core.List.{List, ◌++◌}
use mathlib.Core.Path.{◌≡◌, refl, ◌∙◌}
use native.Mathlib.Nat.{suc-mul}
use native.Mathlib.Omega.{arith}
use lib.Ieee.{Float}
use lib.ListN.{length, length-append, take, drop}
use lib.Seq.{drop-drop}
use Rattle.rules.specs.RefusalNumbers.{and_then}
use Rattle.rules.specs.TheGridAndItsBounds.{Model, Grid}
use Rattle.rules.specs.Fields.{floats_in, head_size, field_size, field, sound_here, sound_or, rows_of, rows_tried}
use Rattle.rules.specs.MapRecord.{row_length, row_field, odds_in_bounds}
use Rattle.rules.specs.EditionTwo.{stamps_tag, stamps_length, stamps_in, stamp_bytes, none_above, stamps_field, row_size, row_bytes, behind_row, grid_bytes, grid_tried}
use Rattle.marks.specs.Marking.{grid_of}
use Rattle.fields.proofs.Floats.{length_cut, length_stamp_bytes, length-field}
use Rattle.rows.specs.Rows.{refusal_in, unless_sound}
use Rattle.rows.proofs.Odds.{length_floats}
use Rattle.rows.proofs.Written.{row, length_row}
use Rattle.open_rows.specs.OpenRows.{open_odds, open_stamps, open_refusal}
use Rattle.open_rows.proofs.Steps.{length-stamps}

-- ---- tried in a record
module _ (m : Model) (frame w : ℕ) where
  -- the first of the rows that are left, and those after it, with the offsets as a loop counts them
  pub open_left : (n i at : ℕ) (bs : List ℕ) → i < n
      → open_refusal m frame w (n - i) at (drop at bs)
      ≡ unless_sound at (sound_here (row_field m w) (drop at bs))
      (unless_sound (at + field_size (row_length w)) (sound_here (stamps_field frame w) (drop (at + field_size (row_length w)) bs))
      (open_refusal m frame w (n - (i + 1)) (at + field_size (row_length w) + field_size (stamps_length w))
      (drop (at + field_size (row_length w) + field_size (stamps_length w)) bs)))
  unfolding open_refusal
  open_left n i at bs h =
      let e : n - i ≡ suc (n - (i + 1)) = omega arith in
      let k : at + row_size true w ≡ at + field_size (row_length w) + field_size (stamps_length w) = omega arith in
      rw (e, drop-drop (field_size (row_length w)) at bs, drop-drop (row_size true w) at bs, k) refl

-- ---- read from a record
module _ (w : ℕ) where
  pub odds-left : (n i at : ℕ) (bs : List ℕ) → i < n
      → open_odds w (n - i) (drop at bs)
      ≡ floats_in w (drop (at + head_size) bs) ++ open_odds w (n - (i + 1)) (drop (at + field_size (row_length w) + field_size (stamps_length w)) bs)
  unfolding open_odds
  odds-left n i at bs h =
      let e : n - i ≡ suc (n - (i + 1)) = omega arith in
      let k : at + row_size true w ≡ at + field_size (row_length w) + field_size (stamps_length w) = omega arith in
      rw (e, drop-drop head_size at bs, drop-drop (row_size true w) at bs, k) refl

  pub stamps-left : (n i at : ℕ) (bs : List ℕ) → i < n
      → open_stamps w (n - i) (drop at bs)
      ≡ stamps_in w (drop (at + field_size (row_length w) + head_size) bs) ++ open_stamps w (n - (i + 1)) (drop (at + field_size (row_length w) + field_size (stamps_length w)) bs)
  unfolding open_stamps
  stamps-left n i at bs h =
      let e : n - i ≡ suc (n - (i + 1)) = omega arith in
      let j : at + (field_size (row_length w) + head_size) ≡ at + field_size (row_length w) + head_size = omega arith in
      let k : at + row_size true w ≡ at + field_size (row_length w) + field_size (stamps_length w) = omega arith in
      rw (e, drop-drop (field_size (row_length w) + head_size) at bs, drop-drop (row_size true w) at bs, j, k) refl

  pub length-odds : (n : ℕ) (bs : List ℕ) → length (open_odds w n bs) ≡ n * w
  unfolding open_odds
  length-odds zero bs = omega arith
  length-odds (suc n) bs =
      length-append (floats_in w (drop head_size bs)) (open_odds w n (drop (row_size true w) bs))
      ∙ (let a = length_floats w (drop head_size bs) in let b = length-odds n (drop (row_size true w) bs) in let c = suc-mul n w in omega arith)

  pub length-all-stamps : (n : ℕ) (bs : List ℕ) → length (open_stamps w n bs) ≡ n * w
  unfolding open_stamps
  length-all-stamps zero bs = omega arith
  length-all-stamps (suc n) bs =
      length-append (stamps_in w (drop (field_size (row_length w) + head_size) bs)) (open_stamps w n (drop (row_size true w) bs))
      ∙ (let a = length-stamps w (drop (field_size (row_length w) + head_size) bs) in let b = length-all-stamps n (drop (row_size true w) bs) in let c = suc-mul n w in omega arith)

  -- ---- written
  abbrev pub from : ℕ → List Float → List ℕ → Grid
  from at odds stamps = grid_of (drop at odds) (drop at stamps)

  -- the fields of the rows `&odds[at..at + w]` and `&stamps[at..at + w]`
  abbrev pub open_row : ℕ → List Float → List ℕ → List ℕ
  open_row at odds stamps = row w at odds ++ field stamps_tag (stamp_bytes (take (at + w - at) (drop at stamps)))

  pub length_open_row : (at : ℕ) (odds : List Float) (stamps : List ℕ) → at + w ≤ length odds → at + w ≤ length stamps
      → length (open_row at odds stamps) ≡ row_size true w
  length_open_row at odds stamps h k =
      let a = length_row w at odds h in
      let b = length-field stamps_tag (stamp_bytes (take (at + w - at) (drop at stamps))) in
      let c = length_stamp_bytes (take (at + w - at) (drop at stamps)) in
      let d = length_cut w at stamps k in
      length-append (row w at odds) (field stamps_tag (stamp_bytes (take (at + w - at) (drop at stamps)))) ∙ omega arith

  pub bytes_left : (n i at : ℕ) (odds : List Float) (stamps : List ℕ) → i < n
      → grid_bytes true w (n - i) (from at odds stamps) ≡ open_row at odds stamps ++ grid_bytes true w (n - (i + 1)) (from (at + w) odds stamps)
  unfolding grid_bytes rows_of
  bytes_left n i at odds stamps h =
      let e : n - i ≡ suc (n - (i + 1)) = omega arith in
      let k : at + w - at ≡ w = omega arith in
      rw (e, k, drop-drop w at odds, drop-drop w at stamps) refl

  pub length_grid_bytes : (n at : ℕ) (odds : List Float) (stamps : List ℕ) → at + n * w ≤ length odds → at + n * w ≤ length stamps
      → length (grid_bytes true w n (from at odds stamps)) ≡ n * row_size true w
  unfolding grid_bytes rows_of
  length_grid_bytes zero at odds stamps h k = omega arith
  length_grid_bytes (suc n) at odds stamps h k =
      let cut : at + w - at ≡ w = omega arith in
      let s = suc-mul n w in
      let t = suc-mul n (row_size true w) in
      let a : length (row_bytes true w (from at odds stamps)) ≡ row_size true w = rw cut at (length_open_row at odds stamps (omega arith) (omega arith)) in
      let b = length_grid_bytes n (at + w) odds stamps (omega arith) (omega arith) in
      length-append (row_bytes true w (from at odds stamps)) (grid_bytes true w n (behind_row w (from at odds stamps)))
      ∙ rw (drop-drop w at odds, drop-drop w at stamps) (omega arith)

  -- ---- tried before they are written
  pub tried-left : (m : Model) (frame n i offset at : ℕ) (odds : List Float) (stamps : List ℕ) → i < n
      → refusal_in (grid_tried true m frame w (n - i) offset (from at odds stamps))
      ≡ unless_sound offset (odds_in_bounds m (take (at + w - at) (drop at odds)))
      (unless_sound (offset + field_size (row_length w)) (none_above frame (take (at + w - at) (drop at stamps)))
      (refusal_in (grid_tried true m frame w (n - (i + 1)) (offset + field_size (row_length w) + field_size (stamps_length w)) (from (at + w) odds stamps))))
  unfolding grid_tried rows_tried
  tried-left m frame n i offset at odds stamps h =
      let e : n - i ≡ suc (n - (i + 1)) = omega arith in
      let j : at + w - at ≡ w = omega arith in
      let k : offset + row_size true w ≡ offset + field_size (row_length w) + field_size (stamps_length w) = omega arith in
      rw (e, j) (by_tests (odds_in_bounds m (take w (drop at odds))) (none_above frame (take w (drop at stamps)))
      ∙ rw (drop-drop w at odds, drop-drop w at stamps, k) refl)
    where
      by_tests : (x y : _)
          → refusal_in (and_then (and_then (sound_or offset x tt) (λ (t : Unit {0}). sound_or (offset + field_size (row_length w)) y tt))
          (λ (t : Unit {0}). grid_tried true m frame w (n - (i + 1)) (offset + row_size true w) (behind_row w (from at odds stamps))))
          ≡ unless_sound offset x
          (unless_sound (offset + field_size (row_length w)) y (refusal_in (grid_tried true m frame w (n - (i + 1)) (offset + row_size true w) (behind_row w (from at odds stamps)))))
      by_tests true true = refl
      by_tests true false = refl
      by_tests false y = refl
