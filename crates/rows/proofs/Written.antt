-- The rows of a list of odds as bytes, one step at a time: what a loop over them has left. Assumes nothing.
use Prim.Native.Nat.{ℕ, zero, suc, ◌+◌, ◌-◌, ◌*◌, ◌≤◌, ◌<◌}
use mathlib.Core.List.{List, ◌++◌}
use mathlib.Core.Path.{◌≡◌, refl, ap, ◌∙◌}
use native.Mathlib.Nat.{suc-mul}
use native.Mathlib.Omega.{arith}
use lib.Ieee.{Float}
use lib.ListN.{length, length-append, take, drop}
use lib.Seq.{drop-drop}
use Rattle.rules.specs.TheGridAndItsBounds.{Model}
use Rattle.rules.specs.Fields.{float_bytes, field_size, field, rows_of, rows_tried}
use Rattle.rules.specs.MapRecord.{row_tag, row_length, odds_in_bounds, rows_bytes, rows_checked}
use Rattle.fields.proofs.Floats.{length_cut, length_float_bytes, length-field}
use Rattle.rows.specs.Rows.{refusal_in, unless_sound}
use Rattle.rows.proofs.Answers.{sound_then}

-- ---- all rows
module _ (w : ℕ) where
  -- the field of the row `&odds[at..at + w]`
  abbrev pub row : ℕ → List Float → List ℕ
  row at odds = field row_tag (float_bytes (take (at + w - at) (drop at odds)))

  pub length_row : (at : ℕ) (odds : List Float) → at + w ≤ length odds → length (row at odds) ≡ field_size (row_length w)
  length_row at odds h =
      length-field row_tag (float_bytes (take (at + w - at) (drop at odds)))
      ∙ ap field_size (length_float_bytes (take (at + w - at) (drop at odds)) ∙ ap (λ (k : ℕ). 8 * k) (length_cut w at odds h))

  pub rows_bytes_step : (n i at : ℕ) (odds : List Float) → i < n → rows_bytes w (n - i) (drop at odds) ≡ row at odds ++ rows_bytes w (n - (i + 1)) (drop (at + w) odds)
  unfolding rows_bytes rows_of
  rows_bytes_step n i at odds h =
      let e : n - i ≡ suc (n - (i + 1)) = omega arith in
      let k : at + w - at ≡ w = omega arith in
      rw (e, k, drop-drop w at odds) refl

  pub length_rows_bytes : (n at : ℕ) (odds : List Float) → at + n * w ≤ length odds → length (rows_bytes w n (drop at odds)) ≡ n * field_size (row_length w)
  unfolding rows_bytes rows_of
  length_rows_bytes zero at odds h = omega arith
  length_rows_bytes (suc n) at odds h =
      let k : at + w - at ≡ w = omega arith in
      let s = suc-mul n w in
      let t = suc-mul n (field_size (row_length w)) in
      let a : length (field row_tag (float_bytes (take w (drop at odds)))) ≡ field_size (row_length w) = rw k at (length_row at odds (omega arith)) in
      let b = length_rows_bytes n (at + w) odds (omega arith) in
      length-append (field row_tag (float_bytes (take w (drop at odds)))) (rows_bytes w n (drop w (drop at odds)))
      ∙ rw (drop-drop w at odds) (omega arith)

  -- ---- tried before they are written
  pub checked_step : (m : Model) (n i offset at : ℕ) (odds : List Float) → i < n
      → refusal_in (rows_checked m w (n - i) offset (drop at odds))
      ≡ unless_sound offset (odds_in_bounds m (take (at + w - at) (drop at odds)))
      (refusal_in (rows_checked m w (n - (i + 1)) (offset + field_size (row_length w)) (drop (at + w) odds)))
  unfolding rows_checked rows_tried
  checked_step m n i offset at odds h =
      let e : n - i ≡ suc (n - (i + 1)) = omega arith in
      let k : at + w - at ≡ w = omega arith in
      rw (e, k, drop-drop w at odds)
      (sound_then offset (odds_in_bounds m (take w (drop at odds))) tt (λ (t : Unit {0}). rows_checked m w (n - (i + 1)) (offset + field_size (row_length w)) (drop (at + w) odds)))
