-- Trying and reading a record by the width and the number of its rows. Over any number of axes. Assumes nothing.
use Prim.Native.Nat.{ℕ, ◌+◌, ◌*◌, ◌≤◌}
use mathlib.Core.Bool.{Bool, true, false}
use mathlib.Core.Logic.{◌⊎◌, inl, inr}
use mathlib.Core.Option.{some, none}
use mathlib.Core.List.{List, []}
use mathlib.Core.Path.{◌≡◌, refl, sym, ap, ap₂, ◌∙◌}
use native.Mathlib.Nat.{mul_comm}
use native.Mathlib.Omega.{arith}
use lib.Ieee.{Float}
use lib.ListN.{length, replicate, drop}
use lib.Seq.{sets, drop-drop}
use borrow.Author.Tests.{eq-eqb, ne_eqb}
use Rattle.rules.specs.RefusalNumbers.{Refusal, given, refused, bad_cuts, bad_buffer, broken_record}
use Rattle.rules.specs.RefusalNumbers.Entries.{Outcome, read_record_entry}
use Rattle.rules.specs.TheGridAndItsBounds.{Model, Head, Grid, one_per_cell, cells, cuts_below, cuts_in_bounds}
use Rattle.rules.specs.Fields.{field_size, contents, sound_here}
use Rattle.rules.specs.MapRecord.{extents_length, extents_field, model_length, model_field, frame_length, frame_field, row_length, model_with_cuts, record_of, rows_offset}
use Rattle.marks.specs.Marking.{grid_of}
use Rattle.rows.proofs.Shapes.{Shape}
use Rattle.rows.specs.Rows.{refusal_in, unless_sound, odds_at, rows_refusal}
use Rattle.rows.proofs.Odds.{length_rows, sets-whole}
use Rattle.record_reader.specs.Reading.{end_refusal, rows_and_end, after_extents, extents_here, stored_in}
use Rattle.record_reader.proofs.Sound.{Sound, record_refusal}

-- ---- trying a record, field by field
module _ (axes : ℕ) (bytes : List ℕ) where
  pub extents_off : sound_here (extents_field axes) bytes ≡ false → refusal_in (record_of axes bytes) ≡ some (broken_record 0)
  extents_off e = record_refusal axes bytes ∙ rw e refl

  pub extents_held : (width count : ℕ) → Shape (extents_here axes bytes) width count → sound_here (extents_field axes) bytes ≡ true
      → refusal_in (record_of axes bytes) ≡ after_extents width count (field_size (extents_length axes)) (drop (field_size (extents_length axes)) bytes)
  extents_held width count s e = record_refusal axes bytes ∙ rw (e, s.width_is, s.count_is) refl

module _ (width count at : ℕ) (bs : List ℕ) where
  abbrev frame_at : ℕ
  frame_at = at + field_size model_length

  after_is : after_extents width count at (drop at bs)
      ≡ unless_sound at (sound_here model_field (drop at bs))
      (unless_sound (at + field_size model_length) (sound_here frame_field (drop (at + field_size model_length) bs))
      (rows_and_end (contents model_field (drop at bs)) width count (at + field_size model_length + field_size frame_length) (drop (at + field_size model_length + field_size frame_length) bs)))
  unfolding after_extents
  after_is = rw (drop-drop (field_size model_length) at bs, drop-drop (field_size frame_length) frame_at bs) refl

  pub model_off : sound_here model_field (drop at bs) ≡ false → after_extents width count at (drop at bs) ≡ some (broken_record at)
  model_off e = after_is ∙ rw e refl

  pub frame_off : sound_here model_field (drop at bs) ≡ true → sound_here frame_field (drop (at + field_size model_length) bs) ≡ false
      → after_extents width count at (drop at bs) ≡ some (broken_record (at + field_size model_length))
  frame_off e h = after_is ∙ rw (e, h) refl

  pub rows_next : (m : Model) → m ≡ contents model_field (drop at bs) → sound_here model_field (drop at bs) ≡ true
      → sound_here frame_field (drop (at + field_size model_length) bs) ≡ true
      → after_extents width count at (drop at bs)
      ≡ rows_and_end m width count (at + field_size model_length + field_size frame_length) (drop (at + field_size model_length + field_size frame_length) bs)
  rows_next m k e h = after_is ∙ rw (e, h, k) refl

module _ (m : Model) (width count at : ℕ) (bs : List ℕ) where
  pub rows_off : (r : Refusal) → some r ≡ rows_refusal m width count at (drop at bs) → some r ≡ rows_and_end m width count at (drop at bs)
  unfolding rows_and_end
  rows_off r e = rw (sym e) refl

  pub end_next : none ≡ rows_refusal m width count at (drop at bs)
      → end_refusal (at + count * field_size (row_length width)) (drop (at + count * field_size (row_length width)) bs) ≡ rows_and_end m width count at (drop at bs)
  unfolding rows_and_end
  end_next e = rw (sym e, drop-drop (count * field_size (row_length width)) at bs) refl

-- ---- reading a sound one
-- where the rows begin, as the code counts
abbrev rows_at : ℕ → ℕ
rows_at axes = field_size (extents_length axes) + field_size model_length + field_size frame_length

pub head-fits : (axes : ℕ) (bytes : List ℕ) → Sound axes bytes → field_size (extents_length axes) + field_size model_length + field_size frame_length ≤ length bytes
unfolding rows_offset
head-fits axes bytes s = let r = s.rows in omega arith

-- whether the cuts that were given fit what the record holds
abbrev pub cuts_fit : ℕ → List ℕ → List ℕ → Bool
cuts_fit axes cuts bytes = cuts_in_bounds (extents_here axes bytes) (model_with_cuts (extents_here axes bytes) cuts (contents model_field (drop (field_size (extents_length axes)) bytes)))

pub no_cuts : (axes : ℕ) (bytes : List ℕ) → cuts_fit axes [] bytes ≡ true
unfolding cuts_in_bounds cuts_below
no_cuts axes bytes = refl

-- the same by the model as the code finds it
pub fit_found : (axes : ℕ) (bytes cuts : List ℕ) (b : Bool) (extents : List ℕ) (model : Model) → extents ≡ extents_here axes bytes
    → model ≡ model_with_cuts (extents_here axes bytes) cuts (contents model_field (drop (field_size (extents_length axes)) bytes))
    → b ≡ cuts_in_bounds extents model → cuts_fit axes cuts bytes ≡ b
fit_found axes bytes cuts b extents model e m h = sym (h ∙ ap₂ cuts_in_bounds e m)

pub cuts_wrong : (axes : ℕ) (bytes : List ℕ) → Sound axes bytes → (cuts : List ℕ) (odds : List Float) (stamps : List ℕ) → cuts_fit axes cuts bytes ≡ false
    → ◌≡◌ {A = Outcome Head Grid} (record { answer = refused bad_cuts; lent = grid_of odds stamps }) (read_record_entry axes cuts bytes (grid_of odds stamps))
unfolding read_record_entry stored_in
cuts_wrong axes bytes s cuts odds stamps e = rw (s.is, e) refl

-- by what the code finds: where the model stands, what it is, and what it is with the cuts on the extents
module _ (axes : ℕ) (bytes cuts : List ℕ) {start : ℕ} {extents : List ℕ} {m laid : Model}
    (starts : start ≡ field_size (extents_length axes)) (held : extents ≡ extents_here axes bytes)
    (stands : m ≡ contents model_field (drop start bytes)) (lies : laid ≡ model_with_cuts extents cuts m) where
  pub laid_found : laid ≡ model_with_cuts (extents_here axes bytes) cuts (contents model_field (drop (field_size (extents_length axes)) bytes))
  laid_found =
      lies ∙ ap₂ (λ (es : List ℕ) (n : Model). model_with_cuts es cuts n) held (stands ∙ ap (λ (i : ℕ). contents model_field (drop i bytes)) starts)

  pub laid_fits : (b : Bool) → b ≡ cuts_in_bounds extents laid → cuts_fit axes cuts bytes ≡ b
  laid_fits b h = fit_found axes bytes cuts b extents laid held laid_found h

module _ (axes : ℕ) (bytes : List ℕ) (s : Sound axes bytes) where
  pub rows_fit : (width count : ℕ) → Shape (extents_here axes bytes) width count
      → field_size (extents_length axes) + field_size model_length + field_size frame_length + count * field_size (row_length width) ≤ length bytes
  unfolding rows_offset
  rows_fit width count shape = let r = rw (shape.width_is, shape.count_is) at s.rows in omega arith

  -- with cuts that fit, by the number of cells
  module _ (cuts : List ℕ) (odds : List Float) (stamps : List ℕ) (fit : cuts_fit axes cuts bytes ≡ true) (n : ℕ) (each : n ≡ cells (extents_here axes bytes)) where
    pub lists_wrong : ((length odds ≡ n → ⊥) ⊎ ((length odds ≡ n) × (length stamps ≡ n → ⊥)))
        → ◌≡◌ {A = Outcome Head Grid} (record { answer = refused bad_buffer; lent = grid_of odds stamps }) (read_record_entry axes cuts bytes (grid_of odds stamps))
    unfolding read_record_entry stored_in one_per_cell
    lists_wrong (inl h) = rw (s.is, fit, sym each, ne_eqb (length odds) n h) refl
    lists_wrong (inr h) = rw (s.is, fit, sym each, eq-eqb (length odds) n h.0, ne_eqb (length stamps) n h.1) refl

    pub all_read : (width count : ℕ) → Shape (extents_here axes bytes) width count
        → (extents : List ℕ) (model : Model) (frame : ℕ) (odds' : List Float) (stamps' : List ℕ)
        → length odds ≡ n → length stamps ≡ n
        → extents ≡ extents_here axes bytes
        → model ≡ model_with_cuts (extents_here axes bytes) cuts (contents model_field (drop (field_size (extents_length axes)) bytes))
        → frame ≡ contents frame_field (drop (field_size (extents_length axes) + field_size model_length) bytes)
        → odds' ≡ sets odds 0 (odds_at width count (drop (field_size (extents_length axes) + field_size model_length + field_size frame_length) bytes))
        → stamps' ≡ replicate (length stamps) 0
        → ◌≡◌ {A = Outcome Head Grid} (record { answer = given (record { extents = extents; model = model; frame = frame }); lent = grid_of odds' stamps' })
        (read_record_entry axes cuts bytes (grid_of odds stamps))
    unfolding read_record_entry stored_in one_per_cell
    all_read width count shape extents model frame odds' stamps' one one' e m k o t =
        let start : ℕ = field_size (extents_length axes) in
        let stored : odds' ≡ odds_at width count (drop (rows_at axes) bytes) =
        o ∙ sets-whole (odds_at width count (drop (rows_at axes) bytes)) odds
        (length_rows width count (drop (rows_at axes) bytes) ∙ mul_comm count width ∙ sym shape.cells_are ∙ sym each ∙ sym one) in
        rw (
          s.is,
          fit,
          sym each,
          eq-eqb (length odds) n one,
          eq-eqb (length stamps) n one',
          drop-drop (field_size model_length) start bytes,
          drop-drop (field_size frame_length) (start + field_size model_length) bytes,
          shape.width_is,
          shape.count_is,
          e,
          m,
          k,
          stored,
          t,
        ) refl
