-- A record of edition 2: its refusal field by field, and what one that is not refused holds. Over any number of axes.
-- Assumes nothing.
use Prim.Native.Nat.{ℕ, ◌+◌, ◌*◌, ◌≤◌}
use mathlib.Core.Bool.{Bool}
use mathlib.Core.List.{List}
use mathlib.Core.Option.{none}
use mathlib.Core.Path.{◌≡◌, refl, sym, ap, ◌∙◌}
use native.Mathlib.Nat.{zero-add}
use native.Mathlib.Omega.{arith}
use lib.ListN.{length, length-drop, drop}
use lib.Seq.{drop-drop}
use Rattle.rules.specs.RefusalNumbers.{given}
use Rattle.rules.specs.RefusalNumbers.Entries.{or_else}
use Rattle.rules.specs.TheGridAndItsBounds.{Model, Head, extents_in_bounds}
use Rattle.rules.specs.Fields.{field_size, field_here, contents, sound_here, Reading, field_then}
use Rattle.rules.specs.MapRecord.{extents_tag, extents_length, extents_field, frame_tag, frame_length, frame_field, row_width, row_count}
use Rattle.rules.specs.EditionTwo as E
use Rattle.rules.specs.EditionTwo.{Kept, kept, byte_length, edition_field, cuts_for, open_tag, open_field, marks_running, bands_then, bands_size, row_size, edition_of}
use Rattle.laws.specs.Checks.{InBounds}
use Rattle.fields.proofs.Bytes.{both_l, both_r, whole}
use Rattle.rows.specs.Rows.{refusal_in, unless_sound}
use Rattle.rows.proofs.Answers.{sound_first, sound_next, none_first, none_next, field_refusal, field-on}
use Rattle.record_reader.proofs.Sound.{extents_in_bounds_lem}
use Rattle.edition_reader.specs.Editions.{after_frame, after_bands, bands_broken, bands_here, after_extents, bands_at, frame_at, mark_at, extents_here, head_here, running_here}
use Rattle.edition_reader.proofs.Bands.{bands_part}
use Rattle.edition_reader.proofs.Grids.{grid_refusal, held, grid-on, grid-room}

-- ---- from the frame on
abbrev tail : List ℕ → Model → Reading Kept
tail es m = field_then frame_field (λ frame. field_then open_field (λ x. E.rows_and_end (record { extents = es; model = m; frame = frame }) (marks_running x)))

module _ (es : List ℕ) (m : Model) (offset : ℕ) (rest : List ℕ) where
  abbrev mark : List ℕ
  mark = drop (field_size frame_length) rest

  abbrev rows : List ℕ
  rows = drop (field_size byte_length) mark

  abbrev head : Head
  head = record { extents = es; model = m; frame = contents frame_field rest }

  abbrev running : Bool
  running = marks_running (contents open_field mark)

  tail_refusal : refusal_in (tail es m offset rest) ≡ after_bands m (row_width es) (row_count es) offset rest
  unfolding after_bands after_frame
  tail_refusal =
      field_refusal frame_field _ offset rest
      ∙ ap (unless_sound offset (sound_here frame_field rest))
      (field_refusal open_field _ (offset + field_size frame_length) mark
      ∙ ap (unless_sound (offset + field_size frame_length) (sound_here open_field mark)) (grid_refusal head (offset + field_size frame_length + field_size byte_length) rows running))

  -- what is known where nothing of it is refused
  record TailSound : Type 0 where
    room : field_size frame_length + field_size byte_length + row_count es * row_size running (row_width es) ≤ length rest
    is : tail es m offset rest ≡ given (kept head running (held head rows running))

  tail_sound : after_bands m (row_width es) (row_count es) offset rest ≡ none → TailSound
  unfolding after_bands after_frame
  tail_sound e =
      let first = sound_first offset (sound_here frame_field rest) _ e in
      let e₂ = sound_next offset (sound_here frame_field rest) _ e in
      let second = sound_first (offset + field_size frame_length) (sound_here open_field mark) _ e₂ in
      let e₃ = sound_next (offset + field_size frame_length) (sound_here open_field mark) _ e₂ in
      let at : ℕ = offset + field_size frame_length + field_size byte_length in
      let room = grid-room head at rows running e₃ in
      let here = whole frame_tag frame_length rest (both_l _ _ first) in
      let there = whole open_tag byte_length mark (both_l _ _ second) in
      let d₁ = length-drop (field_size frame_length) rest in
      let d₂ = length-drop (field_size byte_length) mark in
      record {
        room = omega arith;
        is = field-on frame_field _ offset rest first ∙ field-on open_field _ (offset + field_size frame_length) mark second ∙ grid-on head at rows running e₃;
      }

-- ---- the record
module _ (axes : ℕ) (bytes : List ℕ) where
  abbrev es : List ℕ
  es = extents_here axes bytes

  abbrev extents : List ℕ
  extents = drop (field_size byte_length) bytes

  abbrev n : ℕ
  n = cuts_for axes

  -- behind the extents' field, as the fields before it count
  behind_extents_lem : drop (field_size (extents_length axes)) extents ≡ drop (bands_at axes) bytes
  behind_extents_lem = drop-drop (field_size (extents_length axes)) (field_size byte_length) bytes

  after_refusal : (offset : ℕ) (rest : List ℕ) → refusal_in (bands_then n es (tail es) offset rest) ≡ after_extents n es offset rest
  unfolding after_extents
  after_refusal offset rest =
      (bands_part {B = Kept} n es).refusal (tail es) offset rest
      ∙ ap (or_else (bands_broken n es offset rest)) (tail_refusal es (bands_here n es rest) (offset + bands_size n) (drop (bands_size n) rest))

  pub edition_refusal : refusal_in (edition_of axes bytes)
      ≡ unless_sound 0 (sound_here edition_field bytes)
      (unless_sound (field_size byte_length) (sound_here (extents_field axes) (drop (field_size byte_length) bytes))
      (after_extents (cuts_for axes) (extents_here axes bytes) (bands_at axes) (drop (bands_at axes) bytes)))
  unfolding edition_of
  edition_refusal =
      field_refusal edition_field _ 0 bytes
      ∙ ap (unless_sound 0 (sound_here edition_field bytes))
      (rw (zero-add (field_size byte_length))
      (field_refusal (extents_field axes) _ (field_size byte_length) extents
      ∙ ap (unless_sound (field_size byte_length) (sound_here (extents_field axes) extents))
      (after_refusal (bands_at axes) (drop (field_size (extents_length axes)) extents) ∙ ap (after_extents n es (bands_at axes)) behind_extents_lem)))

  -- what is known of a record that is not refused
  pub record Sound : Type 0 where
    pub extents_fit : InBounds (extents_here axes bytes)
    pub room : mark_at axes + field_size byte_length + row_count (extents_here axes bytes) * row_size (running_here axes bytes) (row_width (extents_here axes bytes)) ≤ length bytes
    pub is : edition_of axes bytes ≡ given (kept (head_here axes bytes) (running_here axes bytes)
        (held (head_here axes bytes) (drop (mark_at axes + field_size byte_length) bytes) (running_here axes bytes)))

  pub sound : refusal_in (edition_of axes bytes) ≡ none → Sound
  unfolding edition_of after_extents
  sound h =
      let e₁ = sym edition_refusal ∙ h in
      let first = sound_first 0 (sound_here edition_field bytes) _ e₁ in
      let e₂ = sound_next 0 (sound_here edition_field bytes) _ e₁ in
      let second = sound_first (field_size byte_length) (sound_here (extents_field axes) extents) _ e₂ in
      let e₃ = sound_next (field_size byte_length) (sound_here (extents_field axes) extents) _ e₂ in
      let bands : List ℕ = drop (bands_at axes) bytes in
      let passed = none_first (bands_broken n es (bands_at axes) bands) _ e₃ in
      let m : Model = bands_here n es bands in
      let frame : List ℕ = drop (bands_size n) bands in
      let t = tail_sound es m (bands_at axes + bands_size n) frame (none_next (bands_broken n es (bands_at axes) bands) _ e₃) in
      let d₁ : frame ≡ drop (frame_at axes) bytes = drop-drop (bands_size n) (bands_at axes) bytes in
      let d₂ : drop (field_size frame_length) frame ≡ drop (mark_at axes) bytes =
      ap (drop (field_size frame_length)) d₁ ∙ drop-drop (field_size frame_length) (frame_at axes) bytes in
      let d₃ : drop (field_size byte_length) (drop (field_size frame_length) frame) ≡ drop (mark_at axes + field_size byte_length) bytes =
      ap (drop (field_size byte_length)) d₂ ∙ drop-drop (field_size byte_length) (mark_at axes) bytes in
      let room : field_size frame_length + field_size byte_length + row_count es * row_size (running_here axes bytes) (row_width es) ≤ length frame =
      rw (sym d₂) t.room in
      let l₁ = length-drop (bands_size n) bands in
      let l₂ = length-drop (bands_at axes) bytes in
      record {
        extents_fit = extents_in_bounds_lem es (both_r (field_here extents_tag (extents_length axes) extents) (extents_in_bounds es) second);
        room = omega arith;
        is = field-on edition_field _ 0 bytes first
            ∙ rw (zero-add (field_size byte_length))
            (field-on (extents_field axes) _ (field_size byte_length) extents second
            ∙ rw behind_extents_lem
            ((bands_part {B = Kept} n es).on (tail es) (bands_at axes) bands passed
            ∙ t.is
            ∙ rw (d₃, d₂, d₁) refl));
      }
