-- The move up of a sound record of edition 1, by what the code finds. Over any number of axes. Assumes nothing.
use Prim.Native.Nat.{ℕ, ◌+◌, ◌*◌, ◌≤◌, ◌<◌}
use mathlib.Core.Bool.{true, false}
use mathlib.Core.List.{List, ◌++◌}
use mathlib.Core.Path.{◌≡◌, refl, ◌∙◌}
use native.Mathlib.Omega.{arith}
use lib.ListN.{length, length-append, take, drop}
use lib.Seq.{sets, length-take-le}
use Rattle.rules.specs.RefusalNumbers.{given, refused, no_room}
use Rattle.rules.specs.RefusalNumbers.Entries.{Outcome}
use Rattle.rules.specs.RefusalNumbers.Editions.{upgrade_entry}
use Rattle.rules.specs.TheGridAndItsBounds.{Model}
use Rattle.rules.specs.Fields.{little_endian, field, field_size, contents}
use Rattle.rules.specs.MapRecord.{Stored, extents_length, model_length, model_field, frame_length, model_with_cuts, with_cuts}
use Rattle.rules.specs.EditionTwo.{byte_length, cuts_for, bands_size, bands_bytes, edition_size}
use Rattle.record_laws.specs.Words.{AreBytes}
use Rattle.record_laws.specs.Read.{read_sound}
use Rattle.record_laws.specs.EditionTwo.Written.{bands-length}
use Rattle.record_reader.specs.Reading.{extents_here, stored_in}
use Rattle.record_reader.proofs.Sound.{Sound}
use Rattle.record_reader.proofs.Taken.{cuts_fit, head-fits}
use Rattle.editions.proofs.Runs.{three_runs}
use Rattle.editions.proofs.Pieces.{edition, closed_mark, moved_up, sizes}
use Rattle.editions.proofs.Moved.{length_up, up_no_room, up_done}

module _ (axes : ℕ) (bytes cuts out : List ℕ) (s : Sound axes bytes) (some : 0 < axes) (fit : cuts_fit axes cuts bytes ≡ true)
    (more : ℕ) (so_many : more + field_size model_length ≡ 2 * field_size byte_length + bands_size (cuts_for axes)) where
  abbrev stored : Stored
  stored = stored_in axes bytes

  size_is : edition_size (stored_in axes bytes).head.extents false ≡ length bytes + more
  size_is =
      let r = read_sound axes bytes stored some s.is in
      let all = sizes stored.head.extents axes r.axes_are in
      let one = r.size_is in
      omega arith

  pub too_small : length out < length bytes + more
      → ◌≡◌ {A = Outcome ℕ (List ℕ)} (record { answer = refused (no_room (length bytes + more)); lent = out }) (upgrade_entry axes cuts bytes out)
  unfolding stored_in
  too_small l = up_no_room axes cuts bytes stored s.is out fit (length bytes + more) size_is l

  -- where the extents' field ends, how many bytes the bands have, and the model on the extents
  module _ (start size : ℕ) (starts : start ≡ field_size (extents_length axes)) (sized : size ≡ bands_size (cuts_for axes))
      (laid : Model) (lies : laid ≡ model_with_cuts (extents_here axes bytes) cuts (contents model_field (drop (field_size (extents_length axes)) bytes)))
      (above : length laid.above ≡ cuts_for axes) where
    abbrev place : ℕ
    place = start + field_size model_length

    abbrev rest : List ℕ
    rest = take (field_size frame_length) (drop place bytes) ++ closed_mark ++ drop (place + field_size frame_length) bytes

    pub moved : length bytes + more ≤ length out → AreBytes bytes → (out₁ out₂ out₃ : List ℕ)
        → out₁ ≡ sets out 0 (edition ++ take start bytes)
        → out₂ ≡ sets out₁ (field_size byte_length + start) (bands_bytes laid)
        → out₃ ≡ sets out₂ (field_size byte_length + start + size) (take (field_size frame_length) (drop (start + field_size model_length) bytes)
        ++ closed_mark ++ drop (start + field_size model_length + field_size frame_length) bytes)
        → ◌≡◌ {A = Outcome ℕ (List ℕ)} (record { answer = given (length bytes + more); lent = out₃ }) (upgrade_entry axes cuts bytes out)
    unfolding stored_in field little_endian
    moved room held out₁ out₂ out₃ a b c =
        let r = read_sound axes bytes stored some s.is in
        let fits = head-fits axes bytes s in
        let bands = bands-length (cuts_for axes) laid above in
        let first = length-append edition (take start bytes) in
        let short = length-take-le start bytes (omega arith) in
        let known : length edition ≡ field_size byte_length = refl in
        let at : ℕ = field_size byte_length + start in
        let stores = three_runs (edition ++ take start bytes) (bands_bytes laid) rest out out₁ out₂ out₃ 0 at (at + size) a b c (omega arith) (omega arith) in
        let many = length_up start place bytes (bands_bytes laid) (omega arith) (omega arith) in
        up_done axes cuts bytes stored s.is out fit (length bytes + more) size_is room ((edition ++ take start bytes) ++ bands_bytes laid ++ rest) out₃
        (moved_up axes bytes stored s.is held r.axes_are (with_cuts cuts stored.head) refl refl ∙ rw (starts, lies) refl)
        (omega arith) stores
