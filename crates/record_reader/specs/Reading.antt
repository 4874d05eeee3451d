-- A record's refusal without its contents, which a first pass over the bytes finds; and its contents without the
-- refusals, which a second pass takes. From the model on, the first needs of the extents only the width and the number
-- of the rows. Definitions only.
use Rattle.std.specs.Prelude.{ℕ, ◌+◌, ◌*◌, List, drop}
use Rattle.std.proofs.Math.Option.{Option}
use Rattle.rules.specs.RefusalNumbers.{Refusal}
use Rattle.rules.specs.RefusalNumbers.Entries.{or_else}
use Rattle.rules.specs.TheGridAndItsBounds.{Model}
use Rattle.rules.specs.Fields.{field_size, contents, sound_here}
use Rattle.rules.specs.MapRecord.{Stored, extents_length, extents_field, model_length, model_field, frame_length, frame_field, row_length, row_width, row_count, end_then}
use Rattle.rows.specs.Rows.{refusal_in, unless_sound, odds_at, rows_refusal}

-- the end's
abbrev pub end_refusal : ℕ → List ℕ → Option Refusal
end_refusal offset rest = refusal_in (end_then {B = Unit {0}} tt offset rest)

-- the rows', then the end's
unfoldable pub rows_and_end : Model → ℕ → ℕ → ℕ → List ℕ → Option Refusal
rows_and_end m width count offset rest =
    let size : ℕ = count * field_size (row_length width) in
    or_else (rows_refusal m width count offset rest) (end_refusal (offset + size) (drop size rest))

-- the model's, the frame's, then those of the rows and the end
unfoldable pub after_extents : ℕ → ℕ → ℕ → List ℕ → Option Refusal
after_extents width count offset rest =
    let frame : List ℕ = drop (field_size model_length) rest in
    let frame_at : ℕ = offset + field_size model_length in
    unless_sound offset (sound_here model_field rest)
    (unless_sound frame_at (sound_here frame_field frame)
    (rows_and_end (contents model_field rest) width count (frame_at + field_size frame_length) (drop (field_size frame_length) frame)))

-- what a record of so many axes holds, where it is none that is refused
abbrev pub extents_here : ℕ → List ℕ → List ℕ
extents_here axes bytes = contents (extents_field axes) bytes

unfoldable pub stored_in : ℕ → List ℕ → Stored
stored_in axes bytes =
    let es : List ℕ = extents_here axes bytes in
    let model : List ℕ = drop (field_size (extents_length axes)) bytes in
    let frame : List ℕ = drop (field_size model_length) model in
    record {
      head = record { extents = es; model = contents model_field model; frame = contents frame_field frame };
      odds = odds_at (row_width es) (row_count es) (drop (field_size frame_length) frame);
    }
