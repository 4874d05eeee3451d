-- What writing a record answers, with the bytes as they stand afterwards; and its last two refusals by the rows' width
-- and number. Definitions only.
use Rattle.std.specs.Prelude.{ℕ, ◌+◌, ◌*◌, cond, List, [], ◌++◌, leb, Float, Result}
use Rattle.std.proofs.Math.Option.{Option, some, none}
use Rattle.rules.specs.RefusalNumbers.{Answer, given, refused, and_then, no_room}
use Rattle.rules.specs.RefusalNumbers.Entries.{Outcome}
use Rattle.rules.specs.TheGridAndItsBounds.{Model, plain_model}
use Rattle.rules.specs.Fields.{little_endian, word_size, field, field_size}
use Rattle.rules.specs.MapRecord.{model_tag, model_bytes, frame_tag, row_length, end_tag, end_length, rows_bytes, rows_checked, equal_pairs}
use Rattle.types.specs.Answers.{count_answer}
use Rattle.types.specs.declared.refusal.Refusal.{Refusal}

abbrev pub write_outcome : Result ℕ Refusal → List ℕ → Outcome ℕ (List ℕ)
write_outcome r out = record { answer = count_answer r; lent = out }

-- the model that edition 1 keeps of a map's: one pair for all bands, where they have one
unfoldable pub one_model : Model → Option Model
one_model m = cond (equal_pairs m.lowest m.above) (some (plain_model m.lowest m.ceiling)) none

-- the size of a record whose rows start at this offset
abbrev pub size_of : ℕ → ℕ → ℕ → ℕ
size_of offset width count = offset + count * field_size (row_length width) + field_size end_length

-- the odds (10), then the room (11)
unfoldable pub writable_rows : Model → ℕ → ℕ → ℕ → List Float → ℕ → Answer ℕ
writable_rows m width count offset odds room =
    and_then (rows_checked m width count offset odds)
    (λ (t : Unit {0}). cond (leb (size_of offset width count) room) (given (size_of offset width count)) (refused (no_room (size_of offset width count))))

abbrev pub model_written : Model → List ℕ
model_written m = field model_tag (model_bytes m)

abbrev pub frame_written : ℕ → List ℕ
frame_written frame = field frame_tag (little_endian word_size frame)

-- the fields after the extents'
abbrev pub rest_bytes : Model → ℕ → ℕ → ℕ → List Float → List ℕ
rest_bytes m frame width count odds = model_written m ++ frame_written frame ++ rows_bytes width count odds ++ field end_tag []
