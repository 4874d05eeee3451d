-- The rows of an open record: their odds and their stamps without the refusals, and their refusal without the lists.
-- Definitions only.
use Rattle.std.specs.Prelude.{ℕ, zero, suc, ◌+◌, true, List, [], ◌++◌, Float, drop}
use Rattle.std.proofs.Math.Option.{Option, none}
use Rattle.rules.specs.RefusalNumbers.{Refusal}
use Rattle.rules.specs.TheGridAndItsBounds.{Model}
use Rattle.rules.specs.Fields.{floats_in, head_size, field_size, sound_here}
use Rattle.rules.specs.MapRecord.{row_length, row_field}
use Rattle.rules.specs.EditionTwo.{stamps_in, stamps_field, row_size}
use Rattle.rows.specs.Rows.{unless_sound}

unfoldable pub open_odds : ℕ → ℕ → List ℕ → List Float
open_odds width zero rest = []
open_odds width (suc n) rest = floats_in width (drop head_size rest) ++ open_odds width n (drop (row_size true width) rest)

unfoldable pub open_stamps : ℕ → ℕ → List ℕ → List ℕ
open_stamps width zero rest = []
open_stamps width (suc n) rest =
    stamps_in width (drop (field_size (row_length width) + head_size) rest) ++ open_stamps width n (drop (row_size true width) rest)

-- the first field that is not sound
unfoldable pub open_refusal : Model → ℕ → ℕ → ℕ → ℕ → List ℕ → Option Refusal
open_refusal m frame width zero offset rest = none
open_refusal m frame width (suc n) offset rest =
    let size : ℕ = field_size (row_length width) in
    unless_sound offset (sound_here (row_field m width) rest)
    (unless_sound (offset + size) (sound_here (stamps_field frame width) (drop size rest))
    (open_refusal m frame width n (offset + row_size true width) (drop (row_size true width) rest)))
