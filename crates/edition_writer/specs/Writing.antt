-- What writing edition 2 of a record answers by the rows' width and number, and the fields after the bands'.
-- Definitions only.
use Rattle.std.specs.Prelude.{ℕ, ◌+◌, ◌*◌, ◌≤◌, Bool, true, cond, List, [], ◌∷◌, ◌++◌, ◌≡◌, leb}
use Rattle.rules.specs.RefusalNumbers.{Answer, given, refused, and_then, no_room}
use Rattle.rules.specs.TheGridAndItsBounds.{Model, Grid}
use Rattle.rules.specs.Fields.{little_endian, word_size, field, field_size}
use Rattle.rules.specs.MapRecord.{frame_tag, end_tag, end_length}
use Rattle.rules.specs.EditionTwo.{open_tag, open_byte, row_size, grid_bytes, grid_tried}

-- an open record has a stamp for each cell, a closed one looks at none
abbrev pub enough_stamps : Bool → ℕ → ℕ → Type 0
enough_stamps running cells stamps = running ≡ true → cells ≤ stamps

-- the size of a record whose rows start at this offset
abbrev pub size_of : Bool → ℕ → ℕ → ℕ → ℕ
size_of running offset width count = offset + count * row_size running width + field_size end_length

-- the odds and the stamps (10), then the room (11)
unfoldable pub writable_grid : Bool → Model → ℕ → ℕ → ℕ → ℕ → Grid → ℕ → Answer ℕ
writable_grid running m frame width count offset g room =
    and_then (grid_tried running m frame width count offset g)
    (λ (t : Unit {0}). cond (leb (size_of running offset width count) room) (given (size_of running offset width count)) (refused (no_room (size_of running offset width count))))

-- the frame, the mark, the rows and the end
abbrev pub rest_bytes : Bool → ℕ → ℕ → ℕ → Grid → List ℕ
rest_bytes running frame width count g =
    field frame_tag (little_endian word_size frame) ++ field open_tag (open_byte running ∷ []) ++ grid_bytes running width count g ++ field end_tag []
