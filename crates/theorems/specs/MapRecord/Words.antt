-- The words that the theorems of the map record are said in, beside the rules' own and those of its laws
-- (`record_laws`, `Words`): bytes that are a record and bytes that are none, and what readings leave. Definitions only.
use Rattle.std.specs.Prelude.{ℕ, ◌≤◌, List, ◌⊎◌, ◌≡◌, length, replicate}
use Rattle.rules.specs.RefusalNumbers.{given, refused, broken_record}
use Rattle.rules.specs.RefusalNumbers.Entries.{Outcome, read_record_entry}
use Rattle.rules.specs.TheGridAndItsBounds.{Head, Grid, cells}
use Rattle.rules.specs.MapRecord.{Stored, record_of, any_record_of, with_cuts}
use Rattle.record_laws.specs.Words.{FieldBegins, Sound}

-- bytes that are a record of so many axes
pub record IsRecord (axes : ℕ) (bytes : List ℕ) : Type 0 where
  pub stored : Stored
  pub is : record_of axes bytes ≡ given stored
  pub sound : Sound axes bytes stored

-- bytes that are none: they are refused with number 10 at one offset, at most the end of the bytes, where a field
-- begins
pub record IsBroken (axes : ℕ) (bytes : List ℕ) : Type 0 where
  pub offset : ℕ
  pub is : record_of axes bytes ≡ refused (broken_record offset)
  pub only : (o : ℕ) → record_of axes bytes ≡ refused (broken_record o) → o ≡ offset
  pub begins : FieldBegins bytes offset
  pub within : offset ≤ length bytes

-- what reading leaves where it is not refused: the head as the answer, the odds, and stamps 0
abbrev pub map_read : List ℕ → Stored → Outcome Head Grid
map_read cuts s = record { answer = given (with_cuts cuts s.head); lent = record { odds = s.odds; stamps = replicate (cells s.head.extents) 0 } }

-- two lent grids, read into from the same bytes
pub record SameReading (axes : ℕ) (cuts bytes : List ℕ) (g k : Grid) : Type 0 where
  -- grids of the same sizes get the same answer
  pub answers : length g.odds ≡ length k.odds → length g.stamps ≡ length k.stamps
      → (read_record_entry axes cuts bytes g).answer ≡ (read_record_entry axes cuts bytes k).answer
  -- where a map is given into both, answers and grids are the same
  pub maps : (h j : Head) → (read_record_entry axes cuts bytes g).answer ≡ given h → (read_record_entry axes cuts bytes k).answer ≡ given j
      → read_record_entry axes cuts bytes g ≡ read_record_entry axes cuts bytes k

-- a reader that asks for no number of axes, beside one that asks for two or for three
pub record AnyAxes (bytes : List ℕ) (s : Stored) : Type 0 where
  pub of_two : record_of 2 bytes ≡ given s → any_record_of bytes ≡ given s
  pub of_three : record_of 3 bytes ≡ given s → any_record_of bytes ≡ given s
  pub of_either : any_record_of bytes ≡ given s → (record_of 2 bytes ≡ given s) ⊎ (record_of 3 bytes ≡ given s)
