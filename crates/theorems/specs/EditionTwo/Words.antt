-- The words that the theorems of edition 2 are said in, beside the rules' own and those of its laws (`record_laws`):
-- bytes that are a record and bytes that are none, what readings leave, and records that have no edition 1. Definitions
-- only.
use Rattle.std.specs.Prelude.{ℕ, ◌≤◌, true, false, List, ◌⊎◌, ◌≡◌, length}
use Rattle.rules.specs.RefusalNumbers.{given, refused, broken_record}
use Rattle.rules.specs.RefusalNumbers.Entries.{Outcome}
use Rattle.rules.specs.RefusalNumbers.Editions.{Loaded, read_edition_entry}
use Rattle.rules.specs.TheGridAndItsBounds.{Grid}
use Rattle.rules.specs.MapRecord.{equal_pairs}
use Rattle.rules.specs.EditionTwo.{Kept, edition_of}
use Rattle.record_laws.specs.Words.{FieldBegins}
use Rattle.record_laws.specs.EditionTwo.Words.{SoundEdition}

-- bytes that are a record of edition 2 of so many axes
pub record IsEdition (axes : ℕ) (bytes : List ℕ) : Type 0 where
  pub holds : Kept
  pub is : edition_of axes bytes ≡ given holds
  pub sound : SoundEdition axes bytes holds

-- bytes that are none: they are refused with number 10 at one offset, at most the end of the bytes, where a field
-- begins
pub record IsNoEdition (axes : ℕ) (bytes : List ℕ) : Type 0 where
  pub offset : ℕ
  pub is : edition_of axes bytes ≡ refused (broken_record offset)
  pub only : (o : ℕ) → edition_of axes bytes ≡ refused (broken_record o) → o ≡ offset
  pub begins : FieldBegins bytes offset
  pub within : offset ≤ length bytes

-- what reading leaves where it is not refused: the head and the mark as the answer, and the lists as the record has
-- them
abbrev pub as_read : Kept → Outcome Loaded Grid
as_read k = record { answer = given (record { head = k.head; running = k.running }); lent = k.grid }

-- two lent grids, read into from the same bytes
pub record SameLoading (axes : ℕ) (bytes : List ℕ) (g k : Grid) : Type 0 where
  -- grids of the same sizes get the same answer
  pub answers : length g.odds ≡ length k.odds → length g.stamps ≡ length k.stamps
      → (read_edition_entry axes bytes g).answer ≡ (read_edition_entry axes bytes k).answer
  -- where a map is given into both, answers and grids are the same
  pub maps : (l m : Loaded) → (read_edition_entry axes bytes g).answer ≡ given l → (read_edition_entry axes bytes k).answer ≡ given m
      → read_edition_entry axes bytes g ≡ read_edition_entry axes bytes k

-- a record of edition 2 that has no edition 1: its sweep is open, or its pairs are not all equal
pub record HasNoEditionOne (axes : ℕ) (bytes : List ℕ) : Type 0 where
  pub holds : Kept
  pub is : edition_of axes bytes ≡ given holds
  pub why : (holds.running ≡ true) ⊎ (equal_pairs holds.head.model.lowest holds.head.model.above ≡ false)
