-- What is known of a record of edition 2 that was read, in the words of the laws. Definitions only.
use Rattle.std.specs.Prelude.{ℕ, ◌≤◌, true, false, List, ◌≡◌, length, replicate}
use Rattle.std.proofs.Math.Option.{none}
use Rattle.rules.specs.RefusalNumbers.{given}
use Rattle.rules.specs.RefusalNumbers.Entries.{head_refusal}
use Rattle.rules.specs.RefusalNumbers.Editions.{uses_of_writing}
use Rattle.rules.specs.TheGridAndItsBounds.{cells}
use Rattle.rules.specs.MapRecord.{row_width, row_count}
use Rattle.rules.specs.EditionTwo.{Kept, cuts_for, none_above, grid_tried, edition_size, edition_writable}
use Rattle.record_laws.specs.Words.{Each, NoNan, Held}
use Rattle.record_laws.specs.Numbers.{InFourBytes}

-- a record of so many axes is as long as its extents say, and its map may be written again
pub record SoundEdition (axes : ℕ) (bytes : List ℕ) (k : Kept) : Type 0 where
  -- It has that many extents, the bytes that they call for, and the cuts of a map of so many axes.
  pub axes_are : length k.head.extents ≡ axes
  pub size_is : length bytes ≡ edition_size k.head.extents k.running
  pub cuts_are : length k.head.model.above ≡ cuts_for axes
  -- Its head passes every check of writing, its rows too, so that it is written where there is room for as many bytes.
  pub passes : head_refusal (uses_of_writing k.running) k.head (length k.grid.odds) (length k.grid.stamps) ≡ none
  pub tried : (o : ℕ)
      → grid_tried k.running k.head.model k.head.frame (row_width k.head.extents) (row_count k.head.extents) o k.grid ≡ given tt
  pub written : (room : ℕ) → length bytes ≤ room → edition_writable k.head k.running k.grid room ≡ given (length bytes)
  -- Its floats are values of binary64, and none of its odds is a NaN.
  pub held : Held k.head k.grid.odds
  pub numbers : NoNan k.grid.odds
  -- The stamps of an open sweep are u32, of no frame above the stored one; those of a closed one are 0, one per cell.
  pub stamps-held : k.running ≡ true → Each InFourBytes 0 k.grid.stamps
  pub stamps_fit : k.running ≡ true → none_above k.head.frame k.grid.stamps ≡ true
  pub stamps-none : k.running ≡ false → k.grid.stamps ≡ replicate (cells k.head.extents) 0
