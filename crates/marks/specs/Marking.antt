-- The steps of a cell as the rules', and what one mark leaves of the lent lists, in every format. Definitions only.
use Rattle.std.specs.Prelude.{ℕ, Bool, List, ◌≡◌, Float, set}
use Rattle.std.specs.Float.{Format}
use Rattle.rules.specs.TheGridAndItsBounds.{Grid}
use Rattle.rules.specs.MarksAndFrames as Marks
use Rattle.marks.specs.declared.marks.Steps.{Steps}

abbrev pub steps_of : Steps → Marks.Steps
steps_of s = record { occupied = s.occupied; free = s.free; floor = s.floor; ceiling = s.ceiling }

abbrev pub cell_of : Float → ℕ → Marks.Cell
cell_of odds stamp = record { odds = odds; stamp = stamp }

abbrev pub grid_of : List Float → List ℕ → Grid
grid_of odds stamps = record { odds = odds; stamps = stamps }

-- the rules' mark of the cell at a place
abbrev pub mark_on : Format → Bool → Marks.Steps → ℕ → ℕ → List Float → List ℕ → Marks.Marked
mark_on f occupied s frame at odds stamps = Marks.mark_cell f s frame occupied (Marks.cell_at (grid_of odds stamps) at)

-- whether the mark changed the cell, and both lists afterwards
pub record MarkedAt (f : Format) (occupied : Bool) (s : Marks.Steps) (frame at : ℕ) (odds : List Float) (stamps : List ℕ) (r : Bool) (odds' : List Float) (stamps' : List ℕ) : Type 0 where
  pub answer : r ≡ (mark_on f occupied s frame at odds stamps).changed
  pub odds_now : odds' ≡ set odds at (mark_on f occupied s frame at odds stamps).cell.odds
  pub stamps_now : stamps' ≡ set stamps at (mark_on f occupied s frame at odds stamps).cell.stamp
