-- How far a walk along a line has come, over lines of any number of axes, in every format: whatever the rest of the
-- line does to the lists as they stand, the whole line does to the lists as they were. Definitions only.
use Rattle.std.specs.Prelude.{ℕ, ◌+◌, ◌<◌, ◌≤◌, Bool, List, ◌≡◌, Float, length, map, pos}
use Rattle.std.specs.Float.{Format}
use Rattle.rules.specs.Coordinates.{flat_index}
use Rattle.rules.specs.RefusalNumbers.{given}
use Rattle.rules.specs.TheGridAndItsBounds as Grid
use Rattle.rules.specs.TheGridAndItsBounds.{Head}
use Rattle.rules.specs.TheLine.{Line, line_cells}
use Rattle.rules.specs.OneBeam.{marks_along}
use Rattle.laws.specs.Checks.{Ready}
use Rattle.laws.specs.Following.{AllSmall, Drawn}
use Rattle.laws.specs.Room.{room}
use Rattle.beam.specs.Applying.{Applied}

pub record Walked (f : Format) (h : Head) (last : Bool) (line : Line) (odds₀ : List Float) (stamps₀ : List ℕ) (rest : Line) (odds : List Float) (stamps : List ℕ) (count remaining : ℕ) : Type 0 where
  pub left : remaining ≡ rest.remaining
  pub ready : Ready h (length odds) (length stamps)
  pub used : count + room h.frame stamps ≤ room h.frame stamps₀
  pub whole : (n : ℕ) (odds' : List Float) (stamps' : List ℕ)
      → Applied f (marks_along h.extents last (line_cells f rest)) h.model h.frame odds stamps n odds' stamps'
      → Applied f (marks_along h.extents last (line_cells f line)) h.model h.frame odds₀ stamps₀ (count + n) odds' stamps'

-- the same, however the last cell is to be marked, and the rest is still a line as the plotter draws it
pub record Begun (f : Format) (h : Head) (line : Line) (odds₀ : List Float) (stamps₀ : List ℕ) (rest : Line) (odds : List Float) (stamps : List ℕ) (count : ℕ) : Type 0 where
  pub drawn : Drawn rest
  pub walked : (last : Bool) → Walked f h last line odds₀ stamps₀ rest odds stamps count rest.remaining

-- each axis's cell lies on a grid of these extents, and where the cell that they make is found
pub record FollowedTo (extents cells : List ℕ) (place : ℕ) : Type 0 where
  pub small : AllSmall cells
  pub found : flat_index extents (map pos cells) ≡ given place
  pub below : place < Grid.cells extents
