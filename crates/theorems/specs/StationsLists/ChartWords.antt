-- The chart of what a night leaves, beside that of a map to compare it with: the words of "the chart does not thicken".
-- Definitions only.
use Rattle.std.specs.Prelude.{ℕ, ◌<◌, ◌≡◌, List, length, get_or, Float}
use Rattle.std.specs.Float.{nan, Format}
use Rattle.rules.specs.RefusalNumbers.{given}
use Rattle.rules.specs.TheGridAndItsBounds.{Head, Grid, cells}
use Rattle.rules.specs.MarksAndFrames.{steps_at, freed}
use Rattle.rules.specs.LayerChart.{layer_chart_entry}
use Rattle.theorems.specs.PromiseThree.{Hit, Touched}
use Rattle.theorems.specs.FloorCost.{lone_vote}
use Rattle.theorems.specs.LayerChart.{NoneAbove}
use Rattle.theorems.specs.StationsLists.Words.{Handed, hand_marks}

-- the odds of the map in which every cell that was hit took one lone cloud vote; a cell that was touched and not hit
-- took one clear step, and any other nothing
pub record LoneVotes (f : Format) (h : Head) (g : Grid) (bs : List Handed) (odds : List Float) : Type 0 where
  pub one_per_cell_lem : length odds ≡ cells h.extents
  pub hit : (i : ℕ) → i < cells h.extents → Hit (hand_marks f h.extents) bs i → get_or odds i nan ≡ lone_vote f h g i
  pub clear : (i : ℕ) → i < cells h.extents → Touched (hand_marks f h.extents) bs i → ¬ Hit (hand_marks f h.extents) bs i
      → get_or odds i nan ≡ freed f (steps_at h.model i) (get_or g.odds i nan)
  pub untouched : (i : ℕ) → i < cells h.extents → ¬ Touched (hand_marks f h.extents) bs i → get_or odds i nan ≡ get_or g.odds i nan

-- Where the one map is charted, so is the other; and no band and neither total of any column of the one is above that
-- of the other.
pub record NoThicker (h : Head) (odds other : List Float) (chart : List ℕ) : Type 0 where
  pub charted_too : (layer_chart_entry h other chart).answer ≡ given tt
  pub none_above_lem : NoneAbove (layer_chart_entry h odds chart).lent (layer_chart_entry h other chart).lent
