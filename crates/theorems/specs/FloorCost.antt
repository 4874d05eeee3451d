-- What the floor costs: promise 3 without its premise about the floor. With multiples of the unit, a cloud cell ends,
-- in every order of beams and with any repeats, no higher than a lone cloud vote would leave it, and lower by no more
-- than one clear step. Definitions only; `FloorCost.Proof` has the theorem.
pub mod Proof
pub mod Examples
use Rattle.std.specs.Prelude.{ℕ, ◌<◌, T, get_or, Float, List}
use Rattle.std.specs.Float.{nan, Format}
use Rattle.std.specs.Float.Ieee.{add, le}
use Rattle.rules.specs.RefusalNumbers.{Answer}
use Rattle.rules.specs.TheGridAndItsBounds.{Head, Grid, cells}
use Rattle.rules.specs.MarksAndFrames.{Mark, steps_at, cell_at}
use Rattle.theorems.specs.PromiseThree.{Hit, of_units, model_of_units, cloud_alone}

-- ---- the premises, beside those of a sweep (`PromiseThree.Sweep`): those of promise 3's last sentence but the floor's
pub record InUnits (f : Format) (h : Head) (g : Grid) : Type 0 where
  -- The steps and the bounds are multiples of the unit, none above the largest size.
  pub model : T (model_of_units f h.model)
  -- The odds of every cell are a multiple of the unit.
  pub odds : (i : ℕ) → i < cells h.extents → T (of_units f (get_or g.odds i nan))

-- ---- the conclusions
-- what a lone cloud vote would leave of a cell
abbrev pub lone_vote : Format → Head → Grid → ℕ → Float
lone_vote f h g i = cloud_alone f (steps_at h.model i) (get_or g.odds i nan)

-- of the grid that is left after these beams, or whatever was handed over
pub record FloorCost {A : Type 0} (f : Format) (h : Head) (g : Grid) (marks_of : A → Answer (List Mark)) (bs : List A) (after : Grid) : Type 0 where
  -- A cell that a beam hit ends no higher than a lone cloud vote would leave it,
  pub no_higher : (i : ℕ) → i < cells h.extents → Hit marks_of bs i → T (le (cell_at after i).odds (lone_vote f h g i))
  -- and no lower than that and one clear step, which is below zero. The sum is exact: both are multiples of the unit,
  -- far below the format's largest whole number of units.
  pub one_clear_step : (i : ℕ) → i < cells h.extents → Hit marks_of bs i
      → T (le (add f (lone_vote f h g i) (steps_at h.model i).free) (cell_at after i).odds)
