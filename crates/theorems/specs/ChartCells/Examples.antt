-- The cell (1, 0, 2) of a map of 2 by 2 by 3 with three pairs: its place, what the chart takes for it, and its pair;
-- and that a model which counts heights by other layers uses another band's pair. By computation of the definitions.
use Rattle.std.specs.Prelude.{◌≡◌, refl, [], ◌∷◌, pos, get_or}
use Rattle.std.proofs.Common.{arith}
use Rattle.std.specs.Float.{nan}
use Rattle.rules.specs.RefusalNumbers.{given}
use Rattle.rules.specs.TheGridAndItsBounds.{Band, Model, layer_of, last_extent, rising, cuts_below, cuts_in_bounds}
use Rattle.rules.specs.Coordinates.{flat_index}
use Rattle.rules.specs.MarksAndFrames.{steps_at, steps_with}
use Rattle.rules.specs.LayerChart.{cuts_in, stacked, cells_between}
use Rattle.theorems.specs.PromiseThree.Examples.{plus, minus, head3, grid3, opened}
use Rattle.theorems.specs.ChartCells.{OnGrid, column_of, InBand, high, Banded}

abbrev model : Model
model = head3.model

-- the pairs from height 1 and from height 2 on
abbrev above1 : Band
above1 = record { cut = 1; pair = record { occupied = plus 1 2; free = minus 1 4 } }

abbrev above2 : Band
above2 = record { cut = 2; pair = record { occupied = plus 1 4; free = minus 1 8 } }

-- the same pairs, heights counted by single cells
abbrev unlaid : Model
unlaid = record { lowest = model.lowest; above = model.above; ceiling = model.ceiling; layer = 1 }

pub record Cases : Type 0 where
  -- Every premise is met.
  pub met : Banded (2 ∷ 2 ∷ []) 3 model
  pub on-grid : OnGrid (2 ∷ 2 ∷ []) (1 ∷ 0 ∷ [])
  pub in_band : InBand (cuts_in model) 3 high 2
  -- Column 1, place 9.
  pub column : column_of (2 ∷ 2 ∷ []) (1 ∷ 0 ∷ []) ≡ 1
  pub place : flat_index (2 ∷ 2 ∷ 3 ∷ []) (pos 1 ∷ pos 0 ∷ pos 2 ∷ []) ≡ given 9
  -- The chart takes it alone for the high band, and it has the high band's pair.
  pub taken : cells_between 4 grid3.odds 1 2 3 ≡ minus 13 4 ∷ []
  pub there : get_or grid3.odds 9 nan ≡ minus 13 4
  pub pair : steps_at model 9 ≡ steps_with model above2.pair
  -- The cell below it at height 0 has the lowest pair; by other layers it would have the middle one's.
  pub lowest_pair : steps_at model 1 ≡ steps_with model model.lowest
  pub layer_needed : steps_at unlaid 1 ≡ steps_with model above1.pair

pub cases : Cases
unfolding opened layer_of last_extent rising cuts_below cuts_in_bounds stacked cells_between
cases =
    record {
      met = record { second = above1; third = above2; bands = refl; cuts = tt; layer = refl };
      on-grid = (omega arith, (omega arith, tt));
      in_band = (omega arith, omega arith);
      column = refl;
      place = refl;
      taken = refl;
      there = refl;
      pair = refl;
      lowest_pair = refl;
      layer_needed = refl;
    }
