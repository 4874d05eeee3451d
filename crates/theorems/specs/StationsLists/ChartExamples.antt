-- Near the floor the order shows on the chart, and never as a thicker layer: a map of 2 by 2 by 3 with ceiling 2, so
-- floor -2, and odds of -1.5 at cell 1, which one beam crosses and another hits. By computation of the definitions.
use Rattle.std.specs.Prelude.{ℕ, ◌≡◌, refl, List, [], ◌∷◌, replicate, Float}
use Rattle.std.specs.Float.{nan, binary64}
use Rattle.std.specs.Float.Ieee.{is_nan}
use Rattle.rules.specs.RefusalNumbers.{given}
use Rattle.rules.specs.RefusalNumbers.Entries.{Outcome}
use Rattle.rules.specs.TheGridAndItsBounds.{Model, Head, Grid, layer_of}
use Rattle.rules.specs.LayerChart.{reached, eighths, band_cover, stacked, cells_between, column_chart, chart_of, any_nan, first_nan, chart_refusal, charted, layer_chart_entry}
use Rattle.theorems.specs.PromiseThree.{head_opened, grid_opened, Opened, of_units}
use Rattle.theorems.specs.PromiseThree.AsTests.{opened_holds, every-at}
use Rattle.theorems.specs.PromiseThree.Examples.{plus, minus, head3, opened}
use Rattle.theorems.specs.FloorCost.{InUnits}
use Rattle.theorems.specs.StationsLists.Words.{Call, night, NoneRefused}
use Rattle.theorems.specs.StationsLists.Examples.{accepted, list, structs, opened_entries}

abbrev low : Model
low = record { lowest = head3.model.lowest; above = head3.model.above; ceiling = plus 2 1; layer = 4 }

abbrev head : Head
head = record { extents = 2 ∷ 2 ∷ 3 ∷ []; model = low; frame = 1 }

-- on the floor but for cell 1
abbrev grid : Grid
grid = record { odds = minus 2 1 ∷ minus 3 2 ∷ replicate 10 (minus 2 1); stamps = replicate 12 0 }

abbrev clear_first : List Call
clear_first = structs ∷ list ∷ []

abbrev cloud_first : List Call
cloud_first = list ∷ structs ∷ []

-- four columns, of which only the second can have cover
abbrev chart : ℕ → ℕ → List ℕ
chart eighths random = 0 ∷ 0 ∷ 0 ∷ 0 ∷ 0 ∷ eighths ∷ 0 ∷ 0 ∷ eighths ∷ random ∷ replicate 10 0

abbrev asked : List Float → Outcome (Unit {0}) (List ℕ)
asked odds = layer_chart_entry (head_opened head) odds (replicate 20 9)

unfoldable opened_chart : ℕ
unfolding layer_of reached eighths band_cover stacked cells_between column_chart chart_of any_nan first_nan chart_refusal charted layer_chart_entry is_nan
opened_chart = 0

pub record Charts : Type 0 where
  -- Every premise of `the_chart_does_not_thicken` is met, in both orders.
  pub sweep-opened : Opened head grid
  pub in_units : InUnits binary64 head grid
  pub none_refused : NoneRefused binary64 head grid clear_first × NoneRefused binary64 head grid cloud_first
  -- odds of -1.25 in one order, an eighth; of -0.75, as a lone vote leaves it, in the other: two eighths. So the
  -- premise about the floor is needed for the same chart.
  pub clear_first_lem : asked (night binary64 head grid clear_first).odds ≡ record { answer = given tt; lent = chart 1 64 }
  pub cloud-first : asked (night binary64 head grid cloud_first).odds ≡ record { answer = given tt; lent = chart 2 128 }

pub charts : Charts
unfolding opened opened_entries opened_chart
charts =
    record {
      sweep-opened = opened_holds head grid tt;
      in_units = record { model = tt; odds = every-at (of_units binary64) nan grid.odds tt };
      none_refused = (
        accepted binary64 (head_opened head) clear_first (grid_opened head grid) tt,
        accepted binary64 (head_opened head) cloud_first (grid_opened head grid) tt,
      );
      clear_first_lem = refl;
      cloud-first = refl;
    }
