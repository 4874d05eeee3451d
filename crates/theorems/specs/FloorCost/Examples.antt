-- The cost is reached, and the premises that are left are needed: by computation of the definitions.
use Rattle.std.specs.Prelude.{◌≡◌, refl, List, [], ◌∷◌, Float}
use Rattle.std.specs.Float.{nan, binary64}
use Rattle.std.specs.Float.Ieee.{of_bits}
use Rattle.rules.specs.Floats.{zero_f}
use Rattle.rules.specs.TheGridAndItsBounds.{Grid}
use Rattle.rules.specs.MarksAndFrames.{cell_at}
use Rattle.rules.specs.OneBeam.{Beam}
use Rattle.theorems.specs.PromiseThree.{Sweep, sweep, of_units}
use Rattle.theorems.specs.PromiseThree.AsTests.{sweep_holds, every-at}
use Rattle.theorems.specs.PromiseThree.Examples.{minus, head2, cloud, clear, opened}
use Rattle.theorems.specs.FloorCost.{InUnits, lone_vote}

-- a map of 2 by 2 with these odds at cell 1 and zero elsewhere; a clear beam crosses that cell, and then a beam hits it
abbrev lent : Float → Grid
lent o = record { odds = zero_f ∷ o ∷ zero_f ∷ zero_f ∷ []; stamps = 0 ∷ 0 ∷ 0 ∷ 0 ∷ [] }

abbrev clear_then_cloud : List Beam
clear_then_cloud = clear [] ∷ cloud [] ∷ []

abbrev after : Float → Float
after o = (cell_at (sweep binary64 head2 (lent o) clear_then_cloud).grid 1).odds

abbrev lone : Float → Float
lone o = lone_vote binary64 head2 (lent o) 1

pub record Cost : Type 0 where
  -- Steps 0.75 and -0.5, floor -4, odds -3.5: every premise is met; the cell ends at -3.25 where a lone vote gives
  -- -2.75, lower by the whole clear step.
  pub premises : Sweep binary64 head2 (lent (minus 7 2)) clear_then_cloud × InUnits binary64 head2 (lent (minus 7 2))
  pub whole_step : (after (minus 7 2) ≡ minus 13 4) × (lone (minus 7 2) ≡ minus 11 4)
  -- Odds -3.75, half a clear step above the floor: lower by half of it.
  pub half_step : (after (minus 15 4) ≡ minus 13 4) × (lone (minus 15 4) ≡ minus 3 1)
  -- On the floor: nothing.
  pub nothing : (after (minus 4 1) ≡ minus 13 4) × (lone (minus 4 1) ≡ minus 13 4)
  -- Odds -10, below the floor, which the premises exclude: the cell ends at -3.25 where a lone vote gives the floor, so
  -- it ends higher.
  pub below_the_floor : (after (minus 10 1) ≡ minus 13 4) × (lone (minus 10 1) ≡ minus 4 1)
  -- Odds -1.8, no multiple of the unit, which the premises exclude: the cell ends at -1.0499999999999998 where a lone
  -- vote gives -1.05, so it ends higher.
  pub no_multiple : (after (minus 9 5) ≡ of_bits binary64 0xbff0_cccc_cccc_cccc) × (lone (minus 9 5) ≡ of_bits binary64 0xbff0_cccc_cccc_cccd)

pub cost : Cost
unfolding opened
cost =
    record {
      premises = (
        sweep_holds binary64 head2 (lent (minus 7 2)) clear_then_cloud tt,
        record { model = tt; odds = every-at (of_units binary64) nan (lent (minus 7 2)).odds tt },
      );
      whole_step = (refl, refl);
      half_step = (refl, refl);
      nothing = (refl, refl);
      below_the_floor = (refl, refl);
      no_multiple = (refl, refl);
    }
