-- No premise that promise 3 draws on can be left out: for each, an example that fails this premise alone, and where a
-- conclusion fails with it. (That the extents are in bounds is asked by every entry; the conclusions do not turn on
-- it.) By computation of the definitions.
use Rattle.std.specs.Prelude.{ℕ, ◌≡◌, refl, Bool, true, false, List, [], ◌∷◌, ◌++◌, negsuc, replicate, set, Float}
use Rattle.std.specs.Float.{nan, fin, Format, binary32, binary64}
use Rattle.std.specs.Float.Ieee.{of_bits}
use Rattle.rules.specs.Floats.{zero_f, half_f}
use Rattle.rules.specs.TheGridAndItsBounds.{Model, plain_model, Head, Grid}
use Rattle.rules.specs.MarksAndFrames.{cell_at}
use Rattle.rules.specs.OneBeam.{Beam}
use Rattle.theorems.specs.PromiseThree.{sweep}
use Rattle.theorems.specs.PromiseThree.AsTests.{sweep_tests, multiples_tests}
use Rattle.theorems.specs.PromiseThree.Examples.{plus, minus, model, head2, cloud, clear, opened}

-- a map of 2 by 2 with these odds at cell 1 and zero elsewhere
abbrev lent : Float → ℕ → Grid
lent o stamp = record { odds = zero_f ∷ o ∷ zero_f ∷ zero_f ∷ []; stamps = 0 ∷ stamp ∷ 0 ∷ 0 ∷ [] }

abbrev with : Model → Head
with m = record { extents = 2 ∷ 2 ∷ []; model = m; frame = 1 }

-- cell 1 of it after the clear beam and then the cloud beam, and after the cloud beam and then the clear one
abbrev clear_first : Format → Model → Float → Float
clear_first f m o = (cell_at (sweep f (with m) (lent o 0) (clear [] ∷ cloud [] ∷ [])).grid 1).odds

abbrev cloud_first : Format → Model → Float → Float
cloud_first f m o = (cell_at (sweep f (with m) (lent o 0) (cloud [] ∷ clear [] ∷ [])).grid 1).odds

abbrev tests_of : Format → Model → Float → List Bool
tests_of f m o = sweep_tests f (with m) (lent o 0) (clear [] ∷ cloud [] ∷ []) ++ multiples_tests f (with m) (lent o 0)

-- all tests pass but one
abbrev all_but : ℕ → List Bool
all_but i = set (replicate 10 true) i false

-- occupied 0.01, free -0.02, ceiling 4: no multiples of the unit
abbrev decimal : Model
decimal = plain_model (record { occupied = plus 1 100; free = minus 2 100 }) (plus 4 1)

-- occupied 2 ^ -8, free -2 ^ -8, ceiling 1,048,576: multiples of binary32's unit
abbrev wide : Model
wide = plain_model (record { occupied = plus 1 256; free = minus 1 256 }) (plus 1048576 1)

-- a beam that is refused
abbrev broken : Beam
broken = record { origin = nan ∷ half_f ∷ []; endpoint = half_f ∷ half_f ∷ []; hit = true }

-- occupied 0.25, free 0.5, ceiling 4: the clear step is above zero
abbrev upward : Model
upward = plain_model (record { occupied = plus 1 4; free = plus 1 2 }) (plus 4 1)

-- a map of 2 by 2 with no stamps
abbrev unstampable : Grid
unstampable = record { odds = replicate 4 zero_f; stamps = [] }

pub record Needed : Type 0 where
  -- A clear step above zero: odds 3.75 meet the ceiling, and end at 3.75 and at 4.
  pub model_fails : tests_of binary64 upward (plus 15 4) ≡ all_but 1
  pub model_needed : (clear_first binary64 upward (plus 15 4) ≡ plus 15 4) × (cloud_first binary64 upward (plus 15 4) ≡ plus 4 1)
  -- No stamp for a cell: it was hit, and ends with none.
  pub stamps_fail : sweep_tests binary64 head2 unstampable (cloud [] ∷ []) ++ multiples_tests binary64 head2 unstampable ≡ all_but 3
  pub stamps_needed : (cell_at (sweep binary64 head2 unstampable (cloud [] ∷ [])).grid 1).stamp ≡ 0
  -- Odds below the floor, -10: in one order the cell ends at -3.25, in the other on the floor.
  pub within_fails : tests_of binary64 model (minus 10 1) ≡ all_but 4
  pub within_needed : (clear_first binary64 model (minus 10 1) ≡ minus 13 4) × (cloud_first binary64 model (minus 10 1) ≡ minus 4 1)
  -- A stamp of the new frame: a cell that was touched and not hit takes no clear step, and a cloud stamp stays.
  pub unstamped_fails : sweep_tests binary64 head2 (lent zero_f 4) (clear [] ∷ []) ++ multiples_tests binary64 head2 (lent zero_f 4) ≡ all_but 5
  pub unstamped-needed :
      ((cell_at (sweep binary64 head2 (lent zero_f 4) (clear [] ∷ [])).grid 1).odds ≡ zero_f)
      × ((cell_at (sweep binary64 head2 (lent zero_f 5) (clear [] ∷ [])).grid 1).stamp ≡ 5)
  -- A beam that is refused stops the list, so the stamps turn on where it stands.
  pub taken_fails : sweep_tests binary64 head2 (lent zero_f 0) (broken ∷ cloud [] ∷ []) ++ multiples_tests binary64 head2 (lent zero_f 0) ≡ all_but 6
  pub taken-needed :
      ((sweep binary64 head2 (lent zero_f 0) (broken ∷ cloud [] ∷ [])).grid.stamps ≡ 0 ∷ 0 ∷ 0 ∷ 0 ∷ [])
      × ((sweep binary64 head2 (lent zero_f 0) (cloud [] ∷ broken ∷ [])).grid.stamps ≡ 4 ∷ 5 ∷ 0 ∷ 0 ∷ [])
  -- Steps that are no multiples, occupied 0.01 and free -0.02, odds 0: 0.009999999999999998 and 0.01.
  pub steps_fail : tests_of binary64 decimal zero_f ≡ all_but 7
  pub steps-needed :
      (clear_first binary64 decimal zero_f ≡ of_bits binary64 0x3f847ae147ae147a) × (cloud_first binary64 decimal zero_f ≡ of_bits binary64 0x3f847ae147ae147b)
  -- A ceiling above binary32's largest size: odds 65536 + 2 ^ -7 end at 65536 + 2 ^ -7 and at 65536 + 2 ^ -6.
  pub size_fails : tests_of binary32 wide (plus 8388609 128) ≡ all_but 7
  pub size-needed :
      (clear_first binary32 wide (plus 8388609 128) ≡ fin false 8388609 (negsuc 6)) × (cloud_first binary32 wide (plus 8388609 128) ≡ fin false 4194305 (negsuc 5))
  -- Odds that are no multiple, -0.3: 0.44999999999999996 and 0.45.
  pub odds_fail : tests_of binary64 model (minus 3 10) ≡ all_but 8
  pub odds_needed :
      (clear_first binary64 model (minus 3 10) ≡ of_bits binary64 0x3fdccccccccccccc) × (cloud_first binary64 model (minus 3 10) ≡ of_bits binary64 0x3fdccccccccccccd)
  -- Exactly one clear step above the floor, -3.5: -3.25 and -2.75.
  pub floor_fails : tests_of binary64 model (minus 7 2) ≡ all_but 9
  pub floor_needed : (clear_first binary64 model (minus 7 2) ≡ minus 13 4) × (cloud_first binary64 model (minus 7 2) ≡ minus 11 4)

pub needed : Needed
unfolding opened
needed =
    record {
      model_fails = refl;
      model_needed = (refl, refl);
      stamps_fail = refl;
      stamps_needed = refl;
      within_fails = refl;
      within_needed = (refl, refl);
      unstamped_fails = refl;
      unstamped-needed = (refl, refl);
      taken_fails = refl;
      taken-needed = (refl, refl);
      steps_fail = refl;
      steps-needed = (refl, refl);
      size_fails = refl;
      size-needed = (refl, refl);
      odds_fail = refl;
      odds_needed = (refl, refl);
      floor_fails = refl;
      floor_needed = (refl, refl);
    }
