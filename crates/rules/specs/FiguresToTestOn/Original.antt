-- Answers of the original, from running it, that a careless change of a definition alters where no figure marked *
-- notices: one table, proved of the definitions by computation.
use Rattle.std.specs.Prelude.{ℕ, ◌^◌, true, false, List, [], ◌∷◌, ◌++◌, map, ◌≡◌, refl, ℤ, pos, negsuc, replicate, Float}
use Rattle.std.proofs.Math.Option.{some, none}
use Rattle.std.specs.Float.{nan, inf, fin, binary64}
use Rattle.std.specs.Float.Ieee.{round}
use Rattle.rules.specs.RefusalNumbers.{given, refused}
use Rattle.rules.specs.RefusalNumbers.{out_of_bounds, non_finite_coordinate}
use Rattle.rules.specs.RefusalNumbers.{ray, ray_in_list}
use Rattle.rules.specs.Floats.{zero_f, half_f, one_f}
use Rattle.rules.specs.TheGridAndItsBounds.{Grid}
use Rattle.rules.specs.Coordinates.{corners}
use Rattle.rules.specs.TheLine.{Axis, deltas, increment}
use Rattle.rules.specs.TheLine.{plotter}
use Rattle.rules.specs.RefusalNumbers.Entries.{Outcome, reset_entry, begin_scan_entry, mark_entry}
use Rattle.rules.specs.RefusalNumbers.Entries.{update_scan_entry, set_log_odds_entry, log_odds_at_entry}
use Rattle.rules.specs.FiguresToTestOn.{plus, minus, point, cell, head_of, fresh, hit_on, line_of, leaves, sample_of, sampled, up_to3, lent, scan_of, containing, opened}

abbrev minus_zero : Float
minus_zero = fin true 0 (pos 0)

abbrev axis_from0_to1 : Axis
axis_from0_to1 = record { current = zero_f; end = one_f; increment = one_f; step = one_f; error = zero_f }

abbrev space_cell : ℕ → ℕ → List ℤ
space_cell x y = pos x ∷ pos y ∷ pos 0 ∷ []

-- 2 by 2, after an occupied mark of frame 2 at (0,0)
abbrev cloud_at0 : Grid
cloud_at0 = record { odds = plus 3 4 ∷ zero_f ∷ zero_f ∷ zero_f ∷ []; stamps = 5 ∷ 0 ∷ 0 ∷ 0 ∷ [] }

pub record OriginalAnswers : Type 0 where
  -- of equal deltas the last is primary; the threshold is 0.6666666666666667
  pub last-of-equals :
      plotter binary64 (point zero_f zero_f) (point one_f one_f)
      ≡ given (record { axes = axis_from0_to1 ∷ axis_from0_to1 ∷ []; primary = 1; threshold = fin false 0xaaaaaaaaaaaab (negsuc 51); remaining = 2 })
  -- on three axes an error of 0.75 meets the threshold: (0.5,0.5,0.5) to (4.5,3.5,0.5)
  pub threshold-met :
      line_of (half_f ∷ half_f ∷ half_f ∷ []) (plus 9 2 ∷ plus 7 2 ∷ half_f ∷ [])
      ≡ given (space_cell 0 0 ∷ space_cell 1 1 ∷ space_cell 2 1 ∷ space_cell 3 2 ∷ space_cell 4 3 ∷ [])
  -- the computed exit of (-0.4,0.5) to (1,0.5) lies in cell 0, the given endpoint in cell 1
  pub computed_exit : hit_on 2 2 (point (minus 4 10) half_f) (point one_f half_f) ≡ leaves 4 2 (plus 3 4 ∷ []) (5 ∷ [])
  -- 9.7 is clamped to 9.5, so x 8 is skipped: (0.6,0.5) to (9.7,0.5) on 10 by 2
  pub clamped-short-of-the-face :
      hit_on 10 2 (point (plus 6 10) half_f) (point (plus 97 10) half_f)
      ≡ leaves 20 9 (replicate 8 (minus 1 2) ++ zero_f ∷ plus 3 4 ∷ []) (replicate 8 4 ++ 0 ∷ 5 ∷ [])
  -- the upper face reached from off the grid can round to below it: (-0.3,0.5) to (2,0.5)
  pub rounded_below_the_face : hit_on 2 2 (point (minus 3 10) half_f) (point (plus 2 1) half_f) ≡ leaves 4 2 (minus 1 2 ∷ plus 3 4 ∷ []) (4 ∷ 5 ∷ [])
  -- corners ascending, 0.416 with gradient (-0.4800000000000001, 0.24): another order of these sums ends one rounding
  -- away
  pub corners-ascending :
      sample_of (plus 8 10 ∷ plus 2 10 ∷ plus 8 10 ∷ half_f ∷ []) (plus 8 10) (plus 4 10)
      ≡ sampled (fin false 0x1a9fbe76c8b439 (negsuc 53)) (fin true 0xf5c28f5c28f5d (negsuc 52)) (fin false 0x3d70a3d70a3d7 (negsuc 51))
  -- -0.0 is inside; an infinite coordinate is 6
  pub minus_zero_is_inside : containing minus_zero ≡ given (cell 0 0)
  pub infinite_coordinate : containing (inf false) ≡ refused (non_finite_coordinate 0)
  -- a near fraction of -0.0, where the original's `max` may give either zero: (10,0.5) to (9,0.5)
  pub minus-zero-fraction :
      hit_on 10 8 (point (plus 10 1) half_f) (point (plus 9 1) half_f) ≡ leaves 80 1 (replicate 9 zero_f ++ plus 3 4 ∷ []) (replicate 9 0 ++ 5 ∷ [])
  -- any frame may be handed in: 0 opens 1
  pub opened-from-frame-0 :
      begin_scan_entry (head_of 2 2 0) (4 ∷ 5 ∷ 0 ∷ 1 ∷ []) ≡ record { answer = given (head_of 2 2 1); lent = 4 ∷ 5 ∷ 0 ∷ 1 ∷ [] }
  -- two finite points whose difference overflows
  pub overflowing-beam :
      hit_on 10 8 (point (minus (10 ^ 308) 1) one_f) (point (plus (10 ^ 308) 1) one_f) ≡ record { answer = refused ray; lent = fresh 10 8 }
  -- a list stops at its second beam, and keeps the first
  pub refused-list :
      scan_of (half_f ∷ half_f ∷ plus 3 2 ∷ half_f ∷ nan ∷ half_f ∷ half_f ∷ half_f ∷ []) (1 ∷ 1 ∷ [])
      ≡ record { answer = refused (ray_in_list 1 2); lent = record { odds = minus 1 2 ∷ plus 3 4 ∷ zero_f ∷ zero_f ∷ []; stamps = 4 ∷ 5 ∷ 0 ∷ 0 ∷ [] } }
  -- marks by cell: changed, left where the cell is marked occupied, and off the grid
  pub mark-changes :
      mark_entry binary64 false (head_of 2 2 2) (cell 1 0) (fresh 2 2)
      ≡ record { answer = given true; lent = record { odds = zero_f ∷ minus 1 2 ∷ zero_f ∷ zero_f ∷ []; stamps = 0 ∷ 4 ∷ 0 ∷ 0 ∷ [] } }
  pub mark_left : mark_entry binary64 false (head_of 2 2 2) (cell 0 0) cloud_at0 ≡ record { answer = given false; lent = cloud_at0 }
  pub mark-off-the-grid :
      mark_entry binary64 true (head_of 2 2 2) (pos 0 ∷ negsuc 0 ∷ []) (fresh 2 2) ≡ record { answer = refused (out_of_bounds 1 (negsuc 0) 2 2); lent = fresh 2 2 }
  -- setting clamps; reading answers the odds or nothing; reset makes fresh
  pub set_clamps : set_log_odds_entry (head_of 2 2 2) (cell 0 1) (plus 5 1) up_to3 ≡ record { answer = given tt; lent = zero_f ∷ one_f ∷ plus 4 1 ∷ plus 3 1 ∷ [] }
  pub reads_odds : log_odds_at_entry (head_of 2 2 2) (cell 0 1) up_to3 ≡ given (some (plus 2 1))
  pub reads_nothing : log_odds_at_entry (head_of 2 2 2) (cell 2 0) up_to3 ≡ given none
  pub reset_is_fresh : reset_entry (head_of 2 2 7) (lent up_to3) ≡ record { answer = given (head_of 2 2 1); lent = fresh 2 2 }

pub original_answers : OriginalAnswers
unfolding opened
original_answers =
    record {
      last-of-equals = refl;
      threshold-met = refl;
      computed_exit = refl;
      clamped-short-of-the-face = refl;
      rounded_below_the_face = refl;
      corners-ascending = refl;
      minus_zero_is_inside = refl;
      infinite_coordinate = refl;
      minus-zero-fraction = refl;
      opened-from-frame-0 = refl;
      overflowing-beam = refl;
      refused-list = refl;
      mark-changes = refl;
      mark_left = refl;
      mark-off-the-grid = refl;
      set_clamps = refl;
      reads_odds = refl;
      reads_nothing = refl;
      reset_is_fresh = refl;
    }
