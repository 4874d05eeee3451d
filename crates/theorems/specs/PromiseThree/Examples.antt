-- Promise 3 is not empty: a sweep of two beams on a map of two axes and on one of three, in both formats, that meets
-- every premise. By computation of the definitions.
use Rattle.std.specs.Prelude.{ℕ, ◌+◌, true, false, List, [], ◌∷◌, ◌++◌, replicate, Float}
use Rattle.std.specs.Float.{binary32, binary64}
use Rattle.std.specs.Float.Ieee.{round, add, sub, neg, mul, div, lt, le, eq, of_int, to_signed, to_unsigned, of_bits, fits}
use Rattle.rules.specs.Floats.{zero_f, half_f, number_f, mag, all_finite}
use Rattle.rules.specs.TheGridAndItsBounds.{Model, plain_model, Head, Grid, cells, all_at_least, all_at_most, fits_capacity, extents_in_bounds, strides_from, strides, bounded, floor, one_per_cell}
use Rattle.rules.specs.TheGridAndItsBounds.{pair_bounded, all_pairs, pair_at}
use Rattle.rules.specs.Coordinates.{truncated, truncated_point, within, along, off_axes, on_grid_from, times_strides, flat_index}
use Rattle.rules.specs.TheLine.{delta, deltas, larger, primary_from, primary_of, increment, step_to, axis_of, axes_of, threshold_of, cells_yielded, line_between, plotter}
use Rattle.rules.specs.TheLine.{other_after, primary_after, axis_after, axes_after, last_step, earlier_step, step_of, cells_within, line_cells}
use Rattle.rules.specs.MarksAndFrames.{steps_at, stamp_of, clamp, limited, freed, mark_free, occupied_step, occupy, mark_occupied, mark_cell, mark_at, marked, changes}
use Rattle.rules.specs.MarksAndFrames.{highest_frame, opened_frame, opened_stamps, open_frame}
use Rattle.rules.specs.OneBeam.{Beam, larger_of, smaller_of, cut_to, slab, slabs, directions, point_at, both_beyond, all_within, is_inside, clamp_axis, clamp_point}
use Rattle.rules.specs.OneBeam.{clipped_at, clip, marks_along, marks_between, beam_marks, integrated_beam, integrated_from, integrated}
use Rattle.theorems.specs.PromiseThree.{Sweep, Multiples, multiple, odds_within, of_units, pair_of_units, model_of_units, clear_of_floor}
use Rattle.theorems.specs.PromiseThree.AsTests.{sweep_holds, multiples_hold}

-- the binary64 number nearest to n / d, and to - n / d
abbrev pub plus : ℕ → ℕ → Float
plus n d = round binary64 false n d

abbrev pub minus : ℕ → ℕ → Float
minus n d = round binary64 true n d

-- the requirements' model: occupied 0.75, free -0.5, ceiling 4
abbrev pub model : Model
model = plain_model (record { occupied = plus 3 4; free = minus 1 2 }) (plus 4 1)

-- the same in three bands, with smaller steps above
abbrev bands : Model
bands =
    record {
      lowest = model.lowest;
      above = record { cut = 1; pair = record { occupied = plus 1 2; free = minus 1 4 } } ∷ record { cut = 2; pair = record { occupied = plus 1 4; free = minus 1 8 } } ∷ [];
      ceiling = plus 4 1;
      layer = 4;
    }

-- maps of 2 by 2 and of 2 by 2 by 3, in frame 1; the sweep opens frame 2
abbrev pub head2 : Head
head2 = record { extents = 2 ∷ 2 ∷ []; model = model; frame = 1 }

-- the same map in any frame
abbrev in_frame : ℕ → Head
in_frame k = record { extents = 2 ∷ 2 ∷ []; model = model; frame = k }

abbrev pub head3 : Head
head3 = record { extents = 2 ∷ 2 ∷ 3 ∷ []; model = bands; frame = 1 }

-- a beam that hits cell 1, and one that leaves it clear; the points' last coordinates are added for three axes
abbrev pub cloud : List Float → Beam
cloud z = record { origin = half_f ∷ half_f ∷ z; endpoint = plus 3 2 ∷ half_f ∷ z; hit = true }

abbrev pub clear : List Float → Beam
clear z = record { origin = plus 3 2 ∷ plus 3 2 ∷ z; endpoint = plus 3 2 ∷ half_f ∷ z; hit = false }

-- on the floor, above it by more than the clear step, at zero, near the ceiling
abbrev odds4 : List Float
odds4 = minus 4 1 ∷ minus 13 4 ∷ zero_f ∷ plus 15 4 ∷ []

abbrev grid2 : Grid
grid2 = record { odds = odds4; stamps = 0 ∷ 1 ∷ 2 ∷ 3 ∷ [] }

abbrev grid0 : Grid
grid0 = record { odds = odds4; stamps = 0 ∷ 0 ∷ 7 ∷ 1 ∷ [] }

abbrev pub grid3 : Grid
grid3 = record { odds = odds4 ++ odds4 ++ odds4; stamps = 0 ∷ 1 ∷ 2 ∷ 3 ∷ replicate 8 0 }

-- Opening the last of these opens the definitions that the examples compute through, and the library's float
-- operations.
unfoldable opened_floats : ℕ
unfolding number_f mag all_finite round add sub neg mul div lt le eq of_int to_signed to_unsigned of_bits fits
opened_floats = 0

unfoldable opened_grid : ℕ
unfolding cells all_at_least all_at_most fits_capacity extents_in_bounds strides_from strides pair_bounded all_pairs bounded floor pair_at one_per_cell
opened_grid = 0

unfoldable opened_cells : ℕ
unfolding truncated truncated_point within along off_axes on_grid_from times_strides flat_index
opened_cells = 0

unfoldable opened_line : ℕ
unfolding delta deltas larger primary_from primary_of increment step_to axis_of axes_of threshold_of cells_yielded line_between plotter
opened_line = 0

unfoldable opened_steps : ℕ
unfolding other_after primary_after axis_after axes_after last_step earlier_step step_of cells_within line_cells
opened_steps = 0

unfoldable opened_marks : ℕ
unfolding steps_at stamp_of clamp limited freed mark_free occupied_step occupy mark_occupied mark_cell mark_at marked changes opened_frame opened_stamps open_frame
opened_marks = 0

unfoldable opened_clip : ℕ
unfolding larger_of smaller_of cut_to slab slabs directions point_at both_beyond all_within is_inside clamp_axis clamp_point clipped_at clip
opened_clip = 0

unfoldable opened_beams : ℕ
unfolding marks_along marks_between beam_marks integrated_beam integrated_from integrated
opened_beams = 0

unfoldable opened_premises : ℕ
unfolding multiple odds_within of_units pair_of_units model_of_units clear_of_floor
opened_premises = 0

unfoldable pub opened : ℕ
unfolding opened_floats opened_grid opened_cells opened_line opened_steps opened_marks opened_clip opened_beams opened_premises
opened = 0

-- ---- every premise is met
pub record Meets (h : Head) (g : Grid) (bs : List Beam) : Type 0 where
  pub in_binary64 : Sweep binary64 h g bs × Multiples binary64 h g
  pub in_binary32 : Sweep binary32 h g bs × Multiples binary32 h g

pub two_axes : Meets head2 grid2 (clear [] ∷ cloud [] ∷ [])
unfolding opened
two_axes =
    record {
      in_binary64 = (sweep_holds binary64 head2 grid2 (clear [] ∷ cloud [] ∷ []) tt, multiples_hold binary64 head2 grid2 tt tt);
      in_binary32 = (sweep_holds binary32 head2 grid2 (clear [] ∷ cloud [] ∷ []) tt, multiples_hold binary32 head2 grid2 tt tt);
    }

-- in frame 0, in the highest and above it too: frame 1 is opened, after 0 with the stamps as they were lent
pub record AnyFrame : Type 0 where
  pub none_yet : Sweep binary64 (in_frame 0) grid0 (clear [] ∷ cloud [] ∷ [])
  pub highest : Sweep binary64 (in_frame highest_frame) grid2 (clear [] ∷ cloud [] ∷ [])
  pub above : Sweep binary64 (in_frame (highest_frame + 1)) grid2 (clear [] ∷ cloud [] ∷ [])

pub any_frame : AnyFrame
unfolding opened
any_frame =
    record {
      none_yet = sweep_holds binary64 (in_frame 0) grid0 (clear [] ∷ cloud [] ∷ []) tt;
      highest = sweep_holds binary64 (in_frame highest_frame) grid2 (clear [] ∷ cloud [] ∷ []) tt;
      above = sweep_holds binary64 (in_frame (highest_frame + 1)) grid2 (clear [] ∷ cloud [] ∷ []) tt;
    }

pub three_axes : Meets head3 grid3 (clear (half_f ∷ []) ∷ cloud (half_f ∷ []) ∷ [])
unfolding opened
three_axes =
    record {
      in_binary64 = (sweep_holds binary64 head3 grid3 (clear (half_f ∷ []) ∷ cloud (half_f ∷ []) ∷ []) tt, multiples_hold binary64 head3 grid3 tt tt);
      in_binary32 = (sweep_holds binary32 head3 grid3 (clear (half_f ∷ []) ∷ cloud (half_f ∷ []) ∷ []) tt, multiples_hold binary32 head3 grid3 tt tt);
    }
