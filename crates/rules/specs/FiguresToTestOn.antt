-- Requirements, "Figures to test on": every figure marked *, as one record whose fields are the figures, proved of the
-- definitions by computation. Short tables stand below it. `Original` has answers of the original that a careless
-- change of a definition alters where no figure marked * notices; `Added` has some of what the requirements add to the
-- original: refusals, and the map record; `Sweeps` has change request 2's sweep file, `Bands` change request 6's bands,
-- `ManyPoints`, `Charts`, `Upright` and `Seasons` those of requests 4, 8, 11 and 12, `Editions`, `EditionsRead` and
-- `EditionMoves` request 7's edition 2 of the record; `Bounds` has a figure for each bound and each number of a rule
-- that no other figure names.
pub mod Original
pub mod Added
pub mod Sweeps
pub mod Bands
pub mod ManyPoints
pub mod Charts
pub mod Upright
pub mod Seasons
pub mod Editions
pub mod EditionsRead
pub mod EditionMoves
pub mod Bounds
use Rattle.std.specs.Prelude.{ℕ, ◌-◌, Bool, true, false, List, [], ◌∷◌, ◌++◌, map, ◌≡◌, refl, ℤ, pos, length, replicate, get_or, Float}
use Rattle.std.proofs.Math.Option.{Option, some, none}
use Rattle.std.specs.Float.{nan, binary64}
use Rattle.std.specs.Float.Ieee.{round, add, sub, neg, mul, div, lt, le, eq, of_int, to_signed, to_unsigned, to_bits, of_bits, is_nan}
use Rattle.rules.specs.RefusalNumbers.{Answer, given, refused, and_then}
use Rattle.rules.specs.RefusalNumbers.{out_of_bounds}
use Rattle.rules.specs.Floats.{zero_f, half_f, one_f, number_f, mag, all_finite}
use Rattle.rules.specs.TheGridAndItsBounds.{Model, plain_model, Head, Grid, cells, all_at_least, all_at_most, fits_capacity, extents_in_bounds, strides_from, strides, bounded, floor}
use Rattle.rules.specs.TheGridAndItsBounds.{pair_bounded, all_pairs, pair_at, rising, cuts_below, last_extent, cuts_in_bounds, layer_of, one_per_cell, fresh_grid}
use Rattle.rules.specs.Coordinates.{Sample, truncated, truncated_point, within, outside_axes, axis_containing, containing_from, cell_containing, along, off_axes, on_grid_from}
use Rattle.rules.specs.Coordinates.{times_strides, flat_index, folded_axis, stencil_axis, stencil, corners, corner_place, weighed, weighed_without, value_from}
use Rattle.rules.specs.Coordinates.{slope_from, gradient_from, sample_at, sample}
use Rattle.rules.specs.TheLine.{delta, deltas, larger, primary_from, primary_of, increment, step_to, axis_of, axes_of, threshold_of, cells_yielded}
use Rattle.rules.specs.TheLine.{line_between, plotter, other_after, primary_after, axis_after, axes_after, last_step, earlier_step, step_of, cells_within}
use Rattle.rules.specs.TheLine.{line_cells}
use Rattle.rules.specs.MarksAndFrames.{steps_at, stamp_of, clamp, limited, freed, mark_free, occupied_step, occupy, mark_occupied, mark_cell, mark_at, marked, changes}
use Rattle.rules.specs.MarksAndFrames.{set_odds, opened_frame, opened_stamps, open_frame}
use Rattle.rules.specs.OneBeam.{larger_of, smaller_of, cut_to, slab, slabs, directions, point_at, both_beyond, all_within, is_inside, clamp_axis, clamp_point}
use Rattle.rules.specs.OneBeam.{clipped_at, clip, marks_along, marks_between, beam_marks, integrated_beam, integrated_from, integrated, all_bits, flat_shape}
use Rattle.rules.specs.OneBeam.{beams_of}
use Rattle.rules.specs.Fields.{little_endian, from_little_endian, field, field_here, float_bytes, floats_in, field_then, rows_then, nothing_follows, rows_of, rows_tried}
use Rattle.rules.specs.MapRecord.{extent_bytes, extents_in, row_count, rows_bytes}
use Rattle.rules.specs.MapRecord.{record_bytes, rows_offset, odds_in_bounds, joined, odds_then, record_of, any_record_of, rows_checked, record_size}
use Rattle.rules.specs.MapRecord.{bands_from, same_bits, same_pair, equal_pairs, pairs_checked, room_for, writable}
use Rattle.rules.specs.RefusalNumbers.Entries.{Outcome, first_too_small, extents_refusal, head_refusal, new_entry, reset_entry, begin_scan_entry, mark_entry, update_ray_entry}
use Rattle.rules.specs.RefusalNumbers.Entries.{update_scan_entry, set_log_odds_entry, log_odds_at_entry, sample_log_odds_entry, cell_containing_entry, read_record_entry}
use Rattle.rules.specs.RefusalNumbers.Entries.{write_record_entry, set_log_odds_checked_entry}

-- the binary64 number nearest to n / d, and to - n / d
abbrev plus : ℕ → ℕ → Float
plus n d = round binary64 false n d

abbrev minus : ℕ → ℕ → Float
minus n d = round binary64 true n d

abbrev point : Float → Float → List Float
point x y = x ∷ y ∷ []

abbrev cell : ℕ → ℕ → List ℤ
cell x y = pos x ∷ pos y ∷ []

-- "Map 10 by 8; occupied 0.75, free -0.5, ceiling 4; fresh, opened to frame 2."
abbrev model : Model
model = plain_model (record { occupied = plus 3 4; free = minus 1 2 }) (plus 4 1)

abbrev head_of : ℕ → ℕ → ℕ → Head
head_of x y frame = record { extents = x ∷ y ∷ []; model = model; frame = frame }

abbrev fresh : ℕ → ℕ → Grid
fresh x y = fresh_grid (x ∷ y ∷ [])

abbrev hit_on : ℕ → ℕ → List Float → List Float → Outcome ℕ Grid
hit_on x y p q = update_ray_entry binary64 (head_of x y 2) (record { origin = p; endpoint = q; hit = true }) (fresh x y)

abbrev line_of : List Float → List Float → Answer (List (List ℤ))
line_of p q = and_then (plotter binary64 p q) (λ l. given (line_cells binary64 l))

-- what a beam leaves of a fresh map of n cells: its count, the first cells' odds and stamps; the rest stays fresh
abbrev leaves : ℕ → ℕ → List Float → List ℕ → Outcome ℕ Grid
leaves n count odds stamps =
    record {
      answer = given count;
      lent = record { odds = odds ++ replicate (n - length odds) zero_f; stamps = stamps ++ replicate (n - length stamps) 0 };
    }

-- a cell of these odds, last marked in an earlier frame, after marks in frame 2
abbrev odds_after : List Bool → Float → Float
odds_after occupied o =
    get_or (marked binary64 model 2 (map (λ (b : Bool). record { place = 0; occupied = b }) occupied) (record { odds = o ∷ []; stamps = 0 ∷ [] })).odds 0 nan

abbrev sample_of : List Float → Float → Float → Answer (Option Sample)
sample_of odds x y = sample_log_odds_entry binary64 (head_of 2 2 2) (point x y) odds

abbrev sampled : Float → Float → Float → Answer (Option Sample)
sampled v gx gy = given (some (record { value = v; gradient = gx ∷ gy ∷ [] }))

abbrev up_to3 : List Float
up_to3 = zero_f ∷ one_f ∷ plus 2 1 ∷ plus 3 1 ∷ []

-- a map of 2 by 2 with these odds, all of an earlier frame
abbrev lent : List Float → Grid
lent odds = record { odds = odds; stamps = 0 ∷ 0 ∷ 0 ∷ 0 ∷ [] }

-- a list of beams on a fresh map of 2 by 2 in frame 2
abbrev scan_of : List Float → List ℕ → Outcome ℕ Grid
scan_of numbers hits = update_scan_entry binary64 (head_of 2 2 2) numbers hits (fresh 2 2)

abbrev containing : Float → Answer (List ℤ)
containing x = cell_containing_entry binary64 (head_of 10 8 2) (point x zero_f)

-- opening a sweep of a map of 2 by 2 whose stamps are all 9
abbrev opens : ℕ → Outcome Head (List ℕ)
opens frame = begin_scan_entry (head_of 2 2 frame) (9 ∷ 9 ∷ 9 ∷ 9 ∷ [])

pub record Figures : Type 0 where
  -- "*Line (0.5,0.5) to (3.4,0.5): x 0, 1, 3."
  pub line_skips_two : line_of (point half_f half_f) (point (plus 34 10) half_f) ≡ given (cell 0 0 ∷ cell 1 0 ∷ cell 3 0 ∷ [])
  -- "*(0.9,0.5) to (1.1,0.5): only (1,0)."
  pub line_of_one : line_of (point (plus 9 10) half_f) (point (plus 11 10) half_f) ≡ given (cell 1 0 ∷ [])
  -- "*Line (0.5,0.5) to (4.5,2.5): (0,0) (1,0) (2,1) (3,1) (4,2)."
  pub line-aslant :
      line_of (point half_f half_f) (point (plus 9 2) (plus 5 2)) ≡ given (cell 0 0 ∷ cell 1 0 ∷ cell 2 1 ∷ cell 3 1 ∷ cell 4 2 ∷ [])
  -- "*Hit (0.5,0.5) to (4.5,0.5): count 5; x 0 to 3 at -0.5, stamp 4; x 4 at 0.75, stamp 5."
  pub hit-inside :
      hit_on 10 8 (point half_f half_f) (point (plus 9 2) half_f) ≡ leaves 80 5 (replicate 4 (minus 1 2) ++ plus 3 4 ∷ []) (replicate 4 4 ++ 5 ∷ [])
  -- "*Hit to (14.5,0.5): count 10, all free."
  pub hit_beyond : hit_on 10 8 (point half_f half_f) (point (plus 29 2) half_f) ≡ leaves 80 10 (replicate 10 (minus 1 2)) (replicate 10 4)
  -- "*Hit (7.5,0.5) to (10,0.5): count 3, all free."
  pub hit-on-the-face :
      hit_on 10 8 (point (plus 15 2) half_f) (point (plus 10 1) half_f)
      ≡ leaves 80 3 (replicate 7 zero_f ++ replicate 3 (minus 1 2)) (replicate 7 0 ++ replicate 3 4)
  -- "*Hit (12,4) to (10,4): 0."
  pub hit_missing : hit_on 10 8 (point (plus 12 1) (plus 4 1)) (point (plus 10 1) (plus 4 1)) ≡ leaves 80 0 [] []
  -- "*Cell -3.75, free then occupied: -3.25; occupied alone: -3.0."
  pub near_the_floor : odds_after (false ∷ true ∷ []) (minus 15 4) ≡ minus 13 4
  pub near_the_floor_alone : odds_after (true ∷ []) (minus 15 4) ≡ minus 3 1
  -- "*Cell -2: -1.25 both ways."
  pub above_the_floor : odds_after (false ∷ true ∷ []) (minus 2 1) ≡ minus 5 4
  pub above_the_floor_alone : odds_after (true ∷ []) (minus 2 1) ≡ minus 5 4
  -- "*Map 2 by 2, odds 0,1,2,3: at (0.5,0.5) 1.5, gradient (1,2); at (1,1) 3, gradient (1,2); (1.25,0) nothing."
  pub sample-between : sample_of up_to3 half_f half_f ≡ sampled (plus 3 2) one_f (plus 2 1)
  pub sample_at_a_cell : sample_of up_to3 one_f one_f ≡ sampled (plus 3 1) one_f (plus 2 1)
  pub sample_of_nothing : sample_of up_to3 (plus 5 4) zero_f ≡ given none
  -- "*`cell_containing` x -0.5: 5 with index 0; x 10: 5 with index 10."
  pub containing-below : containing (minus 1 2) ≡ refused (out_of_bounds 0 (pos 0) 10 1)
  pub containing_on_the_face : containing (plus 10 1) ≡ refused (out_of_bounds 0 (pos 10) 10 1)
  -- "*Frame 2147483646 opens 2147483647; 2147483647 clears and opens 1."
  pub opens_the_highest : opens 2147483646 ≡ record { answer = given (head_of 2 2 2147483647); lent = 9 ∷ 9 ∷ 9 ∷ 9 ∷ [] }
  pub opens_again_at_one : opens 2147483647 ≡ record { answer = given (head_of 2 2 1); lent = 0 ∷ 0 ∷ 0 ∷ 0 ∷ [] }

-- Opening this one opens every definition of the rules and the library's float operations, so that the figures compute.
unfoldable opened : ℕ
unfolding number_f mag all_finite cells all_at_least all_at_most fits_capacity extents_in_bounds strides_from strides pair_bounded all_pairs bounded floor pair_at rising cuts_below last_extent cuts_in_bounds layer_of one_per_cell fresh_grid truncated truncated_point within outside_axes axis_containing containing_from cell_containing along off_axes on_grid_from times_strides flat_index folded_axis stencil_axis stencil corners corner_place weighed weighed_without value_from slope_from gradient_from sample_at sample delta deltas larger primary_from primary_of increment step_to axis_of axes_of threshold_of cells_yielded line_between plotter other_after primary_after axis_after axes_after last_step earlier_step step_of cells_within line_cells steps_at stamp_of clamp limited freed mark_free occupied_step occupy mark_occupied mark_cell mark_at marked changes set_odds opened_frame opened_stamps open_frame larger_of smaller_of cut_to slab slabs directions point_at both_beyond all_within is_inside clamp_axis clamp_point clipped_at clip marks_along marks_between beam_marks integrated_beam integrated_from integrated all_bits flat_shape beams_of little_endian from_little_endian field field_here extent_bytes extents_in float_bytes floats_in row_count rows_bytes record_bytes rows_offset odds_in_bounds field_then rows_then nothing_follows rows_of rows_tried joined odds_then record_of any_record_of bands_from same_bits same_pair equal_pairs pairs_checked rows_checked record_size room_for writable first_too_small extents_refusal head_refusal new_entry reset_entry begin_scan_entry mark_entry update_ray_entry update_scan_entry set_log_odds_entry set_log_odds_checked_entry log_odds_at_entry sample_log_odds_entry cell_containing_entry read_record_entry write_record_entry round add sub neg mul div lt le eq of_int to_signed to_unsigned to_bits of_bits is_nan
opened = 0

pub figures : Figures
unfolding opened
figures =
    record {
      line_skips_two = refl;
      line_of_one = refl;
      line-aslant = refl;
      hit-inside = refl;
      hit_beyond = refl;
      hit-on-the-face = refl;
      hit_missing = refl;
      near_the_floor = refl;
      near_the_floor_alone = refl;
      above_the_floor = refl;
      above_the_floor_alone = refl;
      sample-between = refl;
      sample_at_a_cell = refl;
      sample_of_nothing = refl;
      containing-below = refl;
      containing_on_the_face = refl;
      opens_the_highest = refl;
      opens_again_at_one = refl;
    }
