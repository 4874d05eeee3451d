-- What the requirements add to the original, by example: the order of refusals, and the map record. One table, proved
-- of the definitions by computation.
use Rattle.std.specs.Prelude.{ℕ, List, [], ◌∷◌, ◌++◌, map, ◌≡◌, refl, true, pos, negsuc, length, replicate, set, take, Float}
use Rattle.std.specs.Float.{nan, binary64}
use Rattle.rules.specs.RefusalNumbers.{given, refused}
use Rattle.rules.specs.RefusalNumbers.{dimension_too_small, capacity_overflow, bad_model, bad_buffer}
use Rattle.rules.specs.RefusalNumbers.{out_of_bounds, non_finite_coordinate, bad_beams, bad_frame, broken_record, no_room, odds_not_a_number}
use Rattle.rules.specs.Floats.{zero_f, half_f, one_f}
use Rattle.rules.specs.TheGridAndItsBounds.{Model, plain_model, Head, Grid}
use Rattle.rules.specs.Coordinates.{flat_index, cell_containing}
use Rattle.rules.specs.MapRecord.{record_bytes, any_record_of}
use Rattle.rules.specs.RefusalNumbers.Entries.{Outcome, new_entry}
use Rattle.rules.specs.RefusalNumbers.Entries.{update_scan_entry, read_record_entry}
use Rattle.rules.specs.RefusalNumbers.Entries.{mark_entry, write_record_entry, set_log_odds_checked_entry}
use Rattle.rules.specs.FiguresToTestOn.{plus, minus, model, head_of, fresh, up_to3, lent, scan_of, opened}

-- the record of the map of 2 by 2 with odds 0, 1, 2, 3 at frame 2
abbrev stored : List ℕ
stored = record_bytes (head_of 2 2 2) up_to3

-- its fields in bytes
abbrev extents_part : List ℕ
extents_part = 1 ∷ 4 ∷ 0 ∷ 2 ∷ 0 ∷ 2 ∷ 0 ∷ []

abbrev model_part : List ℕ
model_part =
    2 ∷ 24 ∷ 0
    ∷ 0 ∷ 0 ∷ 0 ∷ 0 ∷ 0 ∷ 0 ∷ 232 ∷ 63
    ∷ 0 ∷ 0 ∷ 0 ∷ 0 ∷ 0 ∷ 0 ∷ 224 ∷ 191
    ∷ 0 ∷ 0 ∷ 0 ∷ 0 ∷ 0 ∷ 0 ∷ 16 ∷ 64
    ∷ []

abbrev frame_part : List ℕ
frame_part = 3 ∷ 4 ∷ 0 ∷ 2 ∷ 0 ∷ 0 ∷ 0 ∷ []

abbrev rows_part : List ℕ
rows_part =
    4 ∷ 16 ∷ 0
    ∷ 0 ∷ 0 ∷ 0 ∷ 0 ∷ 0 ∷ 0 ∷ 0 ∷ 0
    ∷ 0 ∷ 0 ∷ 0 ∷ 0 ∷ 0 ∷ 0 ∷ 240 ∷ 63
    ∷ 4 ∷ 16 ∷ 0
    ∷ 0 ∷ 0 ∷ 0 ∷ 0 ∷ 0 ∷ 0 ∷ 0 ∷ 64
    ∷ 0 ∷ 0 ∷ 0 ∷ 0 ∷ 0 ∷ 0 ∷ 8 ∷ 64
    ∷ []

-- the floor and the ceiling, and zeros of both signs
abbrev at_bounds : List Float
at_bounds = minus 4 1 ∷ plus 4 1 ∷ zero_f ∷ minus 0 1 ∷ []

abbrev new_of : List ℕ → Model → Outcome Head Grid
new_of es m = new_entry es m (lent up_to3)

abbrev reading : List ℕ → Outcome Head Grid
reading bytes = read_record_entry 2 [] bytes (lent (nan ∷ nan ∷ nan ∷ nan ∷ []))

abbrev broken_at : ℕ → Outcome Head Grid
broken_at offset = record { answer = refused (broken_record offset); lent = lent (nan ∷ nan ∷ nan ∷ nan ∷ []) }

pub record AddedAnswers : Type 0 where
  -- `new`, and its refusals in their order: 1 on all axes before 2, then 3, then 4
  pub new_is_fresh : new_of (2 ∷ 2 ∷ []) model ≡ record { answer = given (head_of 2 2 1); lent = fresh 2 2 }
  pub too_small_before_too_many : (new_of (5000 ∷ 1 ∷ []) model).answer ≡ refused (dimension_too_small 1 1)
  pub too_many_cells : (new_of (256 ∷ 256 ∷ 257 ∷ []) model).answer ≡ refused capacity_overflow
  pub model_before_buffer : (new_of (3 ∷ 3 ∷ []) (plain_model (record { occupied = nan; free = minus 1 2 }) (plus 4 1))).answer ≡ refused bad_model
  pub buffer_too_short : new_of (3 ∷ 3 ∷ []) model ≡ record { answer = refused bad_buffer; lent = lent up_to3 }
  -- frame 0 and one above the highest, before a bad list; a byte of 2; numbers left over
  pub frame_before_beams : (update_scan_entry binary64 (head_of 2 2 0) [] (2 ∷ []) (fresh 2 2)).answer ≡ refused bad_frame
  pub frame_too_high : (update_scan_entry binary64 (head_of 2 2 2147483648) [] [] (fresh 2 2)).answer ≡ refused bad_frame
  pub strange_byte : (scan_of (half_f ∷ half_f ∷ half_f ∷ half_f ∷ []) (2 ∷ [])).answer ≡ refused bad_beams
  pub numbers_left_over : (scan_of (half_f ∷ []) []).answer ≡ refused bad_beams
  -- "Map 2 by 2: 82 bytes."
  pub bytes_of_two_by_two : length stored ≡ 82
  -- field by field: the extents 2 and 2; the model 0.75, -0.5 and 4; the frame 2; two rows, 0 and 1, 2 and 3; the end
  pub byte_by_byte : stored ≡ extents_part ++ model_part ++ frame_part ++ rows_part ++ 5 ∷ 0 ∷ 0 ∷ []
  pub reads_what_was_written : reading stored ≡ record { answer = given (head_of 2 2 2); lent = lent up_to3 }
  pub any_number_of_axes : any_record_of stored ≡ given (record { head = head_of 2 2 2; odds = up_to3 })
  -- an extent of 1; an occupied step of 0; frame 0; no end; a number of axes that no map has
  pub extent_too_small : reading (set stored 3 1) ≡ broken_at 0
  pub model_off_bounds : reading (set (set stored 16 0) 17 0) ≡ broken_at 7
  pub frame_not_open : reading (set stored 37 0) ≡ broken_at 34
  pub end_absent : reading (take 79 stored) ≡ broken_at 79
  pub no_such_axes : any_record_of (set stored 1 8) ≡ refused (broken_record 0)
  -- cut short within the last row; bytes after the end; odds above the ceiling; two axes asked of a record of three
  pub cut_short : reading (take 78 stored) ≡ broken_at 60
  pub bytes_after_the_end : reading (stored ++ 0 ∷ []) ≡ broken_at 82
  pub odds_too_high : reading (record_bytes (head_of 2 2 2) (zero_f ∷ plus 5 1 ∷ plus 2 1 ∷ plus 3 1 ∷ [])) ≡ broken_at 41
  -- change request 3: NaN breaks its row, read and written; the floor and the ceiling themselves do not
  pub nan_read : reading (record_bytes (head_of 2 2 2) (zero_f ∷ zero_f ∷ nan ∷ zero_f ∷ [])) ≡ broken_at 60
  pub nan_written : write_record_entry (head_of 2 2 2) (nan ∷ zero_f ∷ zero_f ∷ zero_f ∷ []) [] ≡ record { answer = refused (broken_record 41); lent = [] }
  pub bounds_read : reading (record_bytes (head_of 2 2 2) at_bounds) ≡ record { answer = given (head_of 2 2 2); lent = lent at_bounds }
  -- the checked setter: NaN is refused with 13, after 5; else it sets as `set_log_odds` does
  pub nan-set : set_log_odds_checked_entry (head_of 2 2 2) (pos 0 ∷ pos 0 ∷ []) nan up_to3 ≡ record { answer = refused odds_not_a_number; lent = up_to3 }
  pub off_grid_before_nan : set_log_odds_checked_entry (head_of 2 2 2) (pos 0 ∷ pos 2 ∷ []) nan up_to3 ≡ record { answer = refused (out_of_bounds 1 (pos 2) 2 2); lent = up_to3 }
  pub number_set :
      set_log_odds_checked_entry (head_of 2 2 2) (pos 0 ∷ pos 0 ∷ []) (plus 9 1) up_to3
      ≡ record { answer = given tt; lent = plus 4 1 ∷ one_f ∷ plus 2 1 ∷ plus 3 1 ∷ [] }
  -- change request 1: every axis that is off, beside the first one's index and extent; of a point, those before the
  -- first that is not finite
  pub both-axes-off :
      mark_entry binary64 true (head_of 2 2 2) (negsuc 0 ∷ pos 5 ∷ []) (fresh 2 2) ≡ record { answer = refused (out_of_bounds 0 (negsuc 0) 2 3); lent = fresh 2 2 }
  pub last_two_off : flat_index (4 ∷ 3 ∷ 2 ∷ []) (pos 3 ∷ pos 3 ∷ pos 2 ∷ []) ≡ refused (out_of_bounds 1 (pos 3) 3 6)
  pub first_and_last_off : flat_index (4 ∷ 3 ∷ 2 ∷ []) (pos 4 ∷ pos 0 ∷ negsuc 6 ∷ []) ≡ refused (out_of_bounds 0 (pos 4) 4 5)
  pub point_off : cell_containing binary64 (4 ∷ 3 ∷ 2 ∷ []) (plus 9 1 ∷ one_f ∷ plus 2 1 ∷ []) ≡ refused (out_of_bounds 0 (pos 9) 4 5)
  pub point_off_before_nan : cell_containing binary64 (4 ∷ 3 ∷ 2 ∷ []) (plus 9 1 ∷ nan ∷ plus 2 1 ∷ []) ≡ refused (out_of_bounds 0 (pos 9) 4 1)
  pub nan_before_point_off : cell_containing binary64 (4 ∷ 3 ∷ 2 ∷ []) (one_f ∷ nan ∷ plus 2 1 ∷ []) ≡ refused (non_finite_coordinate 1)
  pub three_axes_for_two : reading (record_bytes (record { extents = 2 ∷ 2 ∷ 2 ∷ []; model = model; frame = 2 }) (up_to3 ++ up_to3)) ≡ broken_at 0
  -- writing: the bytes first, the rest of what was lent stays; odds before room
  pub writes_the_record : write_record_entry (head_of 2 2 2) up_to3 (replicate 83 7) ≡ record { answer = given 82; lent = stored ++ 7 ∷ [] }
  pub no_room_lem : write_record_entry (head_of 2 2 2) up_to3 (replicate 81 7) ≡ record { answer = refused (no_room 82); lent = replicate 81 7 }
  pub row-before-room :
      write_record_entry (head_of 2 2 2) (zero_f ∷ one_f ∷ plus 5 1 ∷ zero_f ∷ []) [] ≡ record { answer = refused (broken_record 60); lent = [] }

pub added_answers : AddedAnswers
unfolding opened
added_answers =
    record {
      new_is_fresh = refl;
      too_small_before_too_many = refl;
      too_many_cells = refl;
      model_before_buffer = refl;
      buffer_too_short = refl;
      frame_before_beams = refl;
      frame_too_high = refl;
      strange_byte = refl;
      numbers_left_over = refl;
      bytes_of_two_by_two = refl;
      byte_by_byte = refl;
      reads_what_was_written = refl;
      any_number_of_axes = refl;
      extent_too_small = refl;
      model_off_bounds = refl;
      frame_not_open = refl;
      end_absent = refl;
      no_such_axes = refl;
      cut_short = refl;
      bytes_after_the_end = refl;
      odds_too_high = refl;
      nan_read = refl;
      nan_written = refl;
      bounds_read = refl;
      nan-set = refl;
      off_grid_before_nan = refl;
      number_set = refl;
      both-axes-off = refl;
      last_two_off = refl;
      first_and_last_off = refl;
      point_off = refl;
      point_off_before_nan = refl;
      nan_before_point_off = refl;
      three_axes_for_two = refl;
      writes_the_record = refl;
      no_room_lem = refl;
      row-before-room = refl;
    }
