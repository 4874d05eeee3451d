-- Change request 7 by example: what is read of edition 2 of the map record, and what is refused, at which offset. The
-- bytes are those of `Editions`, with some of them changed. One table, proved of the definitions by computation.
use Rattle.std.specs.Prelude.{ℕ, Bool, true, false, List, [], ◌∷◌, ◌++◌, ◌≡◌, refl, negsuc, replicate, set, take, drop}
use Rattle.std.specs.Float.{fin}
use Rattle.rules.specs.RefusalNumbers.{Refusal, Answer, given, refused, bad_buffer, broken_record}
use Rattle.rules.specs.RefusalNumbers.Entries.{Outcome}
use Rattle.rules.specs.RefusalNumbers.Editions.{Loaded, read_edition_entry}
use Rattle.rules.specs.TheGridAndItsBounds.{Grid}
use Rattle.rules.specs.MapRecord.{record_bytes, record_of, any_record_of}
use Rattle.rules.specs.EditionTwo.{Kept, edition_of}
use Rattle.rules.specs.FiguresToTestOn.{plus, head_of, up_to3}
use Rattle.rules.specs.FiguresToTestOn.Editions.{edition, low_pair, open_mark, first_odds, second_odds, second_stamps}
use Rattle.rules.specs.FiguresToTestOn.Editions.{end, flat_head, flat_grid, banded_with, solid_grid, keeps}
use Rattle.rules.specs.FiguresToTestOn.Editions.{open_record, closed_record, closed_solid, editions_opened}

abbrev broken_at : ℕ → Answer Kept
broken_at offset = refused (broken_record offset)

-- at the highest frame, the highest stamp in the second cell
abbrev highest : List ℕ
highest =
    edition ++ 1 ∷ 4 ∷ 0 ∷ 2 ∷ 0 ∷ 2 ∷ 0 ∷ low_pair ++ 3 ∷ 4 ∷ 0 ∷ 255 ∷ 255 ∷ 255 ∷ 127 ∷ open_mark
    ++ first_odds ++ 9 ∷ 8 ∷ 0 ∷ 0 ∷ 0 ∷ 0 ∷ 0 ∷ 255 ∷ 255 ∷ 255 ∷ 255 ∷ second_odds ++ second_stamps ++ end

-- the record with another last bit of the ceiling in its first, second or third pair
abbrev other_ceiling : ℕ → List ℕ → List ℕ
other_ceiling at bytes = set bytes at 1

abbrev with_cuts : ℕ → ℕ → List ℕ
with_cuts first second = set (set closed_solid 97 first) 99 second

abbrev nines : ℕ → ℕ → Grid
nines n k = record { odds = replicate n (plus 9 1); stamps = replicate k 9 }

abbrev loading : List ℕ → ℕ → ℕ → Outcome Loaded Grid
loading bytes n k = read_edition_entry 2 bytes (nines n k)

abbrev staying : Refusal → ℕ → ℕ → Outcome Loaded Grid
staying r n k = record { answer = refused r; lent = nines n k }

abbrev loaded : Bool → Grid → Outcome Loaded Grid
loaded running g = record { answer = given (record { head = flat_head; running = running }); lent = g }

pub record EditionReadings : Type 0 where
  -- tag 6 of 1, of 3 and of two bytes; each edition given to the other's reader
  pub edition_one_said : edition_of 2 (set open_record 3 1) ≡ broken_at 0
  pub edition_three_said : edition_of 2 (set open_record 3 3) ≡ broken_at 0
  pub edition_of_two_bytes : edition_of 2 (6 ∷ 2 ∷ 0 ∷ 2 ∷ 0 ∷ drop 4 open_record) ≡ broken_at 0
  pub edition_one_given : edition_of 2 (record_bytes flat_head up_to3) ≡ broken_at 0
  pub given_to_edition_one : record_of 2 closed_record ≡ refused (broken_record 0)
  pub given_to_either_of_one : any_record_of closed_record ≡ refused (broken_record 0)
  -- the other number of axes; an extent of 1; a ceiling of 0; frames 0 and 2,147,483,648, and the highest
  pub three_axes_asked : edition_of 3 open_record ≡ broken_at 4
  pub two_axes_asked : edition_of 2 closed_solid ≡ broken_at 4
  pub extent_too_small : edition_of 2 (set open_record 9 1) ≡ broken_at 4
  pub model_off_bounds : edition_of 2 (set (set open_record 36 0) 37 0) ≡ broken_at 11
  pub frame_of_zero : edition_of 2 (set (set open_record 41 0) 42 0) ≡ broken_at 38
  pub frame_too_high : edition_of 2 (set highest 44 128) ≡ broken_at 38
  pub highest_read : edition_of 2 highest ≡ keeps (head_of 2 2 2147483647) true up_to3 (0 ∷ 4294967295 ∷ 516 ∷ 3 ∷ [])
  -- a later pair off its bounds, and one whose ceiling differs from the first in its last bit; all three alike
  pub middle_off_bounds : edition_of 3 (set (set closed_solid 49 0) 50 0) ≡ broken_at 40
  pub high_off_bounds : edition_of 3 (set (set closed_solid 84 0) 85 0) ≡ broken_at 67
  pub middle_ceiling : edition_of 3 (other_ceiling 59 closed_solid) ≡ broken_at 40
  pub high_ceiling : edition_of 3 (other_ceiling 86 closed_solid) ≡ broken_at 67
  pub low_ceiling : edition_of 3 (other_ceiling 32 closed_solid) ≡ broken_at 40
  pub low_and_middle_ceiling : edition_of 3 (other_ceiling 59 (other_ceiling 32 closed_solid)) ≡ broken_at 67
  pub other-ceiling :
      edition_of 3 (other_ceiling 86 (other_ceiling 59 (other_ceiling 32 closed_solid)))
      ≡ keeps (banded_with (fin false 4503599627370497 (negsuc 49))) false solid_grid.odds (replicate 12 0)
  -- cuts 1 and 2 of the extent 3 stand, the lowest and the highest there are; 0 and 2, 1 and 1, 2 and 1, 1 and 3 do not
  pub first_cut_zero : edition_of 3 (with_cuts 0 2) ≡ broken_at 94
  pub cuts-equal : edition_of 3 (with_cuts 1 1) ≡ broken_at 94
  pub cuts_falling : edition_of 3 (with_cuts 2 1) ≡ broken_at 94
  pub second_cut_at_the_extent : edition_of 3 (with_cuts 1 3) ≡ broken_at 94
  -- a mark of 2; an open mark on closed rows, and the other way round
  pub mark_of_two : edition_of 2 (set open_record 48 2) ≡ broken_at 45
  pub stamps_absent : edition_of 2 (set closed_record 48 1) ≡ broken_at 68
  pub stamps_unasked : edition_of 2 (set open_record 48 0) ≡ broken_at 68
  -- 517, the frame twice and one more, stands above; 518 breaks its row of stamps, before wrong odds of a later row
  -- and after wrong odds of its own
  pub stamp_too_high : edition_of 2 (set open_record 75 6) ≡ broken_at 68
  pub last_stamps_too_high : edition_of 2 (set open_record 101 6) ≡ broken_at 98
  pub later_odds_too_high : edition_of 2 (set open_record 96 24) ≡ broken_at 79
  pub stamp_before_later_odds : edition_of 2 (set (set open_record 96 24) 75 6) ≡ broken_at 68
  pub odds_before_their_stamps : edition_of 2 (set (set open_record 67 64) 75 6) ≡ broken_at 49
  -- no end; cut within a row of stamps; bytes after the end
  pub end_absent : edition_of 2 (take 109 open_record) ≡ broken_at 109
  pub cut_short : edition_of 2 (take 108 open_record) ≡ broken_at 98
  pub byte_after_open : edition_of 2 (open_record ++ 0 ∷ []) ≡ broken_at 112
  pub byte_after_closed : edition_of 2 (closed_record ++ 0 ∷ []) ≡ broken_at 90
  -- the entry: 10, then 4 for either list, and nothing is written; a closed record gives stamps 0
  pub record_before_lists : loading (set open_record 75 6) 3 4 ≡ staying (broken_record 68) 3 4
  pub odds_too_few : loading open_record 3 4 ≡ staying bad_buffer 3 4
  pub odds_too_many : loading open_record 5 4 ≡ staying bad_buffer 5 4
  pub stamps_too_few : loading open_record 4 3 ≡ staying bad_buffer 4 3
  pub stamps_too_many : loading closed_record 4 5 ≡ staying bad_buffer 4 5
  pub open_loaded : loading open_record 4 4 ≡ loaded true flat_grid
  pub closed_loaded : loading closed_record 4 4 ≡ loaded false (record { odds = up_to3; stamps = 0 ∷ 0 ∷ 0 ∷ 0 ∷ [] })

pub edition_readings : EditionReadings
unfolding editions_opened
edition_readings =
    record {
      edition_one_said = refl;
      edition_three_said = refl;
      edition_of_two_bytes = refl;
      edition_one_given = refl;
      given_to_edition_one = refl;
      given_to_either_of_one = refl;
      three_axes_asked = refl;
      two_axes_asked = refl;
      extent_too_small = refl;
      model_off_bounds = refl;
      frame_of_zero = refl;
      frame_too_high = refl;
      highest_read = refl;
      middle_off_bounds = refl;
      high_off_bounds = refl;
      middle_ceiling = refl;
      high_ceiling = refl;
      low_ceiling = refl;
      low_and_middle_ceiling = refl;
      other-ceiling = refl;
      first_cut_zero = refl;
      cuts-equal = refl;
      cuts_falling = refl;
      second_cut_at_the_extent = refl;
      mark_of_two = refl;
      stamps_absent = refl;
      stamps_unasked = refl;
      stamp_too_high = refl;
      last_stamps_too_high = refl;
      later_odds_too_high = refl;
      stamp_before_later_odds = refl;
      odds_before_their_stamps = refl;
      end_absent = refl;
      cut_short = refl;
      byte_after_open = refl;
      byte_after_closed = refl;
      record_before_lists = refl;
      odds_too_few = refl;
      odds_too_many = refl;
      stamps_too_few = refl;
      stamps_too_many = refl;
      open_loaded = refl;
      closed_loaded = refl;
    }
