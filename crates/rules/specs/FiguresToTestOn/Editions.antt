-- Change request 7 by example: edition 2 of the map record byte by byte, and its sizes. The bytes are written down by
-- hand from the request's words. `EditionsRead` has the refusals of reading, `EditionMoves` the writing and the moves.
-- One table, proved of the definitions by computation.
use Rattle.std.specs.Prelude.{ℕ, Bool, true, false, List, [], ◌∷◌, ◌++◌, ◌≡◌, refl, length, replicate, Float}
use Rattle.rules.specs.RefusalNumbers.{Answer, given}
use Rattle.rules.specs.RefusalNumbers.Editions.{read_edition_entry, write_edition_entry, upgrade_entry, downgrade_entry}
use Rattle.rules.specs.Floats.{zero_f}
use Rattle.rules.specs.TheGridAndItsBounds.{Pair, Head, Grid}
use Rattle.rules.specs.EditionTwo.{Kept, edition_bytes, edition_of, edition_size, cuts_for, bands_over, stamp_bytes}
use Rattle.rules.specs.EditionTwo.{stamps_in, none_above, pairs_bytes, cuts_of, bands_bytes, grid_bytes, grid_of_rows}
use Rattle.rules.specs.EditionTwo.{rows_and_end, bands_size, grid_offset, grid_tried, edition_room, edition_writable}
use Rattle.rules.specs.FiguresToTestOn.{plus, minus, head_of, up_to3, opened}

-- ---- two axes: 2 by 2, odds 0, 1, 2, 3 at frame 258. The second cell was marked as cloud in that frame, the third as
-- clear, the last in frame 1.
abbrev pub flat_head : Head
flat_head = head_of 2 2 258

abbrev pub stamps : List ℕ
stamps = 0 ∷ 517 ∷ 516 ∷ 3 ∷ []

abbrev pub flat_grid : Grid
flat_grid = record { odds = up_to3; stamps = stamps }

abbrev pub edition : List ℕ
edition = 6 ∷ 1 ∷ 0 ∷ 2 ∷ []

-- 0.75, -0.5 and 4
abbrev pub low_pair : List ℕ
low_pair =
    2 ∷ 24 ∷ 0
    ∷ 0 ∷ 0 ∷ 0 ∷ 0 ∷ 0 ∷ 0 ∷ 232 ∷ 63
    ∷ 0 ∷ 0 ∷ 0 ∷ 0 ∷ 0 ∷ 0 ∷ 224 ∷ 191
    ∷ 0 ∷ 0 ∷ 0 ∷ 0 ∷ 0 ∷ 0 ∷ 16 ∷ 64
    ∷ []

abbrev frame : List ℕ
frame = 3 ∷ 4 ∷ 0 ∷ 2 ∷ 1 ∷ 0 ∷ 0 ∷ []

abbrev closed_mark : List ℕ
closed_mark = 8 ∷ 1 ∷ 0 ∷ 0 ∷ []

abbrev pub open_mark : List ℕ
open_mark = 8 ∷ 1 ∷ 0 ∷ 1 ∷ []

-- the rows of odds, 0 and 1, 2 and 3, and those of stamps
abbrev pub first_odds : List ℕ
first_odds = 4 ∷ 16 ∷ 0 ∷ 0 ∷ 0 ∷ 0 ∷ 0 ∷ 0 ∷ 0 ∷ 0 ∷ 0 ∷ 0 ∷ 0 ∷ 0 ∷ 0 ∷ 0 ∷ 0 ∷ 240 ∷ 63 ∷ []

abbrev pub second_odds : List ℕ
second_odds = 4 ∷ 16 ∷ 0 ∷ 0 ∷ 0 ∷ 0 ∷ 0 ∷ 0 ∷ 0 ∷ 0 ∷ 64 ∷ 0 ∷ 0 ∷ 0 ∷ 0 ∷ 0 ∷ 0 ∷ 8 ∷ 64 ∷ []

abbrev first_stamps : List ℕ
first_stamps = 9 ∷ 8 ∷ 0 ∷ 0 ∷ 0 ∷ 0 ∷ 0 ∷ 5 ∷ 2 ∷ 0 ∷ 0 ∷ []

abbrev pub second_stamps : List ℕ
second_stamps = 9 ∷ 8 ∷ 0 ∷ 4 ∷ 2 ∷ 0 ∷ 0 ∷ 3 ∷ 0 ∷ 0 ∷ 0 ∷ []

abbrev pub end : List ℕ
end = 5 ∷ 0 ∷ 0 ∷ []

abbrev flat_start : List ℕ
flat_start = edition ++ 1 ∷ 4 ∷ 0 ∷ 2 ∷ 0 ∷ 2 ∷ 0 ∷ low_pair ++ frame

abbrev pub open_record : List ℕ
open_record = flat_start ++ open_mark ++ first_odds ++ first_stamps ++ second_odds ++ second_stamps ++ end

abbrev pub closed_record : List ℕ
closed_record = flat_start ++ closed_mark ++ first_odds ++ second_odds ++ end

-- ---- three axes: 2 by 2 by 3, cuts 1 and 2, at frame 258
-- 0.5, -0.25 and 4; 0.25, -0.125 and 4
abbrev middle_pair : List ℕ
middle_pair =
    2 ∷ 24 ∷ 0
    ∷ 0 ∷ 0 ∷ 0 ∷ 0 ∷ 0 ∷ 0 ∷ 224 ∷ 63
    ∷ 0 ∷ 0 ∷ 0 ∷ 0 ∷ 0 ∷ 0 ∷ 208 ∷ 191
    ∷ 0 ∷ 0 ∷ 0 ∷ 0 ∷ 0 ∷ 0 ∷ 16 ∷ 64
    ∷ []

abbrev high_pair : List ℕ
high_pair =
    2 ∷ 24 ∷ 0
    ∷ 0 ∷ 0 ∷ 0 ∷ 0 ∷ 0 ∷ 0 ∷ 208 ∷ 63
    ∷ 0 ∷ 0 ∷ 0 ∷ 0 ∷ 0 ∷ 0 ∷ 192 ∷ 191
    ∷ 0 ∷ 0 ∷ 0 ∷ 0 ∷ 0 ∷ 0 ∷ 16 ∷ 64
    ∷ []

abbrev solid_start : List ℕ → List ℕ → List ℕ
solid_start middle high =
    edition ++ 1 ∷ 6 ∷ 0 ∷ 2 ∷ 0 ∷ 2 ∷ 0 ∷ 3 ∷ 0 ∷ low_pair ++ middle ++ high ++ 7 ∷ 4 ∷ 0 ∷ 1 ∷ 0 ∷ 2 ∷ 0 ∷ frame

-- six rows of odds: the two above, and four of zeros
abbrev zero_odds : List ℕ
zero_odds = 4 ∷ 16 ∷ 0 ∷ replicate 16 0

abbrev zero_stamps : List ℕ
zero_stamps = 9 ∷ 8 ∷ 0 ∷ replicate 8 0

abbrev closed_with : List ℕ → List ℕ → List ℕ
closed_with middle high =
    solid_start middle high ++ closed_mark ++ first_odds ++ second_odds
    ++ zero_odds ++ zero_odds ++ zero_odds ++ zero_odds ++ end

abbrev open_with : List ℕ → List ℕ → List ℕ
open_with middle high =
    solid_start middle high ++ open_mark ++ first_odds ++ first_stamps ++ second_odds ++ second_stamps
    ++ zero_odds ++ zero_stamps ++ zero_odds ++ zero_stamps ++ zero_odds ++ zero_stamps ++ zero_odds ++ zero_stamps ++ end

abbrev pub closed_solid : List ℕ
closed_solid = closed_with middle_pair high_pair

abbrev pub open_solid : List ℕ
open_solid = open_with middle_pair high_pair

-- the same pair in all bands
abbrev pub closed_equal : List ℕ
closed_equal = closed_with low_pair low_pair

abbrev pub open_equal : List ℕ
open_equal = open_with low_pair low_pair

abbrev pub pair : Float → Float → Pair
pair occupied free = record { occupied = occupied; free = free }

abbrev pub solid_head : Float → ℕ → ℕ → Pair → Pair → Head
solid_head ceiling first second middle high =
    record {
      extents = 2 ∷ 2 ∷ 3 ∷ [];
      model =
          record {
            lowest = pair (plus 3 4) (minus 1 2);
            above = record { cut = first; pair = middle } ∷ record { cut = second; pair = high } ∷ [];
            ceiling = ceiling;
            layer = 4;
          };
      frame = 258;
    }

-- three pairs, the same ceiling, cuts 1 and 2
abbrev pub banded_with : Float → Head
banded_with ceiling = solid_head ceiling 1 2 (pair (plus 1 2) (minus 1 4)) (pair (plus 1 4) (minus 1 8))

abbrev pub banded_head : Head
banded_head = banded_with (plus 4 1)

abbrev pub solid_grid : Grid
solid_grid = record { odds = up_to3 ++ replicate 8 zero_f; stamps = stamps ++ replicate 8 0 }

abbrev pub keeps : Head → Bool → List Float → List ℕ → Answer Kept
keeps h running odds ss = given (record { head = h; running = running; grid = record { odds = odds; stamps = ss } })

pub record EditionAnswers : Type 0 where
  -- byte by byte, and back
  pub open_record_lem : edition_bytes flat_head true flat_grid ≡ open_record
  pub open_read : edition_of 2 open_record ≡ keeps flat_head true up_to3 stamps
  pub closed_record_lem : edition_bytes flat_head false flat_grid ≡ closed_record
  pub closed_read : edition_of 2 closed_record ≡ keeps flat_head false up_to3 (0 ∷ 0 ∷ 0 ∷ 0 ∷ [])
  pub open_solid_lem : edition_bytes banded_head true solid_grid ≡ open_solid
  pub open_solid_read : edition_of 3 open_solid ≡ keeps banded_head true solid_grid.odds solid_grid.stamps
  pub closed_solid_lem : edition_bytes banded_head false solid_grid ≡ closed_solid
  pub closed_solid_read : edition_of 3 closed_solid ≡ keeps banded_head false solid_grid.odds (replicate 12 0)
  -- sizes, computed and counted
  pub closed_size : edition_size (2 ∷ 2 ∷ []) false ≡ 90
  pub open_size : edition_size (2 ∷ 2 ∷ []) true ≡ 112
  pub closed_solid_size : edition_size (2 ∷ 2 ∷ 3 ∷ []) false ≡ 229
  pub open_solid_size : edition_size (2 ∷ 2 ∷ 3 ∷ []) true ≡ 295
  pub lengths :
      length closed_record ∷ length open_record ∷ length closed_solid ∷ length open_solid ∷ []
      ≡ 90 ∷ 112 ∷ 229 ∷ 295 ∷ []

-- Opening this one opens every definition of edition 2, and what it is made of.
unfoldable pub editions_opened : ℕ
unfolding opened cuts_for bands_over stamp_bytes stamps_in none_above pairs_bytes cuts_of bands_bytes grid_bytes edition_bytes grid_of_rows rows_and_end edition_of bands_size grid_offset edition_size grid_tried edition_room edition_writable read_edition_entry write_edition_entry upgrade_entry downgrade_entry
editions_opened = 0

pub edition_answers : EditionAnswers
unfolding editions_opened
edition_answers =
    record {
      open_record_lem = refl;
      open_read = refl;
      closed_record_lem = refl;
      closed_read = refl;
      open_solid_lem = refl;
      open_solid_read = refl;
      closed_solid_lem = refl;
      closed_solid_read = refl;
      closed_size = refl;
      open_size = refl;
      closed_solid_size = refl;
      open_solid_size = refl;
      lengths = refl;
    }
