-- Change request 7 by example: edition 2 of the map record written, and the moves between the editions. The bytes are
-- those of `Editions`. One table, proved of the definitions by computation.
use Rattle.std.specs.Prelude.{ℕ, Bool, true, false, List, [], ◌∷◌, ◌++◌, ◌≡◌, refl, replicate, set, Float}
use Rattle.rules.specs.RefusalNumbers.{Refusal, given, refused, bad_model, bad_cuts, bad_buffer, bad_frame}
use Rattle.rules.specs.RefusalNumbers.{broken_record, no_room, not_edition_one}
use Rattle.rules.specs.RefusalNumbers.Entries.{Outcome}
use Rattle.rules.specs.RefusalNumbers.Editions.{Moved, write_edition_entry, upgrade_entry, downgrade_entry}
use Rattle.rules.specs.Floats.{zero_f, one_f}
use Rattle.rules.specs.TheGridAndItsBounds.{Pair, Head, Grid}
use Rattle.rules.specs.MapRecord.{record_bytes}
use Rattle.rules.specs.FiguresToTestOn.{plus, minus, head_of, up_to3}
use Rattle.rules.specs.FiguresToTestOn.Editions.{flat_head, stamps, pair, solid_head, banded_head, solid_grid}
use Rattle.rules.specs.FiguresToTestOn.Editions.{open_record, closed_record, closed_solid, open_solid}
use Rattle.rules.specs.FiguresToTestOn.Editions.{closed_equal, open_equal, editions_opened}

-- so many bytes of 7, lent to write in; they stay where it is refused
abbrev sevens : ℕ → List ℕ
sevens n = replicate n 7

abbrev wrote : ℕ → List ℕ → Outcome ℕ (List ℕ)
wrote n bytes = record { answer = given n; lent = bytes }

abbrev stays : {A : Type 0} → Refusal → ℕ → Outcome A (List ℕ)
stays r room = record { answer = refused r; lent = sevens room }

-- ---- writing
abbrev writing : Bool → List Float → List ℕ → ℕ → Outcome ℕ (List ℕ)
writing running odds ss room = write_edition_entry flat_head running (record { odds = odds; stamps = ss }) (sevens room)

abbrev writing_solid : Head → Bool → Grid → ℕ → Outcome ℕ (List ℕ)
writing_solid h running g room = write_edition_entry h running g (sevens room)

-- odds above the ceiling in the first row, and in the second
abbrev first_row_high : List Float
first_row_high = zero_f ∷ plus 5 1 ∷ plus 2 1 ∷ plus 3 1 ∷ []

abbrev second_row_high : List Float
second_row_high = zero_f ∷ one_f ∷ plus 2 1 ∷ plus 5 1 ∷ []

abbrev none : Grid
none = record { odds = []; stamps = [] }

-- the last row of 2 by 2 by 3: odds above the ceiling, a stamp of the next frame
abbrev last_odds_high : Grid
last_odds_high = record { odds = replicate 11 zero_f ++ plus 5 1 ∷ []; stamps = replicate 11 0 ++ 518 ∷ [] }

abbrev last_stamp_high : Grid
last_stamp_high = record { odds = replicate 12 zero_f; stamps = replicate 11 0 ++ 518 ∷ [] }

-- ---- the moves
-- the pair of the low band
abbrev low : Pair
low = pair (plus 3 4) (minus 1 2)

abbrev equal_head : Head
equal_head = solid_head (plus 4 1) 1 2 low low

abbrev flat_one : List ℕ
flat_one = record_bytes flat_head up_to3

abbrev solid_one : List ℕ
solid_one = record_bytes equal_head solid_grid.odds

abbrev up : ℕ → ℕ → Outcome ℕ (List ℕ)
up first second = upgrade_entry 3 (first ∷ second ∷ []) solid_one (sevens 230)

abbrev down : ℕ → List ℕ → ℕ → Outcome Moved (List ℕ)
down axes bytes room = downgrade_entry axes bytes (sevens room)

abbrev moved : ℕ → List ℕ → List ℕ → Outcome Moved (List ℕ)
moved n cuts bytes = record { answer = given (record { size = n; cuts = cuts }); lent = bytes }

pub record EditionMoves : Type 0 where
  -- a closed write looks at no stamps, an open one has as many as cells; the rest of what was lent stays
  pub closed_without_stamps : writing false up_to3 [] 91 ≡ wrote 90 (closed_record ++ 7 ∷ [])
  pub closed_with_any_stamps : writing false up_to3 (518 ∷ []) 90 ≡ wrote 90 closed_record
  pub open_written : writing true up_to3 stamps 113 ≡ wrote 112 (open_record ++ 7 ∷ [])
  pub open_in_its_size : writing true up_to3 stamps 112 ≡ wrote 112 open_record
  pub too_few_stamps : writing true up_to3 (0 ∷ 517 ∷ 516 ∷ []) 113 ≡ stays bad_buffer 113
  pub too_many_stamps : writing true up_to3 (0 ∷ 517 ∷ 516 ∷ 3 ∷ 0 ∷ []) 113 ≡ stays bad_buffer 113
  pub too_few_odds : writing false (zero_f ∷ []) [] 90 ≡ stays bad_buffer 90
  pub closed_solid_written : writing_solid banded_head false solid_grid 230 ≡ wrote 229 (closed_solid ++ 7 ∷ [])
  pub open_solid_written : writing_solid banded_head true solid_grid 296 ≡ wrote 295 (open_solid ++ 7 ∷ [])
  -- room one byte short
  pub closed_short : writing false up_to3 [] 89 ≡ stays (no_room 90) 89
  pub open_short : writing true up_to3 stamps 111 ≡ stays (no_room 112) 111
  pub closed_solid_short : writing_solid banded_head false solid_grid 228 ≡ stays (no_room 229) 228
  pub open_solid_short : writing_solid banded_head true solid_grid 294 ≡ stays (no_room 295) 294
  -- odds and stamps at their rows, the smallest offset first, before the room
  pub odds-first : writing true first_row_high (0 ∷ 518 ∷ 516 ∷ 3 ∷ []) 0 ≡ stays (broken_record 49) 0
  pub stamps_next : writing true second_row_high (0 ∷ 518 ∷ 516 ∷ 3 ∷ []) 0 ≡ stays (broken_record 68) 0
  pub later_odds : writing true second_row_high (0 ∷ 517 ∷ 518 ∷ 3 ∷ []) 0 ≡ stays (broken_record 79) 0
  pub later_stamps : writing true up_to3 (0 ∷ 517 ∷ 518 ∷ 3 ∷ []) 0 ≡ stays (broken_record 98) 0
  pub closed_later_odds : writing false second_row_high [] 0 ≡ stays (broken_record 68) 0
  pub solid_last_odds : writing_solid banded_head true last_odds_high 0 ≡ stays (broken_record 262) 0
  pub solid_last_stamps : writing_solid banded_head true last_stamp_high 0 ≡ stays (broken_record 281) 0
  pub closed_solid_last_odds : writing_solid banded_head false last_odds_high 0 ≡ stays (broken_record 207) 0
  -- the head: 3 of a later pair, 15, then 4, then 9, before 10
  pub model-refused :
      writing_solid (solid_head (plus 4 1) 1 3 low (pair zero_f (minus 1 2))) true solid_grid 0 ≡ stays bad_model 0
  pub cuts_refused : writing_solid (solid_head (plus 4 1) 1 3 low low) true none 0 ≡ stays bad_cuts 0
  pub lists-before-frame :
      write_edition_entry (head_of 2 2 0) true (record { odds = up_to3; stamps = [] }) [] ≡ stays bad_buffer 0
  pub frame_refused :
      write_edition_entry (head_of 2 2 0) true (record { odds = first_row_high; stamps = stamps }) [] ≡ stays bad_frame 0
  -- moving up: a closed record, of three axes with the cuts given; 10, then 15, then 11
  pub flat_up : upgrade_entry 2 [] flat_one (sevens 91) ≡ wrote 90 (closed_record ++ 7 ∷ [])
  pub solid_up : up 1 2 ≡ wrote 229 (closed_equal ++ 7 ∷ [])
  pub up_first_cut_zero : up 0 2 ≡ stays bad_cuts 230
  pub up-cuts-equal : up 1 1 ≡ stays bad_cuts 230
  pub up_cuts_falling : up 2 1 ≡ stays bad_cuts 230
  pub up_second_cut_at_the_extent : up 1 3 ≡ stays bad_cuts 230
  pub up_record_before_cuts : upgrade_entry 3 (0 ∷ 0 ∷ []) (solid_one ++ 0 ∷ []) [] ≡ stays (broken_record 160) 0
  pub up_cuts_before_room : upgrade_entry 3 (0 ∷ 2 ∷ []) solid_one [] ≡ stays bad_cuts 0
  pub up-flat-short : upgrade_entry 2 [] flat_one (sevens 89) ≡ stays (no_room 90) 89
  pub up_solid_short : upgrade_entry 3 (1 ∷ 2 ∷ []) solid_one (sevens 228) ≡ stays (no_room 229) 228
  pub up_from_edition_two : upgrade_entry 2 [] closed_record [] ≡ stays (broken_record 0) 0
  -- moving back: the cuts are handed over
  pub flat-down : down 2 closed_record 83 ≡ moved 82 [] (flat_one ++ 7 ∷ [])
  pub solid_down : down 3 closed_equal 161 ≡ moved 160 (1 ∷ 2 ∷ []) (solid_one ++ 7 ∷ [])
  -- 16 for an open record, and for pairs that differ, be it in the last bit of one step; before 11
  pub open_stays : down 2 open_record 82 ≡ stays not_edition_one 82
  pub open_equal_stays : down 3 open_equal 0 ≡ stays not_edition_one 0
  pub unequal_stays : down 3 closed_solid 0 ≡ stays not_edition_one 0
  pub middle_occupied_differs : down 3 (set closed_equal 43 1) 160 ≡ stays not_edition_one 160
  pub middle_free_differs : down 3 (set closed_equal 51 1) 160 ≡ stays not_edition_one 160
  pub high_occupied_differs : down 3 (set closed_equal 70 1) 160 ≡ stays not_edition_one 160
  pub high_free_differs : down 3 (set closed_equal 78 1) 160 ≡ stays not_edition_one 160
  -- 10 before 16; 11 last
  pub down_record_first : down 2 (open_record ++ 0 ∷ []) 82 ≡ stays (broken_record 112) 82
  pub down-from-edition-one : down 2 flat_one 0 ≡ stays (broken_record 0) 0
  pub down-flat-short : down 2 closed_record 81 ≡ stays (no_room 82) 81
  pub down_solid_short : down 3 closed_equal 159 ≡ stays (no_room 160) 159

pub edition_moves : EditionMoves
unfolding editions_opened
edition_moves =
    record {
      closed_without_stamps = refl;
      closed_with_any_stamps = refl;
      open_written = refl;
      open_in_its_size = refl;
      too_few_stamps = refl;
      too_many_stamps = refl;
      too_few_odds = refl;
      closed_solid_written = refl;
      open_solid_written = refl;
      closed_short = refl;
      open_short = refl;
      closed_solid_short = refl;
      open_solid_short = refl;
      odds-first = refl;
      stamps_next = refl;
      later_odds = refl;
      later_stamps = refl;
      closed_later_odds = refl;
      solid_last_odds = refl;
      solid_last_stamps = refl;
      closed_solid_last_odds = refl;
      model-refused = refl;
      cuts_refused = refl;
      lists-before-frame = refl;
      frame_refused = refl;
      flat_up = refl;
      solid_up = refl;
      up_first_cut_zero = refl;
      up-cuts-equal = refl;
      up_cuts_falling = refl;
      up_second_cut_at_the_extent = refl;
      up_record_before_cuts = refl;
      up_cuts_before_room = refl;
      up-flat-short = refl;
      up_solid_short = refl;
      up_from_edition_two = refl;
      flat-down = refl;
      solid_down = refl;
      open_stays = refl;
      open_equal_stays = refl;
      unequal_stays = refl;
      middle_occupied_differs = refl;
      middle_free_differs = refl;
      high_occupied_differs = refl;
      high_free_differs = refl;
      down_record_first = refl;
      down-from-edition-one = refl;
      down-flat-short = refl;
      down_solid_short = refl;
    }
