-- Requirements, "Refusal numbers": the table, a line for each number, and what an answer is. Which refusal an entry
-- gives first is in `RefusalNumbers.Entries`, of edition 2 of the record in `RefusalNumbers.Editions`. A refusal is its
-- number in the table and the values that the table's last column gives. Definitions only.
pub mod Entries
pub mod Editions
use Rattle.std.specs.Prelude.{ℕ, List, [], ◌∷◌, ℤ, pos}

pub record Refusal : Type 0 where
  pub number : ℕ
  pub values : List ℤ

-- "1 DimensionTooSmall | an extent < 2 | first axis, extent"
abbrev pub dimension_too_small : ℕ → ℕ → Refusal
dimension_too_small axis extent = record { number = 1; values = pos axis ∷ pos extent ∷ [] }

-- "2 CapacityOverflow | an extent > 4,096, or too many cells | -"
abbrev pub capacity_overflow : Refusal
capacity_overflow = record { number = 2; values = [] }

-- "3 Model (added) | model outside its bounds | -"
abbrev pub bad_model : Refusal
bad_model = record { number = 3; values = [] }

-- "4 Buffer (added) | odds or stamps not one per cell | -"
abbrev pub bad_buffer : Refusal
bad_buffer = record { number = 4; values = [] }

-- "5 OutOfBounds | a cell or point off the grid | first axis, index, extent", and by change request 1 "the set of all
-- failing axes": a number whose bit k is 1 where axis k fails
abbrev pub out_of_bounds : ℕ → ℤ → ℕ → ℕ → Refusal
out_of_bounds axis index extent axes = record { number = 5; values = pos axis ∷ index ∷ pos extent ∷ pos axes ∷ [] }

-- "6 NonFiniteCoordinate | `cell_containing` meets NaN or infinity | axis"
abbrev pub non_finite_coordinate : ℕ → Refusal
non_finite_coordinate axis = record { number = 6; values = pos axis ∷ [] }

-- "7 Ray | see "One beam" | in a list: beam's place, from 0, and count so far"
abbrev pub ray : Refusal
ray = record { number = 7; values = [] }

abbrev pub ray_in_list : ℕ → ℕ → Refusal
ray_in_list place count = record { number = 7; values = pos place ∷ pos count ∷ [] }

-- "8 Beams (added) | flat list: not 2N numbers (origin, then endpoint) and one byte per beam, or a byte not 0 or 1 (1
-- is Hit) | -"
abbrev pub bad_beams : Refusal
bad_beams = record { number = 8; values = [] }

-- "9 Frame (added) | marking, integrating or writing a record with frame 0 or > 2,147,483,647 | -"
abbrev pub bad_frame : Refusal
bad_frame = record { number = 9; values = [] }

-- "10 Record (added) | map record broken | offset of the field"
abbrev pub broken_record : ℕ → Refusal
broken_record offset = record { number = 10; values = pos offset ∷ [] }

-- "11 Room (added) | output shorter than the record | bytes needed"
abbrev pub no_room : ℕ → Refusal
no_room needed = record { number = 11; values = pos needed ∷ [] }

-- Change request 2: "12, broken sweep field, with its offset"
abbrev pub broken_sweep : ℕ → Refusal
broken_sweep offset = record { number = 12; values = pos offset ∷ [] }

-- "13, odds not a number" | change request 3: `set_log_odds_checked` with NaN | -
abbrev pub odds_not_a_number : Refusal
odds_not_a_number = record { number = 13; values = [] }

-- request 4: "14, lists of unequal count"
abbrev pub unequal_lists : Refusal
unequal_lists = record { number = 14; values = [] }

-- request 6: "15, bad cuts"
abbrev pub bad_cuts : Refusal
bad_cuts = record { number = 15; values = [] }

-- request 7: "16 for the refused move back"
abbrev pub not_edition_one : Refusal
not_edition_one = record { number = 16; values = [] }

-- request 11: "18, outside the profile"
abbrev pub outside_profile : Refusal
outside_profile = record { number = 18; values = [] }

-- request 8: "17 for the first column holding NaN, with the column"
abbrev pub nan_column : ℕ → Refusal
nan_column column = record { number = 17; values = pos column ∷ [] }

-- request 12: "19 for unequal sizes, 20 past the limit, 21 for a chart with a band above 8 or totals its bands don't
-- give, or a report column whose nine counts don't add up to its charts or whose other numbers exceed 512 a chart"
abbrev pub unequal_sizes : Refusal
unequal_sizes = record { number = 19; values = [] }

abbrev pub too_many_charts : Refusal
too_many_charts = record { number = 20; values = [] }

abbrev pub bad_chart : Refusal
bad_chart = record { number = 21; values = [] }

-- an answer: what was asked for, or the refusal
pub data Answer (A : Type 0) : Type 0 where
  given : A → Answer A
  refused : Refusal → Answer A

-- the first refusal stands; only what was given goes on
abbrev pub and_then : {A B : Type 0} → Answer A → (A → Answer B) → Answer B
and_then (given a) go = go a
and_then (refused r) go = refused r
