-- Change request 6 by example: three bands, their cuts, and what edition 1 of the map record makes of them. One table,
-- proved of the definitions by computation.
use Rattle.std.specs.Prelude.{ℕ, Bool, true, false, List, [], ◌∷◌, ◌++◌, ◌≡◌, refl, pos, negsuc, replicate, Float}
use Rattle.std.proofs.Common.{◌∙◌}
use Rattle.std.specs.Float.{nan, fin, binary64}
use Rattle.rules.specs.RefusalNumbers.{given, refused, bad_model, bad_cuts, bad_buffer, broken_record, no_room}
use Rattle.rules.specs.RefusalNumbers.Entries.{Outcome, new_entry, mark_entry, read_record_entry, write_record_entry}
use Rattle.rules.specs.Floats.{zero_f, one_f}
use Rattle.rules.specs.TheGridAndItsBounds.{Pair, Model, Head, Grid, fresh_grid}
use Rattle.rules.specs.MapRecord.{record_bytes}
use Rattle.rules.specs.FiguresToTestOn.{plus, minus, opened}

abbrev pair : Float → Float → Pair
pair occupied free = record { occupied = occupied; free = free }

-- a map of 2 by 2 by 4, four cells at each height
abbrev banded : ℕ → ℕ → Pair → Model
banded first second high =
    record {
      lowest = pair (plus 3 4) (minus 1 2);
      above = record { cut = first; pair = pair (plus 1 2) (minus 1 4) } ∷ record { cut = second; pair = high } ∷ [];
      ceiling = plus 4 1;
      layer = 4;
    }

abbrev high : Pair
high = pair (plus 1 4) (minus 1 8)

abbrev grid : Grid
grid = fresh_grid (2 ∷ 2 ∷ 4 ∷ [])

abbrev head_with : Model → Head
head_with m = record { extents = 2 ∷ 2 ∷ 4 ∷ []; model = m; frame = 2 }

abbrev new_with : ℕ → ℕ → Outcome Head Grid
new_with first second = new_entry (2 ∷ 2 ∷ 4 ∷ []) (banded first second high) grid

-- the odds that one mark at (1, 1) and this height leaves there
abbrev marking : Bool → ℕ → Outcome Bool Grid
marking occupied z = mark_entry binary64 occupied (head_with (banded 1 3 high)) (pos 1 ∷ pos 1 ∷ pos z ∷ []) grid

abbrev leaves : ℕ → ℕ → Float → ℕ → Outcome Bool Grid
leaves before after odds stamp =
    record {
      answer = given true;
      lent = record { odds = replicate before zero_f ++ odds ∷ replicate after zero_f; stamps = replicate before 0 ++ stamp ∷ replicate after 0 };
    }

-- the same pair in all bands
abbrev equal : Model
equal =
    record {
      lowest = high;
      above = record { cut = 1; pair = high } ∷ record { cut = 3; pair = high } ∷ [];
      ceiling = plus 4 1;
      layer = 4;
    }

abbrev stored : List ℕ
stored = record_bytes (head_with equal) grid.odds

abbrev reading : List ℕ → Grid → Outcome Head Grid
reading cuts g = read_record_entry 3 cuts stored g

pub record BandAnswers : Type 0 where
  -- cuts 1 and 3: height 0 is low, 1 and 2 are middle, 3 is high
  pub lowest_height : marking false 0 ≡ leaves 3 12 (minus 1 2) 4
  pub at_the_first_cut : marking false 1 ≡ leaves 7 8 (minus 1 4) 4
  pub below_the_second_cut : marking true 2 ≡ leaves 11 4 (plus 1 2) 5
  pub at_the_second_cut : marking true 3 ≡ leaves 15 0 (plus 1 4) 5
  -- cuts that may stand, and those that may not: 0, equal, falling, the extent
  pub good-cuts : (new_with 1 2).answer ≡ given (record { extents = 2 ∷ 2 ∷ 4 ∷ []; model = banded 1 2 high; frame = 1 })
  pub first_cut_0 : new_with 0 2 ≡ record { answer = refused bad_cuts; lent = grid }
  pub equal-cuts : (new_with 2 2).answer ≡ refused bad_cuts
  pub falling_cuts : (new_with 2 1).answer ≡ refused bad_cuts
  pub cut_at_the_extent : (new_with 1 4).answer ≡ refused bad_cuts
  -- 15 after 3, of any pair, and before 4
  pub pair_before_cuts : (new_entry (2 ∷ 2 ∷ 4 ∷ []) (banded 0 2 (pair one_f zero_f)) grid).answer ≡ refused bad_model
  pub cuts_before_buffer : (new_entry (2 ∷ 2 ∷ 5 ∷ []) (banded 0 2 high) grid).answer ≡ refused bad_cuts
  pub buffer_after_cuts : (new_entry (2 ∷ 2 ∷ 5 ∷ []) (banded 1 2 high) grid).answer ≡ refused bad_buffer
  -- edition 1: written with equal pairs, read with the cuts that are given; 15 before 4
  pub reads_with_cuts : reading (1 ∷ 3 ∷ []) grid ≡ record { answer = given (head_with equal); lent = grid }
  pub reads_with_bad_cuts : reading (3 ∷ 1 ∷ []) (fresh_grid []) ≡ record { answer = refused bad_cuts; lent = fresh_grid [] }
  pub reads_into_too_few : (reading (1 ∷ 3 ∷ []) (fresh_grid [])).answer ≡ refused bad_buffer
  -- unequal pairs are 10 at offset 9, before a row and before room
  pub unequal_pairs : (write_record_entry (head_with (banded 1 3 high)) (nan ∷ replicate 15 zero_f) []).answer ≡ refused (broken_record 9)
  pub no_room_lem : (write_record_entry (head_with equal) grid.odds []).answer ≡ refused (no_room 198)

pub band_answers : BandAnswers
unfolding opened
band_answers =
    let quarter : marking false 1 ≡ leaves 7 8 (fin true 1 (negsuc 1)) 4 = refl in
    record {
      lowest_height = refl;
      at_the_first_cut = quarter ∙ refl;
      below_the_second_cut = refl;
      at_the_second_cut = refl;
      good-cuts = refl;
      first_cut_0 = refl;
      equal-cuts = refl;
      falling_cuts = refl;
      cut_at_the_extent = refl;
      pair_before_cuts = refl;
      cuts_before_buffer = refl;
      buffer_after_cuts = refl;
      reads_with_cuts = refl;
      reads_with_bad_cuts = refl;
      reads_into_too_few = refl;
      unequal_pairs = refl;
      no_room_lem = refl;
    }
