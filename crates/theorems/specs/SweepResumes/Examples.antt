-- The laptop of change request 7, on a map of 2 by 2: one beam, then the laptop is shut, and on loading the same beam
-- comes again. With a record of edition 1 it votes a second time on both its cells; with an open record of edition 2 it
-- does not. And the premises of `SweepResumes` are met. By computation of the definitions.
use Rattle.std.specs.Prelude.{ℕ, true, false, [], ◌∷◌, ◌≡◌, refl, pos, negsuc, take, replicate, Float}
use Rattle.std.proofs.Common.{lit≤}
use Rattle.std.specs.Float.{nan, fin, binary64}
use Rattle.std.specs.Float.Ieee.{to_bits}
use Rattle.rules.specs.Floats.{zero_f}
use Rattle.rules.specs.RefusalNumbers.{given}
use Rattle.rules.specs.RefusalNumbers.Entries.{Outcome, read_record_entry, write_record_entry}
use Rattle.rules.specs.RefusalNumbers.Editions.{Loaded, read_edition_entry, write_edition_entry}
use Rattle.rules.specs.TheGridAndItsBounds.{Head, Grid}
use Rattle.rules.specs.Fields.{little_endian, from_little_endian, field, field_here, float_bytes, floats_in, field_then, rows_then, nothing_follows, rows_of, rows_tried}
use Rattle.rules.specs.MapRecord.{extent_bytes, extents_in, row_count, rows_bytes, record_bytes, rows_offset, odds_in_bounds, joined, odds_then, record_of, bands_from}
use Rattle.rules.specs.MapRecord.{same_bits, same_pair, equal_pairs, pairs_checked, rows_checked, record_size, room_for, writable}
use Rattle.rules.specs.EditionTwo.{cuts_for, bands_over, stamp_bytes, stamps_in, none_above, pairs_bytes, cuts_of, bands_bytes, grid_bytes, edition_bytes, grid_of_rows, rows_and_end, edition_of}
use Rattle.rules.specs.EditionTwo.{bands_size, grid_offset, edition_size, grid_tried, edition_room, edition_writable}
use Rattle.theorems.specs.PromiseThree.{head_opened, grid_opened}
use Rattle.theorems.specs.PromiseThree.Examples.{head2, cloud, opened}
use Rattle.theorems.specs.StationsLists.Words.{Call, ray, left, night, NoneRefused}
use Rattle.theorems.specs.StationsLists.Examples.{accepted, opened_entries}
use Rattle.theorems.specs.SweepResumes.Words.{Storable, answers, resumed}
use Rattle.theorems.specs.SweepResumes.Sources.{zeros_fit}

-- a map of 2 by 2 as `new` leaves it, with steps 0.75 and -0.5; the sweep opens frame 2
abbrev fresh : Grid
fresh = record { odds = replicate 4 zero_f; stamps = replicate 4 0 }

-- the beam crosses cell 0 and hits cell 1
abbrev beam : Call
beam = ray (cloud [])

abbrev swept : Grid
swept = night binary64 head2 fresh (beam ∷ [])

-- lists that hold other things
abbrev others : Grid
others = record { odds = replicate 4 nan; stamps = replicate 4 9 }

-- stored and read by edition 1, which has 82 bytes, and by edition 2, which has 112
abbrev by_one : Outcome Head Grid
by_one = read_record_entry 2 [] (take 82 (write_record_entry (head_opened head2) swept.odds (replicate 82 0)).lent) others

abbrev by_two : Outcome Loaded Grid
by_two = resumed (head_opened head2) swept (replicate 112 0) others

-- -0.5, 0.75, -1 and 1.5
abbrev cleared : Float
cleared = fin true 1 (negsuc 0)

abbrev clouded : Float
clouded = fin false 3 (negsuc 1)

abbrev cleared_twice : Float
cleared_twice = fin true 1 (pos 0)

abbrev clouded_twice : Float
clouded_twice = fin false 3 (negsuc 0)

-- the definitions that the examples compute, opened together
unfoldable opened_fields : ℕ
unfolding little_endian from_little_endian field field_here float_bytes floats_in field_then rows_then nothing_follows rows_of rows_tried extent_bytes extents_in row_count to_bits
opened_fields = 0

unfoldable opened_one : ℕ
unfolding rows_bytes record_bytes rows_offset odds_in_bounds joined odds_then record_of bands_from same_bits same_pair equal_pairs pairs_checked rows_checked record_size room_for writable
opened_one = 0

unfoldable opened_two : ℕ
unfolding cuts_for bands_over stamp_bytes stamps_in none_above pairs_bytes cuts_of bands_bytes grid_bytes edition_bytes grid_of_rows rows_and_end edition_of
opened_two = 0

unfoldable opened_records : ℕ
unfolding bands_size grid_offset edition_size grid_tried edition_room edition_writable read_record_entry write_record_entry read_edition_entry write_edition_entry
opened_records = 0

pub record Laptop : Type 0 where
  -- The map can be stored, as the premises of the theorems ask, and the beam is not refused.
  pub can_be_stored : Storable head2 fresh
  pub none_refused : NoneRefused binary64 head2 fresh (beam ∷ [])
  -- The beam's votes, and their stamps: clear and cloud of frame 2.
  pub votes : swept.odds ≡ cleared ∷ clouded ∷ zero_f ∷ zero_f ∷ []
  pub stamps : swept.stamps ≡ 4 ∷ 5 ∷ 0 ∷ 0 ∷ []
  -- Edition 1 gives the odds and the frame back and stamps 0. So the same beam of the same sweep votes again: it counts
  -- two cells, and each has its step twice.
  pub old_head : by_one.answer ≡ given (head_opened head2)
  pub old_odds : by_one.lent.odds ≡ swept.odds
  pub old_stamps : by_one.lent.stamps ≡ 0 ∷ 0 ∷ 0 ∷ 0 ∷ []
  pub counts_again : answers binary64 (head_opened head2) (beam ∷ []) by_one.lent ≡ given 2 ∷ []
  pub votes_again : (left binary64 (head_opened head2) (beam ∷ []) by_one.lent).odds ≡ cleared_twice ∷ clouded_twice ∷ zero_f ∷ zero_f ∷ []
  -- Edition 2 gives the stamps back too, and the beam counts nothing and changes nothing.
  pub new_head_lem : by_two.answer ≡ given (record { head = head_opened head2; running = true })
  pub new_stamps : by_two.lent.stamps ≡ 4 ∷ 5 ∷ 0 ∷ 0 ∷ []
  pub counts_nothing : answers binary64 (head_opened head2) (beam ∷ []) by_two.lent ≡ given 0 ∷ []
  pub votes_once : (left binary64 (head_opened head2) (beam ∷ []) by_two.lent).odds ≡ cleared ∷ clouded ∷ zero_f ∷ zero_f ∷ []

pub the_laptop : Laptop
unfolding opened opened_entries opened_fields opened_one opened_two opened_records
the_laptop =
    record {
      can_be_stored = record {
        passes = refl;
        some-axis = lit≤ tt;
        cuts_are = refl;
        held = record { occupied = refl; free = refl; ceiling = refl; above = tt; layer = refl; each_odds = zeros_fit 4 };
        odds-within = refl;
        none_above_lem = refl;
      };
      none_refused = accepted binary64 (head_opened head2) (beam ∷ []) (grid_opened head2 fresh) tt;
      votes = refl;
      stamps = refl;
      old_head = refl;
      old_odds = refl;
      old_stamps = refl;
      counts_again = refl;
      votes_again = refl;
      new_head_lem = refl;
      new_stamps = refl;
      counts_nothing = refl;
      votes_once = refl;
    }
