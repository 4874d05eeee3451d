-- The laws of edition 2 are not empty, and their premises are needed: maps that can be written, open and closed, and
-- for the premises that edition 1 does not have, or has for another reason, an example that fails each, and the
-- conclusion with it. (`Held` and the axis are needed as in `MapRecord.Needs`.) By computation of the definitions.
use Rattle.std.specs.Prelude.{ℕ, ◌≡◌, refl, true, false, List, [], ◌∷◌, ◌++◌, length, take, set, replicate}
use Rattle.std.proofs.Math.Option.{none}
use Rattle.std.specs.Float.Ieee.{lt, le, neg, to_bits, of_bits}
use Rattle.rules.specs.Floats.{zero_f}
use Rattle.rules.specs.RefusalNumbers.{given, refused, broken_record, not_edition_one}
use Rattle.rules.specs.RefusalNumbers.Entries.{Outcome, head_refusal, first_too_small, extents_refusal}
use Rattle.rules.specs.RefusalNumbers.Editions.{uses_of_writing, unstamped, upgrade_entry, downgrade_entry}
use Rattle.rules.specs.TheGridAndItsBounds.{Head, Grid, cells, all_at_least, all_at_most, fits_capacity, extents_in_bounds, bounded, floor, one_per_cell}
use Rattle.rules.specs.TheGridAndItsBounds.{pair_bounded, all_pairs, rising, cuts_below, cuts_in_bounds, last_extent, layer_of}
use Rattle.rules.specs.MarksAndFrames.{open_frame}
use Rattle.rules.specs.Fields.{little_endian, from_little_endian, field, field_here, float_bytes, floats_in, field_then, rows_then, nothing_follows, rows_of, rows_tried}
use Rattle.rules.specs.MapRecord.{extent_bytes, extents_in, row_count, rows_bytes, record_bytes, odds_in_bounds, joined, odds_then, record_of, bands_from, same_bits, same_pair, equal_pairs}
use Rattle.rules.specs.MapRecord.{rows_offset, record_size, room_for}
use Rattle.rules.specs.EditionTwo.{cuts_for, bands_over, stamp_bytes, stamps_in, none_above, pairs_bytes, cuts_of, bands_bytes, grid_bytes, edition_bytes}
use Rattle.rules.specs.EditionTwo.{grid_of_rows, rows_and_end, edition_of, bands_size, grid_offset, edition_size, grid_tried, edition_room, edition_writable}
use Rattle.grid_map.specs.Heads.{head2, head3}
use Rattle.grid_map.specs.declared.map.GridMap.{GridMap}
use Rattle.types.specs.declared.points.Extents2.{Extents2}
use Rattle.types.specs.declared.points.Extents3.{Extents3}
use Rattle.types.specs.declared.model.Model.{Model}
use Rattle.types.specs.declared.model.Bands.{Bands}
use Rattle.c_types.specs.Heads as CHeads
use Rattle.c_types.specs.declared.heads.CMap2.{CMap2}
use Rattle.c_types.specs.declared.heads.CMap3.{CMap3}
use Rattle.theorems.specs.MapRecord.Needs.{model, head_of, four, banded, other_pair}

-- of an open sweep: stamps of frame 1, free and occupied, and 0
abbrev stamped : Grid
stamped = record { odds = four; stamps = 2 ∷ 3 ∷ 0 ∷ 2 ∷ [] }

-- 2 by 2, of one pair
abbrev flat : Head
flat = head_of (2 ∷ 2 ∷ [])

-- a record of edition 1 of 2 by 2 by 2, moved up with no cuts
abbrev uncut : Outcome ℕ (List ℕ)
uncut = upgrade_entry 3 [] (record_bytes (head_of (2 ∷ 2 ∷ 2 ∷ [])) (four ++ four)) (replicate 191 0)

-- the definitions that the examples compute, opened together
opened_record : ℕ
unfolding little_endian from_little_endian field field_here extent_bytes extents_in float_bytes floats_in row_count rows_bytes record_bytes stamp_bytes stamps_in none_above pairs_bytes cuts_of bands_bytes grid_bytes edition_bytes
opened_record = 0

opened_reading : ℕ
unfolding odds_in_bounds field_then rows_then nothing_follows rows_of rows_tried joined odds_then record_of bands_from same_bits same_pair equal_pairs cuts_for bands_over grid_of_rows rows_and_end edition_of bands_size grid_offset edition_size grid_tried edition_room edition_writable rows_offset record_size room_for
opened_reading = 0

opened_head : ℕ
unfolding cells all_at_least all_at_most fits_capacity extents_in_bounds pair_bounded all_pairs bounded rising cuts_below cuts_in_bounds last_extent layer_of floor one_per_cell open_frame head_refusal first_too_small extents_refusal
opened_head = 0

opened_floats : ℕ
unfolding lt le neg to_bits of_bits
opened_floats = 0

pub record EditionNeeds : Type 0 where
  -- Maps that can be written: closed on two axes, 90 bytes; open on two, 112; open on three, with unequal pairs, 295.
  pub closed_two : (head_refusal (uses_of_writing false) flat 4 0 ≡ none) × (edition_writable flat false (unstamped four) 90 ≡ given 90)
  pub open_two : (head_refusal (uses_of_writing true) flat 4 4 ≡ none) × (edition_writable flat true stamped 112 ≡ given 112)
  pub open-three :
      (head_refusal (uses_of_writing true) (banded other_pair) 12 12 ≡ none)
      × (edition_writable (banded other_pair) true (record { odds = four ++ four ++ four; stamps = replicate 12 3 }) 300 ≡ given 295)
  -- Every map that a caller has meets the premise on the cuts: none on two axes, and two on three.
  pub cuts_of_two : (m : GridMap Extents2 Model) → length (head2 m).model.above ≡ cuts_for 2
  pub cuts_of_three : (m : GridMap Extents3 Bands) → length (head3 m).model.above ≡ cuts_for 3
  -- So does every map that C hands over.
  pub cuts_of_c_two : (m : CMap2) → length (CHeads.head2 m).model.above ≡ cuts_for 2
  pub cuts_of_c_three : (m : CMap3) → length (CHeads.head3 m).model.above ≡ cuts_for 3
  -- A stamp of frame 2, above the stored one, breaks its row, the one behind the first row of odds.
  pub stamp_too_high : edition_writable flat true (record { odds = four; stamps = 4 ∷ 0 ∷ 0 ∷ 0 ∷ [] }) 112 ≡ refused (broken_record 68)
  -- Three axes and no cuts, written or moved up: behind the first pair the second is looked for and not found.
  pub cuts_needed : edition_of 3 (edition_bytes (head_of (2 ∷ 2 ∷ 2 ∷ [])) false (unstamped (four ++ four))) ≡ refused (broken_record 40)
  pub cuts-of-the-move-needed :
      (uncut.answer ≡ given 191) × (edition_of 3 (take 191 uncut.lent) ≡ refused (broken_record 40))
  -- A number above 255 where a byte belongs: the frame 256, of which 0, 1, 0, 0 is written.
  pub bytes_read :
      edition_of 2 (set (edition_bytes flat false (unstamped (replicate 4 zero_f))) 41 256)
      ≡ given (record {
        head = record { extents = 2 ∷ 2 ∷ []; model = model; frame = 256 };
        running = false;
        grid = record { odds = replicate 4 zero_f; stamps = replicate 4 0 };
      })
  pub bytes_needed : little_endian 4 256 ≡ 0 ∷ 1 ∷ 0 ∷ 0 ∷ []
  -- An open record of one pair is not moved back, however little room there is, and a closed one is, into 82 bytes.
  pub open_not_back : downgrade_entry 2 (edition_bytes flat true stamped) [] ≡ record { answer = refused not_edition_one; lent = [] }
  pub closed-back :
      downgrade_entry 2 (edition_bytes flat false (unstamped four)) (replicate 82 0)
      ≡ record { answer = given (record { size = 82; cuts = [] }); lent = record_bytes flat four }

pub edition_needs : EditionNeeds
unfolding opened_record opened_reading opened_head opened_floats upgrade_entry downgrade_entry
edition_needs =
    record {
      closed_two = (refl, refl);
      open_two = (refl, refl);
      open-three = (refl, refl);
      cuts_of_two = λ m. refl;
      cuts_of_three = λ m. refl;
      cuts_of_c_two = λ m. refl;
      cuts_of_c_three = λ m. refl;
      stamp_too_high = refl;
      cuts_needed = refl;
      cuts-of-the-move-needed = (refl, refl);
      bytes_read = refl;
      bytes_needed = refl;
      open_not_back = refl;
      closed-back = refl;
    }
