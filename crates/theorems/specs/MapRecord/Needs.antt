-- The laws of the map record are not empty, and their premises are needed: maps of 2 by 2 and of 2 by 2 by 2 that can
-- be written, and for each premise of `written_then_read` and `read_then_written` an example that fails it, and the
-- conclusion with it. By computation of the definitions.
use Rattle.std.specs.Prelude.{ℕ, ◌≡◌, refl, true, false, List, [], ◌∷◌, ◌++◌, pos, negsuc, length, take, set, replicate, Float}
use Rattle.std.proofs.Math.Option.{none}
use Rattle.std.specs.Float.{nan, fin, binary64}
use Rattle.std.specs.Float.Ieee.{lt, le, eq, neg, to_bits, of_bits, fits}
use Rattle.rules.specs.Floats.{zero_f, half_f, one_f}
use Rattle.rules.specs.RefusalNumbers.{given, refused, broken_record}
use Rattle.rules.specs.RefusalNumbers.Entries.{head_refusal, uses_of, writing, first_too_small, extents_refusal}
use Rattle.rules.specs.TheGridAndItsBounds.{Model, plain_model, Head, cells, all_at_least, all_at_most, fits_capacity, extents_in_bounds, bounded, floor, one_per_cell}
use Rattle.rules.specs.TheGridAndItsBounds.{Pair, pair_bounded, all_pairs, rising, cuts_below, cuts_in_bounds, last_extent, layer_of}
use Rattle.rules.specs.MarksAndFrames.{open_frame}
use Rattle.rules.specs.Fields.{little_endian, from_little_endian, field, field_here, float_bytes, floats_in, field_then, rows_then, nothing_follows, rows_of, rows_tried}
use Rattle.rules.specs.MapRecord.{extent_bytes, extents_in, row_count, rows_bytes}
use Rattle.rules.specs.MapRecord.{record_bytes, rows_offset, odds_in_bounds, joined, odds_then, record_of}
use Rattle.rules.specs.MapRecord.{same_bits, same_pair, equal_pairs, pairs_checked, rows_checked, record_size, room_for, writable}
use Rattle.theorems.specs.WholeSample.{all_fit}
use Rattle.record_laws.specs.Words.{Is64, Are64, Held}
use Rattle.record_laws.specs.Each.{each_nil, each_cons, both}

-- the requirements' model, occupied 0.75, free -0.5, ceiling 4; in frame 1
abbrev pub model : Model
model = plain_model (record { occupied = fin false 3 (negsuc 1); free = fin true 1 (negsuc 0) }) (fin false 1 (pos 2))

abbrev pub head_of : List ℕ → Head
head_of es = record { extents = es; model = model; frame = 1 }

-- the ceiling, -0.0, 0.5 and the floor
abbrev pub four : List Float
four = fin false 1 (pos 2) ∷ fin true 0 (pos 0) ∷ half_f ∷ fin true 1 (pos 2) ∷ []

-- a map of 2 by 2 by 3 with cuts 1 and 2, whose middle band has this pair
abbrev pub banded : Pair → Head
banded p =
    record {
      extents = 2 ∷ 2 ∷ 3 ∷ [];
      model = record {
        lowest = model.lowest;
        above = record { cut = 1; pair = p } ∷ record { cut = 2; pair = model.lowest } ∷ [];
        ceiling = model.ceiling;
        layer = 4;
      };
      frame = 1;
    }

abbrev pub other_pair : Pair
other_pair = record { occupied = half_f; free = model.lowest.free }

-- numbers that a test finds values of binary64 are such values
are_64 : (xs : List Float) → all_fit binary64 xs ≡ true → Are64 xs
unfolding all_fit
are_64 [] t = each_nil Is64 nan
are_64 (x ∷ xs) t = let b = both (fits binary64 x) (all_fit binary64 xs) t in each_cons Is64 nan x xs b.0 (are_64 xs b.1)

-- the record of a 2 by 2 map; its first odds number stands at bytes 44 to 51
abbrev bytes_of : List Float → List ℕ
bytes_of odds = record_bytes (head_of (2 ∷ 2 ∷ [])) odds

-- 2, written with an even number: no value of binary64 as `lib.Ieee` writes them
abbrev even_two : Float
even_two = fin false 2 (pos 0)

-- the definitions that the examples compute, opened together
opened_record : ℕ
unfolding little_endian from_little_endian field field_here extent_bytes extents_in float_bytes floats_in row_count rows_bytes record_bytes
opened_record = 0

opened_reading : ℕ
unfolding odds_in_bounds field_then rows_then nothing_follows rows_of rows_tried joined odds_then record_of rows_offset same_bits same_pair equal_pairs pairs_checked rows_checked record_size room_for writable
opened_reading = 0

opened_head : ℕ
unfolding cells all_at_least all_at_most fits_capacity extents_in_bounds pair_bounded all_pairs bounded rising cuts_below cuts_in_bounds last_extent layer_of floor one_per_cell open_frame head_refusal first_too_small extents_refusal
opened_head = 0

opened_floats : ℕ
unfolding lt le eq neg to_bits of_bits fits all_fit
opened_floats = 0

pub record Needed : Type 0 where
  -- Maps that meet all premises of writing, on two axes and on three: 82 and 122 bytes.
  pub two_axes : (head_refusal (uses_of writing) (head_of (2 ∷ 2 ∷ [])) 4 0 ≡ none) × (writable (head_of (2 ∷ 2 ∷ [])) four 82 ≡ given 82)
  pub two_held : Held (head_of (2 ∷ 2 ∷ [])) four
  pub three_axes :
      (head_refusal (uses_of writing) (head_of (2 ∷ 2 ∷ 2 ∷ [])) 8 0 ≡ none) × (writable (head_of (2 ∷ 2 ∷ 2 ∷ [])) (four ++ four) 200 ≡ given 122)
  -- Bands of equal pairs on 2 by 2 by 3, and one of another pair: the first is written and read with its cuts, the
  -- other cannot be written.
  pub equal-bands :
      (head_refusal (uses_of writing) (banded model.lowest) 12 0 ≡ none) × (writable (banded model.lowest) (four ++ four ++ four) 200 ≡ given 160)
  pub bands-held : Held (banded model.lowest) (four ++ four ++ four)
  pub pairs_needed : (head_refusal (uses_of writing) (banded other_pair) 12 0 ≡ none) × (writable (banded other_pair) (four ++ four ++ four) 200 ≡ refused (broken_record 9))
  -- No axis: the one odds number of the one cell is in no row, and is not read again.
  pub axis_fails : (head_refusal (uses_of writing) (head_of []) 1 0 ≡ none) × (writable (head_of []) (one_f ∷ []) 200 ≡ given 43)
  pub axis_needed : record_of 0 (record_bytes (head_of []) (one_f ∷ [])) ≡ given (record { head = head_of []; odds = [] })
  -- A head that writing refuses, with frame 0, and odds that it refuses, 8 above the ceiling 4: neither is read again.
  pub head-needed :
      record_of 2 (record_bytes (record { extents = 2 ∷ 2 ∷ []; model = model; frame = 0 }) (replicate 4 zero_f)) ≡ refused (broken_record 34)
  pub odds_needed : record_of 2 (bytes_of (fin false 1 (pos 3) ∷ zero_f ∷ zero_f ∷ zero_f ∷ [])) ≡ refused (broken_record 41)
  -- Odds that are no f64: 2 reads as the 2 of binary64.
  pub held_fails : fits binary64 even_two ≡ false
  pub held-needed :
      record_of 2 (bytes_of (even_two ∷ zero_f ∷ zero_f ∷ zero_f ∷ []))
      ≡ given (record { head = head_of (2 ∷ 2 ∷ []); odds = fin false 1 (pos 1) ∷ zero_f ∷ zero_f ∷ zero_f ∷ [] })
  -- A NaN, of the pattern that would be written and of another: each breaks its row. So no record holds a NaN, whose
  -- bytes could not be told from it again.
  pub nan-broken : record_of 2 (bytes_of (nan ∷ zero_f ∷ zero_f ∷ zero_f ∷ [])) ≡ refused (broken_record 41)
  pub other-nan-broken : record_of 2 (set (bytes_of (nan ∷ zero_f ∷ zero_f ∷ zero_f ∷ [])) 44 1) ≡ refused (broken_record 41)
  -- A number above 255 where a byte belongs: the frame 256, of which 0, 1, 0, 0 is written.
  pub bytes_read :
      record_of 2 (set (bytes_of (replicate 4 zero_f)) 37 256)
      ≡ given (record { head = record { extents = 2 ∷ 2 ∷ []; model = model; frame = 256 }; odds = replicate 4 zero_f })
  pub bytes_needed : little_endian 4 256 ≡ 0 ∷ 1 ∷ 0 ∷ 0 ∷ []
  -- A record may be broken at its end, at no byte of its own: nothing at all, and a record without its last field.
  pub nothing_broken : record_of 2 [] ≡ refused (broken_record 0)
  pub end-broken : (length (take 79 (bytes_of four)) ≡ 79) × (record_of 2 (take 79 (bytes_of four)) ≡ refused (broken_record 79))

pub needed : Needed
unfolding opened_record opened_reading opened_head opened_floats
needed =
    record {
      two_axes = (refl, refl);
      two_held = record {
        occupied = refl;
        free = refl;
        ceiling = refl;
        above = tt;
        layer = refl;
        each_odds = are_64 four refl;
      };
      three_axes = (refl, refl);
      equal-bands = (refl, refl);
      bands-held = record {
        occupied = refl;
        free = refl;
        ceiling = refl;
        above = (refl, refl, (refl, refl, tt));
        layer = refl;
        each_odds = are_64 (four ++ four ++ four) refl;
      };
      pairs_needed = (refl, refl);
      axis_fails = (refl, refl);
      axis_needed = refl;
      head-needed = refl;
      odds_needed = refl;
      held_fails = refl;
      held-needed = refl;
      nan-broken = refl;
      other-nan-broken = refl;
      bytes_read = refl;
      bytes_needed = refl;
      nothing_broken = refl;
      end-broken = (refl, refl);
    }
