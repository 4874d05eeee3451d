-- The laws of the sweep file are not empty, and their premises are needed: a file with a NaN and an infinity that is
-- read as it was written, and for each premise of `written_then_read` and `read_then_written` an example that fails it,
-- and the conclusion with it. By computation of the definitions.
use Rattle.std.specs.Prelude.{ℕ, ◌≡◌, refl, true, List, [], ◌∷◌, get_or, set}
use Rattle.std.specs.Float.{nan, inf}
use Rattle.std.specs.Float.Ieee.{to_bits, of_bits}
use Rattle.rules.specs.Floats.{half_f}
use Rattle.rules.specs.RefusalNumbers.{given, refused, broken_sweep}
use Rattle.rules.specs.OneBeam.{Beam}
use Rattle.rules.specs.Fields.{little_endian, from_little_endian, field, field_here, float_bytes, floats_in}
use Rattle.rules.specs.SweepFile.{Sweep, beam_bytes, beams_bytes, sweep_bytes, beam_here, beam_in, sweep_end_in, beams_in, station_in, sweep_of}

-- from (0.5, NaN) to (-infinity, 0.5), a Hit
abbrev strange : Beam
strange = record { origin = half_f ∷ nan ∷ []; endpoint = inf true ∷ half_f ∷ []; hit = true }

abbrev file : List ℕ
file = sweep_bytes 2 7 (strange ∷ [])

pub record SweepNeeds : Type 0 where
  pub strange_coordinates : sweep_of 2 file ≡ given (record { station = 7; beams = strange ∷ [] })
  -- another pattern of the NaN, whose first byte is byte 20: the same beams, and other bytes
  pub another_nan : sweep_of 2 (set file 20 1) ≡ given (record { station = 7; beams = strange ∷ [] })
  pub other_bytes : (get_or file 20 0 ≡ 0) × (get_or (set file 20 1) 20 0 ≡ 1)
  -- a station that two bytes do not hold is read as another, and axes that a byte does not hold are not read at all
  pub station_too_large : sweep_of 2 (sweep_bytes 2 65_536 []) ≡ given (record { station = 0; beams = [] })
  pub axes_too_many : sweep_of 256 (sweep_bytes 256 7 []) ≡ refused (broken_sweep 0)
  -- a number above 255 where a byte belongs: the station 256, of which 0, 1 is written
  pub bytes_read : sweep_of 2 (set (sweep_bytes 2 7 []) 7 256) ≡ given (record { station = 256; beams = [] })
  pub bytes_needed : little_endian 2 256 ≡ 0 ∷ 1 ∷ []
  -- a beam of other axes than the file's
  pub beam_of_one_axis : sweep_of 2 (sweep_bytes 2 7 (record { origin = half_f ∷ []; endpoint = half_f ∷ []; hit = true } ∷ [])) ≡ refused (broken_sweep 9)

pub sweep_needs : SweepNeeds
unfolding little_endian from_little_endian field field_here float_bytes floats_in beam_bytes beams_bytes sweep_bytes beam_here beam_in sweep_end_in beams_in station_in sweep_of to_bits of_bits
sweep_needs =
    record {
      strange_coordinates = refl;
      another_nan = refl;
      other_bytes = (refl, refl);
      station_too_large = refl;
      axes_too_many = refl;
      bytes_read = refl;
      bytes_needed = refl;
      beam_of_one_axis = refl;
    }
