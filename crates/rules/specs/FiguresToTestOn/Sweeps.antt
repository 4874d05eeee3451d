-- Change request 2 by example: a sweep file's bytes, where a broken one breaks, and what integrating and writing one
-- answer. One table, proved of the definitions by computation.
use Rattle.std.specs.Prelude.{ℕ, true, false, List, [], ◌∷◌, ◌++◌, ◌≡◌, refl, length, get_or, replicate, set, take, drop}
use Rattle.std.specs.Float.{nan, binary64}
use Rattle.rules.specs.RefusalNumbers.{given, refused, bad_beams, bad_frame, no_room, ray_in_list, broken_sweep}
use Rattle.rules.specs.RefusalNumbers.Entries.{Outcome}
use Rattle.rules.specs.Floats.{half_f}
use Rattle.rules.specs.TheGridAndItsBounds.{Grid}
use Rattle.rules.specs.OneBeam.{Beam}
use Rattle.rules.specs.SweepFile.{Sweep, Swept, beam_bytes, beams_bytes, sweep_bytes, sweep_size, beam_here, beam_in, sweep_end_in, beams_in}
use Rattle.rules.specs.SweepFile.{station_in, sweep_of, update_sweep_entry, write_sweep_entry}
use Rattle.rules.specs.FiguresToTestOn.{plus, head_of, fresh, opened}

-- two beams on a map of 2 by 2: one that stops where it starts, on cloud, and one that ran out
abbrev beams_of_two : List Beam
beams_of_two =
    record { origin = half_f ∷ half_f ∷ []; endpoint = half_f ∷ half_f ∷ []; hit = true }
    ∷ record { origin = half_f ∷ half_f ∷ []; endpoint = plus 3 2 ∷ half_f ∷ []; hit = false }
    ∷ []

abbrev file : List ℕ
file = sweep_bytes 2 513 beams_of_two

abbrev integrating : List ℕ → Outcome Swept Grid
integrating bytes = update_sweep_entry binary64 (head_of 2 2 1) bytes (fresh 2 2)

abbrev broken_at : ℕ → Outcome Swept Grid
broken_at offset = record { answer = refused (broken_sweep offset); lent = fresh 2 2 }

-- a beam that meets 7, behind the first of the two
abbrev with_na_n : List ℕ
with_na_n =
    sweep_bytes 2 513 (record { origin = half_f ∷ half_f ∷ []; endpoint = half_f ∷ half_f ∷ []; hit = true }
    ∷ record { origin = half_f ∷ half_f ∷ []; endpoint = nan ∷ half_f ∷ []; hit = false } ∷ [])

pub record SweepAnswers : Type 0 where
  -- no beams: three fields of 4, 5 and 7 bytes
  pub bytes_of_no_beams : sweep_bytes 3 513 [] ≡ 1 ∷ 1 ∷ 0 ∷ 3 ∷ 2 ∷ 2 ∷ 0 ∷ 1 ∷ 2 ∷ 4 ∷ 4 ∷ 0 ∷ 0 ∷ 0 ∷ 0 ∷ 0 ∷ []
  pub bytes_of_two_beams : length file ≡ 88
  -- a beam's field: its tag and length, the first number, 0.5, and the byte of a Hit
  pub bytes_of_a_beam : take 11 (drop 9 file) ++ get_or file 44 0 ∷ [] ≡ 3 ∷ 33 ∷ 0 ∷ 0 ∷ 0 ∷ 0 ∷ 0 ∷ 0 ∷ 0 ∷ 224 ∷ 63 ∷ 1 ∷ []
  pub reads_what_was_written : sweep_of 2 file ≡ given (record { station = 513; beams = beams_of_two })
  -- three axes for two; cut within a beam; a byte of 2; a count of three; bytes after the end
  pub three_axes_for_two : sweep_of 2 (sweep_bytes 3 513 []) ≡ refused (broken_sweep 0)
  pub cut_short : integrating (take 80 file) ≡ broken_at 45
  pub strange_byte : integrating (set file 44 2) ≡ broken_at 9
  pub another_count : integrating (set file 84 3) ≡ broken_at 81
  pub bytes_after_the_end : integrating (file ++ 0 ∷ []) ≡ broken_at 88
  -- the beams in their order: the first marks a cell as cloud, the second another as clear
  pub both_beams : (integrating file).answer ≡ given (record { station = 513; count = 2 })
  -- a NaN is legal in the file, meets 7 at its place, and the beam before it stays
  pub not_a_number_lem : (integrating with_na_n).answer ≡ refused (ray_in_list 1 1)
  pub frame_before_file : (update_sweep_entry binary64 (head_of 2 2 0) [] (fresh 2 2)).answer ≡ refused bad_frame
  -- writing: a bad list before the room; the rest of what was lent stays
  pub list_before_room : (write_sweep_entry 2 513 (half_f ∷ []) [] []).answer ≡ refused bad_beams
  pub no_room_lem : write_sweep_entry 2 513 [] [] (replicate 15 7) ≡ record { answer = refused (no_room 16); lent = replicate 15 7 }
  pub writes_the_file : write_sweep_entry 2 513 (half_f ∷ half_f ∷ half_f ∷ half_f ∷ half_f ∷ half_f ∷ plus 3 2 ∷ half_f ∷ []) (1 ∷ 0 ∷ []) (replicate 89 7)
      ≡ record { answer = given 88; lent = file ++ 7 ∷ [] }

pub sweep_answers : SweepAnswers
unfolding opened beam_bytes beams_bytes sweep_bytes sweep_size beam_here beam_in sweep_end_in beams_in station_in sweep_of update_sweep_entry write_sweep_entry
sweep_answers =
    record {
      bytes_of_no_beams = refl;
      bytes_of_two_beams = refl;
      bytes_of_a_beam = refl;
      reads_what_was_written = refl;
      three_axes_for_two = refl;
      cut_short = refl;
      strange_byte = refl;
      another_count = refl;
      bytes_after_the_end = refl;
      both_beams = refl;
      not_a_number_lem = refl;
      frame_before_file = refl;
      list_before_room = refl;
      no_room_lem = refl;
      writes_the_file = refl;
    }
