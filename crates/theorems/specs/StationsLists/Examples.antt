-- The promise is not empty: on a map of three axes a night of all six kinds of calls that meets every premise, with the
-- counts; and the same night backwards, whose counts differ and whose stamps and odds do not. By computation of the
-- definitions.
use Rattle.std.specs.Prelude.{ℕ, ◌≡◌, refl, Bool, true, ◌&&◌, List, [], ◌∷◌, T, pos}
use Rattle.std.specs.Float.{Format, binary64}
use Rattle.std.specs.Float.Ieee.{to_bits}
use Rattle.std.specs.Float.Ieee.Fits.{and_l, and_r}
use Rattle.rules.specs.Floats.{half_f}
use Rattle.rules.specs.RefusalNumbers.{Answer, given}
use Rattle.rules.specs.RefusalNumbers.Entries.{first_too_small, extents_refusal, head_refusal, update_ray_entry, update_scan_entry, update_beams_entry, mark_entry}
use Rattle.rules.specs.TheGridAndItsBounds.{Head, Grid, last_extent, rising, cuts_below, cuts_in_bounds}
use Rattle.rules.specs.OneBeam.{all_bits, flat_shape, beams_of}
use Rattle.rules.specs.Fields.{little_endian, from_little_endian, field, field_here, float_bytes, floats_in}
use Rattle.rules.specs.SweepFile.{beam_bytes, beams_bytes, sweep_bytes, beam_here, beam_in, sweep_end_in, beams_in, station_in, sweep_of, update_sweep_entry}
use Rattle.rules.specs.VerticalBeam.{in_profile, column_place, column_marks, ends_occupied, cells_above, vertical_marks, update_vertical_entry}
use Rattle.theorems.specs.PromiseThree.{head_opened, grid_opened, Opened, Multiples}
use Rattle.theorems.specs.PromiseThree.AsTests.{is_given, is_given_lem, opened_holds, multiples_hold}
use Rattle.theorems.specs.PromiseThree.Examples.{plus, head3, grid3, cloud, clear, opened}
use Rattle.theorems.specs.StationsLists.Words.{Call, ray, flat-list, slice, file, upright, mark, outcome, Accepted, night, NoneRefused}

-- none is refused, as a test
abbrev pub accepts : Format → Head → List Call → Grid → Bool
accepts f h [] g = true
accepts f h (c ∷ cs) g = is_given (outcome f h c g).answer && accepts f h cs (outcome f h c g).lent

pub accepted : (f : Format) (h : Head) (cs : List Call) (g : Grid) → T (accepts f h cs g) → Accepted f h cs g
accepted f h [] g t = tt
accepted f h (c ∷ cs) g t =
    let first = is_given (outcome f h c g).answer in
    let rest = accepts f h cs (outcome f h c g).lent in
    (is_given_lem (outcome f h c g).answer (and_l first rest t), accepted f h cs (outcome f h c g).lent (and_r first rest t))

-- what they answer, first to last
abbrev answers : Format → Head → List Call → Grid → List (Answer ℕ)
answers f h [] g = []
answers f h (c ∷ cs) g = (outcome f h c g).answer ∷ answers f h cs (outcome f h c g).lent

-- ---- the night, on the map of 2 by 2 by 3
-- a station's list, as flat numbers: from (0.5, 0.5, 0.5) to (1.5, 0.5, 0.5), a Hit in cell 1
abbrev pub list : Call
list = flat-list (half_f ∷ half_f ∷ half_f ∷ plus 3 2 ∷ half_f ∷ half_f ∷ []) (1 ∷ [])

-- another's, as structs: it crosses cell 1
abbrev pub structs : Call
structs = slice (clear (half_f ∷ []) ∷ [])

-- station 7 mails the Hit again and one on the layer above, an older one looks straight up from cell 1, a keeper sends
-- the first beam again, and marks cell 3, which the structs' beam crosses
abbrev mailed : Call
mailed = file (sweep_bytes 3 7 (cloud (half_f ∷ []) ∷ cloud (plus 3 2 ∷ []) ∷ []))

abbrev straight : Call
straight = upright (record { x = 1; y = 0; bottom = 0; top = 2; hit = true })

abbrev cloud_mark : Call
cloud_mark = mark true (pos 1 ∷ pos 1 ∷ pos 0 ∷ [])

abbrev calls : List Call
calls = structs ∷ list ∷ mailed ∷ straight ∷ ray (cloud (half_f ∷ [])) ∷ cloud_mark ∷ []

abbrev backwards : List Call
backwards = cloud_mark ∷ ray (cloud (half_f ∷ [])) ∷ straight ∷ mailed ∷ list ∷ structs ∷ []

-- Opening this opens what the entries compute through.
unfoldable pub opened_entries : ℕ
unfolding first_too_small extents_refusal head_refusal update_ray_entry update_scan_entry update_beams_entry mark_entry last_extent rising cuts_below cuts_in_bounds all_bits flat_shape beams_of
opened_entries = 0

unfoldable opened_bytes : ℕ
unfolding little_endian from_little_endian field field_here float_bytes floats_in to_bits
opened_bytes = 0

unfoldable opened_file : ℕ
unfolding opened_bytes beam_bytes beams_bytes sweep_bytes beam_here beam_in sweep_end_in beams_in station_in sweep_of update_sweep_entry
opened_file = 0

unfoldable opened_profile : ℕ
unfolding in_profile column_place column_marks ends_occupied cells_above vertical_marks update_vertical_entry
opened_profile = 0

pub record Night : Type 0 where
  -- Every premise is met, those of the last sentence too.
  pub sweep-opened : Opened head3 grid3
  pub in_multiples : Multiples binary64 head3 grid3
  pub none_refused : NoneRefused binary64 head3 grid3 calls
  -- Six counts, and six others backwards.
  pub counts : answers binary64 (head_opened head3) calls (grid_opened head3 grid3) ≡ given 2 ∷ given 2 ∷ given 2 ∷ given 1 ∷ given 0 ∷ given 1 ∷ []
  pub counts_backwards : answers binary64 (head_opened head3) backwards (grid_opened head3 grid3) ≡ given 1 ∷ given 2 ∷ given 2 ∷ given 2 ∷ given 0 ∷ given 0 ∷ []
  -- The same stamps.
  pub stamps : (night binary64 head3 grid3 calls).stamps ≡ 4 ∷ 5 ∷ 2 ∷ 5 ∷ 4 ∷ 5 ∷ 0 ∷ 0 ∷ 0 ∷ 5 ∷ 0 ∷ 0 ∷ []
  pub stamps-backwards : (night binary64 head3 grid3 backwards).stamps ≡ 4 ∷ 5 ∷ 2 ∷ 5 ∷ 4 ∷ 5 ∷ 0 ∷ 0 ∷ 0 ∷ 5 ∷ 0 ∷ 0 ∷ []

pub a_night : Night
unfolding opened opened_entries opened_file opened_profile
a_night =
    record {
      sweep-opened = opened_holds head3 grid3 tt;
      in_multiples = multiples_hold binary64 head3 grid3 tt tt;
      none_refused = accepted binary64 (head_opened head3) calls (grid_opened head3 grid3) tt;
      counts = refl;
      counts_backwards = refl;
      stamps = refl;
      stamps-backwards = refl;
    }
