-- The laws speak of something, and their premises are needed: by computation of the definitions.
use Rattle.std.specs.Prelude.{ℕ, ◌≡◌, refl, true, List, [], ◌∷◌, pos, Float}
use Rattle.std.specs.Float.{nan, binary64}
use Rattle.std.specs.Float.Ieee.{is_nan}
use Rattle.rules.specs.Floats.{zero_f, half_f, one_f}
use Rattle.rules.specs.RefusalNumbers.{given, refused, ray_in_list, bad_buffer}
use Rattle.rules.specs.RefusalNumbers.Entries.{Outcome, first_too_small, extents_refusal, head_refusal, reset_entry, begin_scan_entry, set_log_odds_entry, set_log_odds_checked_entry, update_beams_entry}
use Rattle.rules.specs.TheGridAndItsBounds.{Head, Grid, fresh_grid, rising, cuts_below, cuts_in_bounds}
use Rattle.rules.specs.MarksAndFrames.{set_odds}
use Rattle.rules.specs.OneBeam.{Beam}
use Rattle.theorems.specs.PromiseThree.Examples.{model, head2, cloud, clear, opened}
use Rattle.theorems.specs.HandCorrections.{Map, open_scan, after}

-- a fresh map of 2 by 2
abbrev fresh : Grid
fresh = record { odds = zero_f ∷ zero_f ∷ zero_f ∷ zero_f ∷ []; stamps = 0 ∷ 0 ∷ 0 ∷ 0 ∷ [] }

-- a beam that is refused
abbrev broken : Beam
broken = record { origin = nan ∷ half_f ∷ []; endpoint = half_f ∷ half_f ∷ []; hit = true }

abbrev sent : List Beam → Grid → Outcome ℕ Grid
sent bs g = update_beams_entry binary64 head2 bs g

-- cell 1, set to these odds
abbrev set : Float → List Float → List Float
set x odds = (set_log_odds_entry head2 (pos 1 ∷ pos 0 ∷ []) x odds).lent

-- the same, tried first
abbrev checked : Float → List Float → List Float
checked x odds = (set_log_odds_checked_entry head2 (pos 1 ∷ pos 0 ∷ []) x odds).lent

-- no odds were lent, and the frame is the last: `begin_scan`, which uses no odds, zeroes the stamps
abbrev short : Map
short = record { head = record { extents = 2 ∷ 2 ∷ []; model = model; frame = 2_147_483_647 }; grid = record { odds = []; stamps = 1 ∷ 1 ∷ 1 ∷ 1 ∷ [] } }

abbrev reset_of : Map → Outcome Head Grid
reset_of m = reset_entry m.head m.grid

pub record Cases : Type 0 where
  -- A list of one beam and a list of another, two changes each: four of both.
  pub counts_added :
      ((sent (clear [] ∷ []) fresh).answer ≡ given 2)
      × ((sent (cloud [] ∷ []) (sent (clear [] ∷ []) fresh).lent).answer ≡ given 2)
      × ((sent (clear [] ∷ cloud [] ∷ []) fresh).answer ≡ given 4)
  -- The second list stops at its second beam, after two changes: the joined list at its third, after four.
  pub second_refused :
      ((sent (cloud [] ∷ broken ∷ []) (sent (clear [] ∷ []) fresh).lent).answer ≡ refused (ray_in_list 1 2))
      × ((sent (clear [] ∷ cloud [] ∷ broken ∷ []) fresh).answer ≡ refused (ray_in_list 2 4))
  -- The first list stops at its first beam, and the joined list there too.
  pub first_refused : ((sent (broken ∷ []) fresh).answer ≡ refused (ray_in_list 0 0)) × ((sent (broken ∷ cloud [] ∷ []) fresh).answer ≡ refused (ray_in_list 0 0))
  -- Sets on one cell may not be exchanged: the later one counts.
  pub one_cell :
      (set one_f (set half_f fresh.odds) ≡ zero_f ∷ one_f ∷ zero_f ∷ zero_f ∷ [])
      × (set half_f (set one_f fresh.odds) ≡ zero_f ∷ half_f ∷ zero_f ∷ zero_f ∷ [])
  -- Checked, the later number counts; NaN is refused, and the number before it stays.
  pub checked-cell :
      (checked one_f (checked half_f fresh.odds) ≡ zero_f ∷ one_f ∷ zero_f ∷ zero_f ∷ [])
      × (checked nan (checked half_f fresh.odds) ≡ zero_f ∷ half_f ∷ zero_f ∷ zero_f ∷ [])
  -- Where `reset` is refused, it leaves the stamps as they are: as lent, or as the calls before it left them.
  pub reset-refused :
      ((reset_of short).answer ≡ refused bad_buffer)
      × ((reset_of short).lent.stamps ≡ 1 ∷ 1 ∷ 1 ∷ 1 ∷ [])
      × ((reset_of (after binary64 open_scan short)).lent.stamps ≡ 0 ∷ 0 ∷ 0 ∷ 0 ∷ [])

pub cases : Cases
unfolding opened first_too_small extents_refusal head_refusal reset_entry begin_scan_entry set_log_odds_entry set_log_odds_checked_entry is_nan update_beams_entry set_odds fresh_grid rising cuts_below cuts_in_bounds
cases =
    record {
      counts_added = (refl, refl, refl);
      second_refused = (refl, refl);
      first_refused = (refl, refl);
      one_cell = (refl, refl);
      checked-cell = (refl, refl);
      reset-refused = (refl, refl, refl);
    }
