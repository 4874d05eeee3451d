-- EQUAL PAIRS ARE ONE PAIR: where every band has the lowest one's pair and the cuts fit, each entry answers and leaves
-- what it does for the requirements' model, which has one pair and no cuts. Comparisons with the original use it, which
-- has one pair. Of any number of bands and of axes, and any format. The layer chart is not among the entries: it shows
-- the bands, and a map without cuts has none. Definitions only; the proof is in `Proof`.
pub mod Proof
pub mod Examples
use Rattle.std.specs.Prelude.{ℕ, Bool, List, [], ◌∷◌, ◌≡◌, T, ℤ, Float}
use Rattle.std.specs.Float.{Format}
use Rattle.rules.specs.RefusalNumbers.{given, and_then}
use Rattle.rules.specs.RefusalNumbers.Entries.{Outcome, new_entry, reset_entry, begin_scan_entry, mark_entry, update_ray_entry, update_scan_entry, update_beams_entry}
use Rattle.rules.specs.RefusalNumbers.Entries.{set_log_odds_entry, set_log_odds_checked_entry, log_odds_at_entry, sample_log_odds_entry, cell_containing_entry}
use Rattle.rules.specs.RefusalNumbers.Entries.{read_record_entry, write_record_entry}
use Rattle.rules.specs.TheGridAndItsBounds.{Pair, Band, Model, Head, Grid, plain_model, cuts_in_bounds}
use Rattle.rules.specs.MapRecord.{Stored, record_of, with_cuts}
use Rattle.rules.specs.MarksAndFrames.{steps_at}
use Rattle.rules.specs.OneBeam.{Beam}
use Rattle.rules.specs.SweepFile.{update_sweep_entry}
use Rattle.rules.specs.VerticalBeam.{Vertical, update_vertical_entry}
use Rattle.rules.specs.ManySamples.{Slots, sample_all_log_odds_entry}
use Rattle.record_laws.specs.Words.{plain_head}

-- ---- the requirements' model: `plain_head` is a head that has it
abbrev pub plain : Model → Model
plain m = plain_model m.lowest m.ceiling

-- ---- the premises
abbrev pub AllHave : Pair → List Band → Type 0
AllHave p [] = Unit {0}
AllHave p (b ∷ bs) = (b.pair ≡ p) × AllHave p bs

-- the cuts fit: each entry that uses the model tries this itself, and refuses with 15
pub record OnePair (h : Head) : Type 0 where
  pub pairs : AllHave h.model.lowest h.model.above
  pub cuts : T (cuts_in_bounds h.extents h.model)

-- an answer that is a head, with the requirements' model: the rest of the outcome stays
abbrev pub plainly : {L : Type 0} → Outcome Head L → Outcome Head L
plainly o = record { answer = and_then o.answer (λ h. given (plain_head h)); lent = o.lent }

-- ---- the conclusions
pub record Alike (f : Format) (h : Head) : Type 0 where
  -- Every cell has the same steps and bounds.
  pub steps : (place : ℕ) → steps_at h.model place ≡ steps_at (plain h.model) place
  -- The entries whose answer is a head: it has the model that was given.
  pub new : (g : Grid) → plainly (new_entry h.extents h.model g) ≡ new_entry h.extents (plain h.model) g
  pub reset : (g : Grid) → plainly (reset_entry h g) ≡ reset_entry (plain_head h) g
  pub begin_scan : (stamps : List ℕ) → plainly (begin_scan_entry h stamps) ≡ begin_scan_entry (plain_head h) stamps
  -- Marks and beams.
  pub mark : (occupied : Bool) (cell : List ℤ) (g : Grid) → mark_entry f occupied h cell g ≡ mark_entry f occupied (plain_head h) cell g
  pub ray : (b : Beam) (g : Grid) → update_ray_entry f h b g ≡ update_ray_entry f (plain_head h) b g
  pub scan : (numbers : List Float) (hits : List ℕ) (g : Grid) → update_scan_entry f h numbers hits g ≡ update_scan_entry f (plain_head h) numbers hits g
  pub beams : (bs : List Beam) (g : Grid) → update_beams_entry f h bs g ≡ update_beams_entry f (plain_head h) bs g
  pub sweep : (bytes : List ℕ) (g : Grid) → update_sweep_entry f h bytes g ≡ update_sweep_entry f (plain_head h) bytes g
  pub vertical : (v : Vertical) (g : Grid) → update_vertical_entry f h v g ≡ update_vertical_entry f (plain_head h) v g
  -- Sets and reads.
  pub set : (cell : List ℤ) (x : Float) (odds : List Float) → set_log_odds_entry h cell x odds ≡ set_log_odds_entry (plain_head h) cell x odds
  pub set-checked : (cell : List ℤ) (x : Float) (odds : List Float) → set_log_odds_checked_entry h cell x odds ≡ set_log_odds_checked_entry (plain_head h) cell x odds
  pub log_odds_at : (cell : List ℤ) (odds : List Float) → log_odds_at_entry h cell odds ≡ log_odds_at_entry (plain_head h) cell odds
  pub sample : (point odds : List Float) → sample_log_odds_entry f h point odds ≡ sample_log_odds_entry f (plain_head h) point odds
  pub sample-all : (points odds : List Float) (s : Slots) → sample_all_log_odds_entry f h points odds s ≡ sample_all_log_odds_entry f (plain_head h) points odds s
  pub cell-containing : (point : List Float) → cell_containing_entry f h point ≡ cell_containing_entry f (plain_head h) point
  -- Writing a record of edition 1.
  pub write : (odds : List Float) (out : List ℕ) → write_record_entry h odds out ≡ write_record_entry (plain_head h) odds out

-- Reading one: whoever reads gives the cuts, and they may be any that fit the record's map.
abbrev pub CutsFit : ℕ → List ℕ → List ℕ → Type 0
CutsFit axes cuts bytes = (s : Stored) → record_of axes bytes ≡ given s → T (cuts_in_bounds s.head.extents (with_cuts cuts s.head).model)

abbrev pub ReadAlike : Type 0
ReadAlike =
    (axes : ℕ) (cuts bytes : List ℕ) (g : Grid) → CutsFit axes cuts bytes
    → plainly (read_record_entry axes cuts bytes g) ≡ read_record_entry axes [] bytes g

abbrev pub EqualPairsAreOne : Type 0
EqualPairsAreOne = (f : Format) (h : Head) → OnePair h → Alike f h
