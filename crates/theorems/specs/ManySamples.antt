-- Many sample points in one call are the points one by one, of every format and any number of axes: slot i and mark i
-- hold what asking for point i alone answers. `ManySamples.Proof` has the theorem. Definitions only.
pub mod Proof
use Rattle.std.specs.Prelude.{ℕ, suc, ◌*◌, ◌<◌, ◌≡◌, List, length, get_or, take, drop, Float}
use Rattle.std.proofs.Math.Option.{Option}
use Rattle.std.specs.Float.{Format}
use Rattle.rules.specs.RefusalNumbers.{Refusal, given, refused}
use Rattle.rules.specs.RefusalNumbers.Entries.{Outcome, sample_log_odds_entry}
use Rattle.rules.specs.TheGridAndItsBounds.{Head}
use Rattle.rules.specs.Coordinates.{Sample}
use Rattle.rules.specs.ManySamples.{Slots, slot_of, found_of, sample_all_log_odds_entry}

-- point i of a flat list, and slot i
abbrev pub point_at : ℕ → ℕ → List Float → List Float
point_at n i points = take n (drop (n * i) points)

abbrev pub slot_at : ℕ → ℕ → List Float → List Float
slot_at n i samples = take (suc n) (drop (suc n * i) samples)

-- slots after a call, and before it, hold at i what asking for point i alone answers
pub record AskedAlone (f : Format) (h : Head) (points odds : List Float) (after before : Slots) (i : ℕ) : Type 0 where
  pub answer : Option Sample
  pub asked : sample_log_odds_entry f h (point_at (length h.extents) i points) odds ≡ given answer
  pub slot : slot_at (length h.extents) i after.samples ≡ slot_of answer (slot_at (length h.extents) i before.samples)
  pub mark : get_or after.found i 0 ≡ found_of answer

-- what a call answers and leaves in the slots lent to it
pub record PointByPoint (f : Format) (h : Head) (points odds : List Float) (s : Slots) (out : Outcome (Unit {0}) Slots) : Type 0 where
  -- Not refused: each slot and each mark is its own point's.
  pub each : out.answer ≡ given tt → (i : ℕ) → i < length s.found → AskedAlone f h points odds out.lent s i
  -- There are as many numbers and marks as before, so nothing else is left.
  pub numbers_kept : length out.lent.samples ≡ length s.samples
  pub marks_kept : length out.lent.found ≡ length s.found
  -- What refuses one point refuses the list; and a refused call writes nothing.
  pub refused_alike : (r : Refusal) (point : List Float) → sample_log_odds_entry f h point odds ≡ refused r → out.answer ≡ refused r
  pub nothing_written : (r : Refusal) → out.answer ≡ refused r → out.lent ≡ s

abbrev pub ManySamples : Format → Type 0
ManySamples f = (h : Head) (points odds : List Float) (s : Slots) → PointByPoint f h points odds s (sample_all_log_odds_entry f h points odds s)
