-- The calls of a night, the beams and marks that they hand over, and what they leave: the words in which
-- `StationsLists` is said, beside the rules' and promise 3's. Definitions only.
use Rattle.std.specs.Prelude.{ℕ, ◌≡◌, List, [], ◌∷◌, ◌++◌, Bool, cond, ℤ, length, Float}
use Rattle.std.specs.Float.{Format}
use Rattle.rules.specs.RefusalNumbers.{Answer, given, refused, and_then}
use Rattle.rules.specs.RefusalNumbers.Entries.{Outcome, update_ray_entry, update_scan_entry, update_beams_entry, mark_entry}
use Rattle.rules.specs.TheGridAndItsBounds.{Head, Grid}
use Rattle.rules.specs.Coordinates.{flat_index}
use Rattle.rules.specs.MarksAndFrames.{Mark}
use Rattle.rules.specs.OneBeam.{Beam, beam_marks, beams_of}
use Rattle.rules.specs.SweepFile.{Sweep, Swept, sweep_of, update_sweep_entry}
use Rattle.rules.specs.VerticalBeam.{Vertical, update_vertical_entry}
use Rattle.theorems.specs.PromiseThree.{head_opened, grid_opened, Multiples}
use Rattle.theorems.specs.VerticalBeam.{general_beam}

-- ---- the calls that integrate or mark
-- `update_ray`, `update_scan`, a slice of beams, `update_sweep` of any bytes, `update_vertical3`; and `mark_occupied`
-- or `mark_free` on a cell
pub data Call : Type 0 where
  ray : Beam → Call
  flat-list : List Float → List ℕ → Call
  slice : List Beam → Call
  file : List ℕ → Call
  upright : Vertical → Call
  mark : Bool → List ℤ → Call

-- a file's answer has the station's number beside the count
abbrev pub counted : Outcome Swept Grid → Outcome ℕ Grid
counted o = record { answer = and_then o.answer (λ s. given s.count); lent = o.lent }

-- a mark's answer is whether it changed its cell: a count of one or none
abbrev pub changed_one : Outcome Bool Grid → Outcome ℕ Grid
changed_one o = record { answer = and_then o.answer (λ changed. given (cond changed 1 0)); lent = o.lent }

-- what a call answers and leaves: the entries' contracts are equations with these
abbrev pub outcome : Format → Head → Call → Grid → Outcome ℕ Grid
outcome f h (ray b) g = update_ray_entry f h b g
outcome f h (flat-list numbers hits) g = update_scan_entry f h numbers hits g
outcome f h (slice bs) g = update_beams_entry f h bs g
outcome f h (file bytes) g = counted (update_sweep_entry f h bytes g)
outcome f h (upright v) g = update_vertical_entry f h v g
outcome f h (mark occupied cell) g = changed_one (mark_entry f occupied h cell g)

-- the grid that calls leave, one after another
abbrev pub left : Format → Head → List Call → Grid → Grid
left f h [] g = g
left f h (c ∷ cs) g = left f h cs (outcome f h c g).lent

-- none of them is refused
abbrev pub Accepted : Format → Head → List Call → Grid → Type 0
Accepted f h [] g = Unit {0}
Accepted f h (c ∷ cs) g = ((n : ℕ) × ((outcome f h c g).answer ≡ given n)) × Accepted f h cs (outcome f h c g).lent

-- ---- what calls hand over
-- beams, and marks by hand
pub data Handed : Type 0 where
  beam : Beam → Handed
  by_hand : Bool → List ℤ → Handed

-- a beam makes its marks, and a mark by hand one, on its cell
abbrev pub hand_marks : Format → List ℕ → Handed → Answer (List Mark)
hand_marks f es (beam b) = beam_marks f es b
hand_marks f es (by_hand occupied cell) = and_then (flat_index es cell) (λ i. given (record { place = i; occupied = occupied } ∷ []))

abbrev pub as_beams : List Beam → List Handed
as_beams [] = []
as_beams (b ∷ bs) = beam b ∷ as_beams bs

abbrev pub beams_of_file : Answer Sweep → List Beam
beams_of_file (given s) = s.beams
beams_of_file (refused r) = []

-- a vertical beam is the general beam between its cells' centres (change request 11)
abbrev pub hands_over : Format → List ℕ → Call → List Handed
hands_over f es (ray b) = beam b ∷ []
hands_over f es (flat-list numbers hits) = as_beams (beams_of (length es) numbers hits)
hands_over f es (slice bs) = as_beams bs
hands_over f es (file bytes) = as_beams (beams_of_file (sweep_of (length es) bytes))
hands_over f es (upright v) = beam (general_beam f es v) ∷ []
hands_over f es (mark occupied cell) = by_hand occupied cell ∷ []

abbrev pub handed : Format → List ℕ → List Call → List Handed
handed f es [] = []
handed f es (c ∷ cs) = hands_over f es c ++ handed f es cs

-- ---- a night
-- after `begin_scan`, which answers the head or leaves it where it was lent, these calls: what the last one leaves, and
-- that none is refused. (What the entries check themselves is in this, the cuts, 15, among it: it is no premise of its
-- own.)
abbrev pub night : Format → Head → Grid → List Call → Grid
night f h g cs = left f (head_opened h) cs (grid_opened h g)

abbrev pub NoneRefused : Format → Head → Grid → List Call → Type 0
NoneRefused f h g cs = Accepted f (head_opened h) cs (grid_opened h g)

-- ---- the conclusions
-- two nights leave the same map
pub record SameMap (f : Format) (h : Head) (g : Grid) (cs ds : List Call) : Type 0 where
  -- The stamps are the same.
  pub stamps : (night f h g cs).stamps ≡ (night f h g ds).stamps
  -- Under the last sentence's premises the odds too, as data: bit for bit, with the sign of zero.
  pub odds : Multiples f h g → (night f h g cs).odds ≡ (night f h g ds).odds

-- the second night is accepted where the first is, and leaves the same map
pub record AsGood (f : Format) (h : Head) (g : Grid) (cs ds : List Call) : Type 0 where
  pub none_refused : NoneRefused f h g ds
  pub same_map : SameMap f h g cs ds
