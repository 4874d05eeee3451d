-- Laws of hand corrections, of the calls we have: sets again and in another order, `reset` after any calls, an empty
-- list of beams, and two lists one after another. Of every format and any number of axes. `HandCorrections.Proof` has
-- the theorem. Definitions only.
pub mod Places
pub mod Sets
pub mod CheckedSets
pub mod EmptyFile
pub mod Lists
pub mod Sweeps
pub mod FlatLists
pub mod Resets
pub mod Proof
pub mod Examples
use Rattle.std.specs.Prelude.{ℕ, ◌+◌, ◌≡◌, Bool, false, List, [], ◌∷◌, ◌++◌, T, ℤ, length, Float}
use Rattle.std.specs.Float.{Format}
use Rattle.std.specs.Float.Ieee.{is_nan}
use Rattle.rules.specs.RefusalNumbers.{Refusal, Answer, given, refused, ray_in_list}
use Rattle.rules.specs.RefusalNumbers.Entries.{Outcome, answered, head_refusal, uses_of, beams}
use Rattle.rules.specs.RefusalNumbers.Entries.{reset_entry, begin_scan_entry, mark_entry, update_ray_entry, update_scan_entry, update_beams_entry, set_log_odds_entry, set_log_odds_checked_entry}
use Rattle.rules.specs.TheGridAndItsBounds.{Head, Grid}
use Rattle.rules.specs.OneBeam.{Beam, flat_shape}
use Rattle.rules.specs.SweepFile.{Sweep, Swept, sweep_of, update_sweep_entry}
use Rattle.rules.specs.VerticalBeam.{Vertical, update_vertical_entry}

-- ---- calls on one map
-- a map: its head, and the lists that are lent with it
pub record Map : Type 0 where
  pub head : Head
  pub grid : Grid

-- the calls that can change one; reads, samples, `cell_containing` and writing a record lend it for looking alone
pub data Call : Type 0 where
  set-odds : List ℤ → Float → Call
  set-checked : List ℤ → Float → Call
  mark : Bool → List ℤ → Call
  update_ray : Beam → Call
  update_scan : List Float → List ℕ → Call
  update_beams : List Beam → Call
  update_sweep : List ℕ → Call
  update_vertical : Vertical → Call
  open_scan : Call
  reset_map : Call

-- the head that was given, or the one before
abbrev pub head_after : Head → Answer Head → Head
head_after h (given k) = k
head_after h (refused r) = h

-- the map after a call, refused or not
abbrev pub after : Format → Call → Map → Map
after f (set-odds cell x) m = record { head = m.head; grid = record { odds = (set_log_odds_entry m.head cell x m.grid.odds).lent; stamps = m.grid.stamps } }
after f (set-checked cell x) m = record { head = m.head; grid = record { odds = (set_log_odds_checked_entry m.head cell x m.grid.odds).lent; stamps = m.grid.stamps } }
after f (mark occupied cell) m = record { head = m.head; grid = (mark_entry f occupied m.head cell m.grid).lent }
after f (update_ray b) m = record { head = m.head; grid = (update_ray_entry f m.head b m.grid).lent }
after f (update_scan numbers hits) m = record { head = m.head; grid = (update_scan_entry f m.head numbers hits m.grid).lent }
after f (update_beams bs) m = record { head = m.head; grid = (update_beams_entry f m.head bs m.grid).lent }
after f (update_sweep bytes) m = record { head = m.head; grid = (update_sweep_entry f m.head bytes m.grid).lent }
after f (update_vertical b) m = record { head = m.head; grid = (update_vertical_entry f m.head b m.grid).lent }
after f open_scan m =
    let r = begin_scan_entry m.head m.grid.stamps in
    record { head = head_after m.head r.answer; grid = record { odds = m.grid.odds; stamps = r.lent } }
after f reset_map m =
    let r = reset_entry m.head m.grid in
    record { head = head_after m.head r.answer; grid = r.lent }

abbrev pub after_all : Format → List Call → Map → Map
after_all f [] m = m
after_all f (c ∷ cs) m = after_all f cs (after f c m)

-- ---- two lists of beams
-- the outcomes of the first, of the second on what the first left, and of both as one list of p beams and more
pub record Joined (p : ℕ) (first second both : Outcome ℕ Grid) : Type 0 where
  -- Neither is refused: the counts are added.
  pub counts_added : (k l : ℕ) → first.answer ≡ given k → second.answer ≡ given l → both ≡ record { answer = given (k + l); lent = second.lent }
  -- The first is refused: the joined list ends there with the same answer.
  pub first_refused : (r : Refusal) → first.answer ≡ refused r → both ≡ first
  -- Only the second is: at a beam, and the joined answer has its place raised by the first's length and its count by
  -- the first's count.
  pub second_refused : (k : ℕ) (r : Refusal) → first.answer ≡ given k → second.answer ≡ refused r
      → (q n : ℕ) × (r ≡ ray_in_list q n) × (both ≡ record { answer = refused (ray_in_list (p + q) (k + n)); lent = second.lent })

-- what is answered of no beams: the head may be refused, otherwise the count is 0; nothing changes
abbrev pub nothing_done : Head → Grid → Outcome ℕ Grid
nothing_done h g = record { answer = answered (head_refusal (uses_of beams) h (length g.odds) (length g.stamps)) (given 0); lent = g }

-- the same of a sweep file, which tells its station
abbrev pub nothing_swept : ℕ → Head → Grid → Outcome Swept Grid
nothing_swept station h g =
    record {
      answer = answered (head_refusal (uses_of beams) h (length g.odds) (length g.stamps)) (given (record { station = station; count = 0 }));
      lent = g;
    }

-- ---- the laws
pub record HandCorrections (f : Format) : Type 0 where
  -- A second set on the same cell makes the first irrelevant: the answer, and the odds.
  pub second_set : (h : Head) (cell : List ℤ) (x y : Float) (odds : List Float)
      → set_log_odds_entry h cell y (set_log_odds_entry h cell x odds).lent ≡ set_log_odds_entry h cell y odds
  -- Sets on different cells may be exchanged: they leave the same odds, and each answers what it answers without the
  -- other.
  pub sets_exchanged : (h : Head) (c d : List ℤ) (x y : Float) (odds : List Float) → length c ≡ length h.extents → length d ≡ length h.extents → ¬ (c ≡ d)
      → (set_log_odds_entry h d y (set_log_odds_entry h c x odds).lent).lent ≡ (set_log_odds_entry h c x (set_log_odds_entry h d y odds).lent).lent
  pub set-answers-alone : (h : Head) (c d : List ℤ) (x y : Float) (odds : List Float)
      → (set_log_odds_entry h d y (set_log_odds_entry h c x odds).lent).answer ≡ (set_log_odds_entry h d y odds).answer
  -- The same of `set_log_odds_checked`; a second set that is refused, as NaN is, leaves the first.
  pub second_checked : (h : Head) (cell : List ℤ) (x y : Float) (odds : List Float) → is_nan y ≡ false
      → set_log_odds_checked_entry h cell y (set_log_odds_checked_entry h cell x odds).lent ≡ set_log_odds_checked_entry h cell y odds
  pub checked_exchanged : (h : Head) (c d : List ℤ) (x y : Float) (odds : List Float) → length c ≡ length h.extents → length d ≡ length h.extents → ¬ (c ≡ d)
      → (set_log_odds_checked_entry h d y (set_log_odds_checked_entry h c x odds).lent).lent ≡ (set_log_odds_checked_entry h c x (set_log_odds_checked_entry h d y odds).lent).lent
  pub checked-answers-alone : (h : Head) (c d : List ℤ) (x y : Float) (odds : List Float)
      → (set_log_odds_checked_entry h d y (set_log_odds_checked_entry h c x odds).lent).answer ≡ (set_log_odds_checked_entry h d y odds).answer
  -- `reset` after any calls on one map answers what `reset` alone does; and where that is not refused, it leaves the
  -- same lists.
  pub reset_answers : (cs : List Call) (m : Map) → (reset_entry (after_all f cs m).head (after_all f cs m).grid).answer ≡ (reset_entry m.head m.grid).answer
  pub reset_alone : (cs : List Call) (m : Map) (k : Head) → (reset_entry m.head m.grid).answer ≡ given k
      → reset_entry (after_all f cs m).head (after_all f cs m).grid ≡ reset_entry m.head m.grid
  -- An empty list does nothing, as structs, as flat numbers and as a sweep file.
  pub no_structs : (h : Head) (g : Grid) → update_beams_entry f h [] g ≡ nothing_done h g
  pub no_numbers : (h : Head) (g : Grid) → update_scan_entry f h [] [] g ≡ nothing_done h g
  pub no_file : (h : Head) (bytes : List ℕ) (s : Sweep) (g : Grid) → sweep_of (length h.extents) bytes ≡ given s → s.beams ≡ []
      → update_sweep_entry f h bytes g ≡ nothing_swept s.station h g
  -- One list after another in one sweep is the joined list: as structs, and as flat numbers where both lists are well
  -- formed.
  pub lists : (h : Head) (bs cs : List Beam) (g : Grid)
      → Joined (length bs) (update_beams_entry f h bs g) (update_beams_entry f h cs (update_beams_entry f h bs g).lent) (update_beams_entry f h (bs ++ cs) g)
  pub flat_lists : (h : Head) (xs ys : List Float) (hs ks : List ℕ) (g : Grid) → T (flat_shape (length h.extents) xs hs) → T (flat_shape (length h.extents) ys ks)
      → Joined (length hs) (update_scan_entry f h xs hs g) (update_scan_entry f h ys ks (update_scan_entry f h xs hs g).lent) (update_scan_entry f h (xs ++ ys) (hs ++ ks) g)
