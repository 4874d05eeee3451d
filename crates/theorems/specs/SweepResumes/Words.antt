-- The words in which `SweepResumes` is said, beside the rules' and those of `StationsLists`. Definitions only.
use Rattle.std.specs.Prelude.{ℕ, ◌<◌, true, List, [], ◌∷◌, ◌++◌, ◌≡◌, length, take}
use Rattle.std.proofs.Math.Option.{none}
use Rattle.std.specs.Float.{Format, binary64}
use Rattle.rules.specs.RefusalNumbers.{Answer, given}
use Rattle.rules.specs.RefusalNumbers.Entries.{head_refusal, Outcome}
use Rattle.rules.specs.RefusalNumbers.Editions.{Loaded, uses_of_writing, read_edition_entry, write_edition_entry}
use Rattle.rules.specs.TheGridAndItsBounds.{Head, Grid}
use Rattle.rules.specs.MapRecord.{odds_in_bounds}
use Rattle.rules.specs.EditionTwo.{cuts_for, none_above, edition_size}
use Rattle.record_laws.specs.Words.{Held}
use Rattle.theorems.specs.StationsLists.Words.{Call, outcome, left}

-- a map that can be stored with its sweep open
pub record Storable (h : Head) (g : Grid) : Type 0 where
  -- Its head passes every check of writing, the frame's and those of the lists' sizes among them.
  pub passes : head_refusal (uses_of_writing true) h (length g.odds) (length g.stamps) ≡ none
  -- It has an axis, and as many cuts as a map of so many axes: two on three axes, none on two.
  pub some-axis : 0 < length h.extents
  pub cuts_are : length h.model.above ≡ cuts_for (length h.extents)
  -- Its floats are values of binary64, as every f64 is.
  pub held : Held h g.odds
  -- All odds lie from the floor to the ceiling, and no stamp bears a frame above the head's.
  pub odds-within : odds_in_bounds h.model g.odds ≡ true
  pub none_above_lem : none_above h.frame g.stamps ≡ true

-- what calls answer, first to last, the refused among them
abbrev pub answers : Format → Head → List Call → Grid → List (Answer ℕ)
answers f h [] g = []
answers f h (c ∷ cs) g = (outcome f h c g).answer ∷ answers f h cs (outcome f h c g).lent

-- the map is written with its sweep open into `out`, and the bytes of the record are read into other lists
abbrev pub resumed : Head → Grid → List ℕ → Grid → Outcome Loaded Grid
resumed h g out other =
    read_edition_entry (length h.extents) (take (edition_size h.extents true) (write_edition_entry h true g out).lent) other

-- a sweep in which the map is stored and read after the calls cs, and the calls ds follow
pub record Resumes (h : Head) (g : Grid) (cs ds : List Call) (out : List ℕ) (other : Grid) : Type 0 where
  -- Writing answers the size of the record; reading answers the head, and that the sweep is open.
  pub written : (write_edition_entry h true (left binary64 h cs g) out).answer ≡ given (edition_size h.extents true)
  pub head_back : (resumed h (left binary64 h cs g) out other).answer ≡ given (record { head = h; running = true })
  -- The odds and the stamps are those that the calls before left.
  pub odds_back : (resumed h (left binary64 h cs g) out other).lent.odds ≡ (left binary64 h cs g).odds
  pub stamps_back : (resumed h (left binary64 h cs g) out other).lent.stamps ≡ (left binary64 h cs g).stamps
  -- So the calls that follow leave the same lists, and each has the same answer, as if the map had never been stored.
  pub same_lists : left binary64 h ds (resumed h (left binary64 h cs g) out other).lent ≡ left binary64 h (cs ++ ds) g
  pub same-answers :
      answers binary64 h cs g ++ answers binary64 h ds (resumed h (left binary64 h cs g) out other).lent ≡ answers binary64 h (cs ++ ds) g
