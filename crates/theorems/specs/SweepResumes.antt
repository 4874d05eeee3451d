-- Change request 7: "A laptop was shut mid-sweep; on loading, the stamps were zero and the remaining beams voted again
-- on cells already counted. .. Loading an open record resumes the sweep as if it had never been stored." A map whose
-- sweep is open can be stored after any calls that integrate or mark, and read again it is the map that was stored, its
-- stamps too: the calls that follow do what they would have done. Calls that are refused are no exception, not even a
-- list that is refused at one beam and keeps the beams before it. `SweepResumes.Words` has the words used here beside
-- the rules' and those of `StationsLists`; `Examples` has the laptop, with the old edition and with the new. Assumes
-- nothing.
pub mod Words
pub mod Bounds
pub mod AnyCall
pub mod Marks
pub mod Stored
pub mod Sources
pub mod Examples
use Rattle.std.specs.Prelude.{ℕ, ◌≤◌, ◌<◌, true, List, [], ◌++◌, ◌≡◌, length, drop, Float}
use Rattle.std.specs.Float.{nan, Format, binary64}
use Rattle.std.specs.Float.Ieee.{fits}
use Rattle.rules.specs.RefusalNumbers.{given, refused, no_room}
use Rattle.rules.specs.RefusalNumbers.Entries.{new_entry, begin_scan_entry}
use Rattle.rules.specs.RefusalNumbers.Editions.{Loaded, read_edition_entry, write_edition_entry}
use Rattle.rules.specs.TheGridAndItsBounds.{Head, Grid, Model, cells, bounded}
use Rattle.rules.specs.MarksAndFrames.{Mark, marked}
use Rattle.rules.specs.MapRecord.{odds_in_bounds}
use Rattle.rules.specs.EditionTwo.{cuts_for, none_above, edition_bytes, edition_size}
use Rattle.record_laws.specs.Words.{Each, Held}
use Rattle.theorems.specs.PromiseThree.{head_opened, grid_opened}
use Rattle.theorems.specs.StationsLists.Words.{Call, left, night}
use Rattle.theorems.specs.SweepResumes.Words.{Storable, Resumes}
use Rattle.theorems.specs.SweepResumes.Marks.{marks_none_above, marks_within, calls-none-above, calls-within, calls_fit}
use Rattle.theorems.specs.SweepResumes.Sources.{new_storable, read_storable}
use Rattle.theorems.specs.SweepResumes.Stored.{begins, opened_storable, left_storable, writes, wants_room, resumes}

-- ---- what calls keep, over any format
module _ (f : Format) (h : Head) (cs : List Call) (g : Grid) where
  -- No call leaves a stamp of a frame above the head's, where there was none.
  pub calls_keep_the_frame : none_above h.frame g.stamps ≡ true → none_above h.frame (left f h cs g).stamps ≡ true
  calls_keep_the_frame = calls-none-above f h cs g

  -- Where the model is within its bounds, odds that lie from the floor to the ceiling stay there: no call makes a NaN.
  pub calls_keep_the_bounds : bounded h.model ≡ true → odds_in_bounds h.model g.odds ≡ true → odds_in_bounds h.model (left f h cs g).odds ≡ true
  calls_keep_the_bounds = calls-within f h cs g

  -- And values of the format stay values of it.
  pub calls_keep_the_format : bounded h.model ≡ true → fits f h.model.ceiling ≡ true → Each (λ (o : Float). fits f o ≡ true) nan g.odds
      → Each (λ (o : Float). fits f o ≡ true) nan (left f h cs g).odds
  calls_keep_the_format = calls_fit f h cs g

-- The same of any marks made with frame k, whoever makes them.
module _ (f : Format) (m : Model) (k : ℕ) where
  pub marks_keep_the_frame : (xs : List Mark) (g : Grid) → none_above k g.stamps ≡ true → none_above k (marked f m k xs g).stamps ≡ true
  marks_keep_the_frame = marks_none_above f m k

  pub marks_keep_the_bounds : bounded m ≡ true → (xs : List Mark) (g : Grid) → odds_in_bounds m g.odds ≡ true → odds_in_bounds m (marked f m k xs g).odds ≡ true
  marks_keep_the_bounds = marks_within f m k

-- ---- maps that can be stored, in binary64
-- A new map is one, where its steps and ceiling are values of binary64 and its cuts and layer are those of its axes;
pub new_can_be_stored : (es : List ℕ) (m : Model) (g : Grid) (h : Head) → 0 < length es → length m.above ≡ cuts_for (length es) → Held h []
    → (new_entry es m g).answer ≡ given h → Storable h (new_entry es m g).lent
new_can_be_stored = new_storable

-- and one that was read from a record of edition 2, whether its sweep was open or closed.
pub read_can_be_stored : (axes : ℕ) (bytes : List ℕ) (g : Grid) (l : Loaded) → 0 < axes → (read_edition_entry axes bytes g).answer ≡ given l
    → Storable l.head (read_edition_entry axes bytes g).lent
read_can_be_stored = read_storable

module _ (h : Head) (g : Grid) (s : Storable h g) where
  -- `begin_scan` opens a sweep on such a map and answers the head of the new frame. The map can be stored then, too,
  pub begin_scan_opens : begin_scan_entry h g.stamps ≡ record { answer = given (head_opened h); lent = (grid_opened h g).stamps }
  begin_scan_opens = begins h g s

  pub stored_as_opened : Storable (head_opened h) (grid_opened h g)
  stored_as_opened = opened_storable h g s

  -- and after any calls of the sweep.
  pub stored-after-calls : (cs : List Call) → Storable (head_opened h) (night binary64 h g cs)
  stored-after-calls = left_storable (head_opened h) (grid_opened h g) (opened_storable h g s)

  -- So after any calls writing the record with the sweep open is refused for want of room alone: a list that is long
  -- enough has the bytes of the record first, and then what it had,
  pub can_be_stored : (cs : List Call) (out : List ℕ) → edition_size h.extents true ≤ length out
      → write_edition_entry (head_opened h) true (night binary64 h g cs) out
      ≡ record {
        answer = given (edition_size h.extents true);
        lent = edition_bytes (head_opened h) true (night binary64 h g cs) ++ drop (edition_size h.extents true) out;
      }
  can_be_stored cs = writes (head_opened h) (night binary64 h g cs) (stored-after-calls cs)

  -- and a shorter one stays as it was.
  pub stored_where_there_is_room : (cs : List Call) (out : List ℕ) → length out < edition_size h.extents true
      → write_edition_entry (head_opened h) true (night binary64 h g cs) out ≡ record { answer = refused (no_room (edition_size h.extents true)); lent = out }
  stored_where_there_is_room cs = wants_room (head_opened h) (night binary64 h g cs) (stored-after-calls cs)

  -- The sweep resumes. After `begin_scan` and any calls cs the record is written with the sweep open into any list that
  -- is long enough, and read into any other lists of the map's sizes, whatever they hold: the answer is the head and
  -- that the sweep is open, the lists are those that cs left, and whatever calls ds follow, they answer and leave what
  -- they would have if the map had never been stored.
  pub the_sweep_resumes : (cs ds : List Call) (out : List ℕ) (other : Grid) → edition_size h.extents true ≤ length out
      → length other.odds ≡ cells h.extents → length other.stamps ≡ cells h.extents
      → Resumes (head_opened h) (grid_opened h g) cs ds out other
  the_sweep_resumes = resumes (head_opened h) (grid_opened h g) (opened_storable h g s)

  -- The same of a sweep that is open already, as one is that was read: it may be stored and read again as often as one
  -- likes.
  pub an_open_sweep_resumes : (cs ds : List Call) (out : List ℕ) (other : Grid) → edition_size h.extents true ≤ length out
      → length other.odds ≡ cells h.extents → length other.stamps ≡ cells h.extents → Resumes h g cs ds out other
  an_open_sweep_resumes = resumes h g s
