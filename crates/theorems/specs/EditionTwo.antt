-- Change request 7, "Edition 2 of the map record": a map that is written and read is the same map, a record that is
-- read and written has the same bytes, two readings of the same bytes agree, bytes are a record or broken at one
-- offset, and a record that is moved to the other edition and back is the same record. Of any number of axes.
-- `EditionTwo.Words` has the words used here beside the rules' and those of the laws, which are in `record_laws` with
-- their proofs; the files beside it have the other steps. Assumes nothing.
pub mod Words
pub mod Entries
pub mod Laid
pub mod Moves
pub mod ThereAndBack
pub mod Needs
use Rattle.std.specs.Prelude.{ℕ, ◌≤◌, ◌<◌, Bool, true, false, cond, List, ◌++◌, ◌⊎◌, ◌≡◌, refl, eqb, length, take, drop, replicate}
use Rattle.std.proofs.Common.{inl, inr, sym, ap, ap₂, ◌∙◌, subst, arith, take_at}
use Rattle.rules.specs.RefusalNumbers.{Answer, given, refused, broken_record, not_edition_one}
use Rattle.rules.specs.RefusalNumbers.Entries.{Outcome}
use Rattle.rules.specs.RefusalNumbers.Editions.{Loaded, read_edition_entry, write_edition_entry, unstamped, upgrade_entry, Moved, downgrade_entry}
use Rattle.rules.specs.TheGridAndItsBounds.{Head, Grid, cells, cuts_in_bounds}
use Rattle.rules.specs.Fields.{from_little_endian}
use Rattle.rules.specs.MapRecord.{Stored, record_bytes, record_of, any_record_of, record_size, with_cuts, equal_pairs}
use Rattle.rules.specs.EditionTwo.{Kept, kept, cuts_for, cuts_of, stamps_kept, edition_bytes, edition_of, edition_size}
use Rattle.record_laws.specs.Words.{AreBytes, Held}
use Rattle.record_laws.specs.Fields.{begins_within}
use Rattle.record_laws.specs.EditionTwo.Read.{edition_again, edition_sound}
use Rattle.record_laws.specs.EditionTwo.Written.{edition-length}
use Rattle.record_laws.specs.EditionTwo.Back.{edition_back}
use Rattle.record_laws.specs.EditionTwo.Broken.{edition-broken}
use Rattle.theorems.specs.MapRecord.{one_offset}
use Rattle.theorems.specs.EditionTwo.Words.{IsEdition, IsNoEdition, SameLoading, HasNoEditionOne}
use Rattle.theorems.specs.EditionTwo.Entries.{loads, loaded-from, same-loading, stored_into, stores}
use Rattle.theorems.specs.EditionTwo.Moves.{moved_up, moves_up, laid_on, up_is, moves_back, not_back, only_then}
use Rattle.theorems.specs.EditionTwo.ThereAndBack.{there_and_back, back_and_there, two_to_one, one_to_two}

-- ---- written, then read
-- The first n bytes of what writing left, n its answer, are read into any grid of the map's sizes as the same head with
-- all its pairs and its cuts, the same mark, for every cell the same odds as data, with the sign of a zero, and of an
-- open sweep the same stamps; of a closed one stamps 0. The map has the cuts of its axes: two on three axes, else none.
pub entries_written_then_read : (axes : ℕ) (h : Head) (running : Bool) (g : Grid) (out : List ℕ) (n : ℕ) (k : Grid)
    → length h.extents ≡ axes → length h.model.above ≡ cuts_for axes → 0 < axes → Held h g.odds
    → (write_edition_entry h running g out).answer ≡ given n
    → length k.odds ≡ cells h.extents → length k.stamps ≡ cells h.extents
    → read_edition_entry axes (take n (write_edition_entry h running g out).lent) k
    ≡ record {
      answer = given (record { head = h; running = running });
      lent = record { odds = g.odds; stamps = stamps_kept running h.extents g.stamps };
    }
entries_written_then_read axes h running g out n k many cuts some-axis held answer one-odds one_stamp =
    let w = stored_into h running g out n answer in
    let as_many : length h.model.above ≡ cuts_for (length h.extents) = cuts ∙ ap cuts_for (sym many) in
    let some : 0 < length h.extents = omega arith in
    let bytes : take n (write_edition_entry h running g out).lent ≡ edition_bytes h running g =
    ap (take n) w.lent_is
    ∙ take_at (edition_bytes h running g) (drop n out) n (edition-length h running g as_many some w.passes ∙ w.size.0) in
    let back : edition_of axes (edition_bytes h running g) ≡ given (kept h running g) =
    subst (λ (x : ℕ). edition_of x (edition_bytes h running g) ≡ given (kept h running g)) many
    (edition_back h running g _ as_many some w.passes w.tried held) in
    ap (λ (x : List ℕ). read_edition_entry axes x k) bytes ∙ loads axes (edition_bytes h running g) (kept h running g) k back (one-odds, one_stamp)

-- ---- read, then written
-- What was read into the grid, with the mark that was answered, is written over the first bytes of any list that is
-- long enough as the same bytes, and the rest of that list stays.
pub entries_read_then_written : (axes : ℕ) (bytes : List ℕ) (g : Grid) (l : Loaded) (out : List ℕ) → 0 < axes → AreBytes bytes
    → (read_edition_entry axes bytes g).answer ≡ given l → length bytes ≤ length out
    → write_edition_entry l.head l.running (read_edition_entry axes bytes g).lent out
    ≡ record { answer = given (length bytes); lent = bytes ++ drop (length bytes) out }
entries_read_then_written axes bytes g l out some-axis b answer room =
    let r = loaded-from axes bytes g l answer in
    let k = r.holds in
    let sound = edition_sound axes bytes k some-axis r.is in
    ap₂ (λ (x : Loaded) (y : Outcome Loaded Grid). write_edition_entry x.head x.running y.lent out) (sym r.says)
    (loads axes bytes k g r.is r.sizes)
    ∙ stores k.head k.running k.grid out (length bytes) sound.passes (sound.written (length out) room)
    ∙ ap (λ (x : List ℕ). record { answer = given (length bytes); lent = x ++ drop (length bytes) out }) (edition_again axes bytes k r.is b)

-- ---- two readings
-- Two grids lent to read the same bytes, whatever they hold, get the same answer if they have the same sizes; and where
-- a map is given, both grids end the same.
pub two_readings : (axes : ℕ) (bytes : List ℕ) (g k : Grid) → SameLoading axes bytes g k
two_readings = same-loading

-- ---- all bytes
-- Every list of numbers is a record of edition 2, as long as its extents and its mark say and with a map that may be
-- written again; or it is refused with 10 at one offset, where a field begins, at most its end.
pub edition_or_broken : (axes : ℕ) (bytes : List ℕ) → 0 < axes → IsEdition axes bytes ⊎ IsNoEdition axes bytes
edition_or_broken axes bytes some-axis = go (edition_of axes bytes) refl
  where
    go : (a : Answer Kept) → edition_of axes bytes ≡ a → IsEdition axes bytes ⊎ IsNoEdition axes bytes
    go (given k) e = inl (record { holds = k; is = e; sound = edition_sound axes bytes k some-axis e })
    go (refused r) e =
        let b = edition-broken axes bytes r e in
        inr (record {
          offset = b.offset;
          is = e ∙ ap refused (sym b.is);
          only = λ o q. let z : broken_record o ≡ broken_record b.offset = cc b.is in one_offset o b.offset z;
          begins = b.begins;
          within = begins_within bytes b.offset b.begins;
        })

-- ---- the other edition's reader
-- Edition 2 begins with tag 6 and edition 1 with tag 1. So a record of edition 2 is broken at offset 0 to every reader
-- of edition 1, of any number of axes or of none asked for; and a record of edition 1 to every reader of edition 2.
pub two_broken_to_one : (axes others : ℕ) (bytes : List ℕ) (k : Kept) → edition_of axes bytes ≡ given k
    → (record_of others bytes ≡ refused (broken_record 0)) × (any_record_of bytes ≡ refused (broken_record 0))
unfolding any_record_of
two_broken_to_one axes others bytes k e =
    (two_to_one axes others bytes k e, either (eqb (from_little_endian 2 (drop 1 bytes)) 4) (eqb (from_little_endian 2 (drop 1 bytes)) 6))
  where
    either : (x y : Bool) → cond x (record_of 2 bytes) (cond y (record_of 3 bytes) (refused (broken_record 0))) ≡ refused (broken_record 0)
    either true y = two_to_one axes 2 bytes k e
    either false true = two_to_one axes 3 bytes k e
    either false false = refl

pub one_broken_to_two : (axes others : ℕ) (bytes : List ℕ) (s : Stored) → record_of axes bytes ≡ given s → edition_of others bytes ≡ refused (broken_record 0)
one_broken_to_two = one_to_two

-- ---- moved
-- A record of edition 1 is moved up where the cuts fit its map and there is room for the bytes that its extents call
-- for in edition 2: their number is the answer, and behind them what was lent stays.
pub record_moved_up : (axes : ℕ) (cuts bytes out : List ℕ) (s : Stored) → record_of axes bytes ≡ given s
    → cuts_in_bounds s.head.extents (with_cuts cuts s.head).model ≡ true → edition_size s.head.extents false ≤ length out
    → upgrade_entry axes cuts bytes out
    ≡ record {
      answer = given (edition_size s.head.extents false);
      lent = edition_bytes (with_cuts cuts s.head) false (unstamped s.odds) ++ drop (edition_size s.head.extents false) out;
    }
record_moved_up = moves_up

-- A record of edition 2 that is closed and of equal pairs is moved back where there is room, and its cuts are handed
-- over. Behind the bytes written what was lent stays.
pub record_moved_back : (axes : ℕ) (bytes out : List ℕ) (k : Kept) → edition_of axes bytes ≡ given k → k.running ≡ false
    → equal_pairs k.head.model.lowest k.head.model.above ≡ true → record_size k.head.extents ≤ length out
    → downgrade_entry axes bytes out
    ≡ record {
      answer = given (record { size = record_size k.head.extents; cuts = cuts_of k.head.model.above });
      lent = record_bytes k.head k.grid.odds ++ drop (record_size k.head.extents) out;
    }
record_moved_back axes bytes out k e closed alike room = moves_back axes bytes out k e (rw (closed, alike) refl) room

-- What a move up wrote is a record of edition 2: closed, of the given cuts, every band with the pair of the record, and
-- with the record's ceiling, frame and odds. Reading it gives stamps 0.
pub moved_up_is_edition_two : (axes : ℕ) (cuts bytes out : List ℕ) (s : Stored) (n : ℕ) → 0 < axes → length cuts ≡ cuts_for axes
    → record_of axes bytes ≡ given s → (upgrade_entry axes cuts bytes out).answer ≡ given n
    → (edition_of axes (take n (upgrade_entry axes cuts bytes out).lent)
    ≡ given (record {
      head = with_cuts cuts s.head;
      running = false;
      grid = record { odds = s.odds; stamps = replicate (cells s.head.extents) 0 };
    }))
    × (cuts_of (with_cuts cuts s.head).model.above ≡ cuts)
moved_up_is_edition_two axes cuts bytes out s n some-axis cut e answer =
    let u = moved_up axes cuts bytes out n answer in
    let same : u.stored ≡ s = cc (u.is, e) in (
      up_is axes cuts bytes out s n some-axis cut e answer,
      ap (λ (x : Stored). cuts_of (with_cuts cuts x.head).model.above) (sym same) ∙ (laid_on axes cuts bytes u.stored some-axis u.is u.cuts_fit_lem).handed,
    )

-- ---- there and back
-- A record of edition 1 that was moved up with cuts is moved back as the same bytes, and the same cuts are handed over.
-- The bytes stand first in the list lent for them, the rest of which stays.
pub up_and_back : (axes : ℕ) (cuts bytes out back : List ℕ) (n : ℕ) → 0 < axes → AreBytes bytes → length cuts ≡ cuts_for axes
    → (upgrade_entry axes cuts bytes out).answer ≡ given n → length bytes ≤ length back
    → downgrade_entry axes (take n (upgrade_entry axes cuts bytes out).lent) back
    ≡ record { answer = given (record { size = length bytes; cuts = cuts }); lent = bytes ++ drop (length bytes) back }
up_and_back = there_and_back

-- A record of edition 2 that was moved back is moved up, with the cuts that were handed over, as the same bytes. (It is
-- closed and of equal pairs, or it would not have been moved.)
pub back_and_up : (axes : ℕ) (bytes out up : List ℕ) (m : Moved) → 0 < axes → AreBytes bytes
    → (downgrade_entry axes bytes out).answer ≡ given m → length bytes ≤ length up
    → upgrade_entry axes m.cuts (take m.size (downgrade_entry axes bytes out).lent) up
    ≡ record { answer = given (length bytes); lent = bytes ++ drop (length bytes) up }
back_and_up = back_and_there

-- ---- refused with 16
-- The move back is refused with 16 exactly when the bytes are a record of edition 2 whose sweep is open or whose pairs
-- are not all equal; then it writes nothing. However little room there is: 11 comes last.
pub back_refused : (axes : ℕ) (bytes out : List ℕ)
    → (HasNoEditionOne axes bytes → downgrade_entry axes bytes out ≡ record { answer = refused not_edition_one; lent = out })
    × ((downgrade_entry axes bytes out).answer ≡ refused not_edition_one → HasNoEditionOne axes bytes)
back_refused axes bytes out = (not_back axes bytes out, only_then axes bytes out)
