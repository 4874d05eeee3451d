-- Requirements, "Map record (added)": a map that is written and read is the same map, a record that is read and written
-- has the same bytes, two readings of the same bytes agree, and bytes are a record or broken at one offset. Of any
-- number of axes. `MapRecord.Words` has the words used here beside the rules' and those of the laws that proofs of code
-- cite too, which are in `record_laws` with their proofs; the files beside it have the other steps. Assumes nothing.
pub mod Words
pub mod Entries
pub mod Cuts
pub mod Needs
use Rattle.std.specs.Prelude.{ℕ, ◌≤◌, ◌<◌, Bool, true, false, cond, List, [], ◌∷◌, ◌++◌, ◌⊎◌, ◌≡◌, refl, eqb, pos, length, take, drop, replicate, Float}
use Rattle.std.proofs.Common.{inl, inr, sym, ap, ap₂, ◌∙◌, subst, arith, take_at, eq-eqb, ne_eqb}
use Rattle.std.proofs.Math.Option.{none}
use Rattle.rules.specs.RefusalNumbers.{Refusal, Answer, given, refused, broken_record}
use Rattle.rules.specs.RefusalNumbers.Entries.{head_refusal, uses_of, writing, Outcome, read_record_entry, write_record_entry}
use Rattle.rules.specs.TheGridAndItsBounds.{Head, Grid, cells, cuts_in_bounds}
use Rattle.rules.specs.Fields.{from_little_endian}
use Rattle.rules.specs.MapRecord.{Stored, record_bytes, record_of, any_record_of, writable}
use Rattle.record_laws.specs.Words.{AreBytes, Held, cuts_of, plain_head}
use Rattle.theorems.specs.MapRecord.Words.{IsRecord, IsBroken, map_read, SameReading, AnyAxes}
use Rattle.theorems.specs.MapRecord.Cuts.{cuts_back, with_cuts_writes}
use Rattle.record_laws.specs.Fields.{begins_within}
use Rattle.record_laws.specs.Heads.{rows_are_cells, tests_of_writing}
use Rattle.record_laws.specs.Back.{record_bytes_length, writable_is, record_back}
use Rattle.record_laws.specs.Read.{read_again, read_sound, read_axes, record_broken}
use Rattle.theorems.specs.MapRecord.Entries.{cuts_fit, reads, read_from_lem, same-reading, wrote_into}

-- ---- written, then read
-- A map that can be written is read again from its record as it was: the same extents, the same pair of steps, bounds
-- and frame, and for every cell the same odds as data, with the sign of a zero. (A map with a NaN among its odds cannot
-- be written, nor one whose bands have unequal pairs; the cuts are not in the record.)
pub written_then_read : (axes : ℕ) (h : Head) (odds : List Float) (room n : ℕ) → length h.extents ≡ axes → 0 < axes
    → head_refusal (uses_of writing) h (length odds) 0 ≡ none → writable h odds room ≡ given n → Held h odds
    → record_of axes (record_bytes h odds) ≡ given (record { head = plain_head h; odds = odds })
written_then_read axes h odds room n many some-axis passes w held =
    subst (λ (k : ℕ). record_of k (record_bytes h odds) ≡ given (record { head = plain_head h; odds = odds })) many
    (record_back h odds _ (omega arith) passes (writable_is h odds room n w).checked held)

-- The record has as many bytes as writing answers, which are no more than there was room for.
pub written_length : (h : Head) (odds : List Float) (room n : ℕ) → 0 < length h.extents → head_refusal (uses_of writing) h (length odds) 0 ≡ none
    → writable h odds room ≡ given n → (length (record_bytes h odds) ≡ n) × (n ≤ room)
written_length h odds room n some-axis passes w =
    let size = (writable_is h odds room n w).size in
    (record_bytes_length h odds ((tests_of_writing h (length odds) passes).0.count ∙ rows_are_cells h.extents some-axis) ∙ size.0, size.1)

-- The same of the entries: the first n bytes of what writing left, n its answer, are read with the map's cuts into any
-- grid of its sizes as the same head, bands and all, and the same odds, with all stamps 0.
pub entries_written_then_read : (axes : ℕ) (h : Head) (odds : List Float) (out : List ℕ) (n : ℕ) (g : Grid) → length h.extents ≡ axes → 0 < axes
    → Held h odds → (write_record_entry h odds out).answer ≡ given n
    → length g.odds ≡ cells h.extents → length g.stamps ≡ cells h.extents
    → read_record_entry axes (cuts_of h.model.above) (take n (write_record_entry h odds out).lent) g
    ≡ record { answer = given h; lent = record { odds = odds; stamps = replicate (cells h.extents) 0 } }
entries_written_then_read axes h odds out n g many some-axis held answer one-odds one_stamp =
    let w = wrote_into h odds out n answer in
    let size = (written_length h odds (length out) n (omega arith) w.passes w.counted).0 in
    let bytes : take n (write_record_entry h odds out).lent ≡ record_bytes h odds =
    ap (take n) w.lent_is ∙ take_at (record_bytes h odds) (drop n out) n size in
    let back = written_then_read axes h odds (length out) n many some-axis w.passes w.counted held in
    let whole = cuts_back h odds held (writable_is h odds (length out) n w.counted).pairs in
    let fit : cuts_fit (cuts_of h.model.above) (record { head = plain_head h; odds = odds }) ≡ true =
    ap (λ (x : Head). cuts_in_bounds x.extents x.model) whole ∙ (tests_of_writing h (length odds) w.passes).0.cuts in
    rw bytes (reads axes (cuts_of h.model.above) (record_bytes h odds) (record { head = plain_head h; odds = odds }) g back fit (one-odds, one_stamp))
    ∙ ap (λ (x : Head). record { answer = given x; lent = record { odds = odds; stamps = replicate (cells h.extents) 0 } }) whole

-- ---- read, then written
-- A map that was read from a record is written as the same bytes. (Of many patterns of a NaN one is written, but no
-- record holds one: the odds and the model are within their bounds.)
pub read_then_written : (axes : ℕ) (bytes : List ℕ) (s : Stored) → record_of axes bytes ≡ given s → AreBytes bytes → record_bytes s.head s.odds ≡ bytes
read_then_written = read_again

-- The same of the entries: what was read into the grid is written over the first bytes of any list that is long enough,
-- the rest of which stays.
pub entries_read_then_written : (axes : ℕ) (cuts bytes : List ℕ) (g : Grid) (h : Head) (out : List ℕ) → 0 < axes → AreBytes bytes
    → (read_record_entry axes cuts bytes g).answer ≡ given h → length bytes ≤ length out
    → write_record_entry h (read_record_entry axes cuts bytes g).lent.odds out
    ≡ record { answer = given (length bytes); lent = bytes ++ drop (length bytes) out }
entries_read_then_written axes cuts bytes g h out some-axis b answer room =
    let r = read_from_lem axes cuts bytes g h answer in
    let s = r.stored in
    let sound = read_sound axes bytes s some-axis r.is in
    let left : read_record_entry axes cuts bytes g ≡ map_read cuts s = reads axes cuts bytes s g r.is r.cuts_fit_lem r.sizes in
    ap₂ (λ (x : Head) (y : Outcome Head Grid). write_record_entry x y.lent.odds out) (sym r.head_is) left
    ∙ with_cuts_writes cuts s out (length bytes) r.cuts_fit_lem sound.passes (sound.written (length out) room)
    ∙ ap (λ (x : List ℕ). record { answer = given (length bytes); lent = x ++ drop (length bytes) out }) (read_again axes bytes s r.is b)

-- ---- two readings
-- Two grids lent to read the same bytes with the same cuts, whatever they hold, get the same answer if they have the
-- same sizes; and where a map is given, both grids end the same.
pub two_readings : (axes : ℕ) (cuts bytes : List ℕ) (g k : Grid) → SameReading axes cuts bytes g k
two_readings = same-reading

-- ---- all bytes
pub one_offset : (o p : ℕ) → broken_record o ≡ broken_record p → o ≡ p
one_offset o p e = let v : pos o ∷ [] ≡ pos p ∷ [] = ap (λ (r : Refusal). r.values) e in cc

-- Every list of numbers is a record, as long as its extents say and with a map that may be written again; or it is
-- refused at one offset, where a field begins, at most its end.
pub record_or_broken : (axes : ℕ) (bytes : List ℕ) → 0 < axes → IsRecord axes bytes ⊎ IsBroken axes bytes
record_or_broken axes bytes some-axis = go (record_of axes bytes) refl
  where
    go : (a : Answer Stored) → record_of axes bytes ≡ a → IsRecord axes bytes ⊎ IsBroken axes bytes
    go (given s) e = inl (record { stored = s; is = e; sound = read_sound axes bytes s some-axis e })
    go (refused r) e =
        let b = record_broken axes bytes r e in
        inr (record {
          offset = b.offset;
          is = e ∙ ap refused (sym b.is);
          only = λ o q. let z : broken_record o ≡ broken_record b.offset = cc b.is in one_offset o b.offset z;
          begins = b.begins;
          within = begins_within bytes b.offset b.begins;
        })

-- "its length, 4 or 6, gives the axes": a record of two axes or of three is the same map to a reader that asks for no
-- number of axes, and that reader gives no other map.
pub any_axes : (bytes : List ℕ) (s : Stored) → AnyAxes bytes s
unfolding any_record_of
any_axes bytes s =
    record {
      of_two = λ e. let n = read_axes 2 bytes s e in rw (eq-eqb _ 4 n) e;
      of_three = λ e. let n = read_axes 3 bytes s e in rw (ne_eqb (from_little_endian 2 (drop 1 bytes)) 4 (λ four. omega arith), eq-eqb _ 6 n) e;
      of_either = back (eqb (from_little_endian 2 (drop 1 bytes)) 4) (eqb (from_little_endian 2 (drop 1 bytes)) 6);
    }
  where
    back : (x y : Bool) → cond x (record_of 2 bytes) (cond y (record_of 3 bytes) (refused (broken_record 0))) ≡ given s
        → (record_of 2 bytes ≡ given s) ⊎ (record_of 3 bytes ≡ given s)
    back true y e = inl e
    back false true e = inr e
    back false false e = let z : ◌≡◌ {A = ℕ} 0 1 = cc in absurd (omega arith)
