-- What a move answers, by whether the record fits the other edition and the room. Over any number of axes. Assumes
-- nothing.
use Prim.Native.Nat.{ℕ, ◌+◌, ◌*◌, ◌≤◌, ◌<◌}
use mathlib.Core.Bool.{true, false}
use mathlib.Core.List.{List, [], ◌++◌}
use mathlib.Core.Path.{◌≡◌, refl, ap, ◌∙◌}
use native.Mathlib.Omega.{arith}
use lib.ListN.{length, length-append, length-drop, take, drop}
use lib.Seq.{sets, sets-eq, length-take-le}
use borrow.Author.Tests.{le-leb, lt-leb}
use Rattle.rules.specs.RefusalNumbers.{given, refused, bad_cuts, no_room, not_edition_one}
use Rattle.rules.specs.RefusalNumbers.Entries.{Outcome}
use Rattle.rules.specs.RefusalNumbers.Editions.{Moved, unstamped, upgrade_entry, has_edition_one, downgrade_entry}
use Rattle.rules.specs.TheGridAndItsBounds.{Head, cuts_in_bounds}
use Rattle.rules.specs.Fields.{little_endian, field_size, field}
use Rattle.rules.specs.MapRecord.{Stored, frame_length, record_bytes, record_of, record_size, room_for, with_cuts}
use Rattle.rules.specs.EditionTwo.{Kept, byte_length, cuts_of, edition_bytes, edition_of, edition_room, edition_size}
use Rattle.editions.proofs.Pieces.{edition, closed_mark}
use Rattle.editions.proofs.Runs.{length_run}

-- what was written stands first, and the rest stays
written_first : (bs out : List ℕ) (size : ℕ) → length bs ≡ size → size ≤ length out → sets out 0 bs ≡ bs ++ drop size out
written_first bs out size e l = sets-eq bs out 0 (omega arith) ∙ ap (λ (j : ℕ). [] ++ bs ++ drop j out) (let k : 0 + length bs ≡ size = omega arith in k)

-- the bytes that a move up copies, and those of the bands
pub length_up : (size place : ℕ) (bytes bands : List ℕ) → size ≤ length bytes → place + field_size frame_length ≤ length bytes
    → length ((edition ++ take size bytes) ++ bands ++ (take (field_size frame_length) (drop place bytes) ++ closed_mark ++ drop (place + field_size frame_length) bytes)) + place
    ≡ size + length bytes + 2 * field_size byte_length + length bands
unfolding field little_endian
length_up size place bytes bands h l =
    let frame : List ℕ = take (field_size frame_length) (drop place bytes) in
    let rows : List ℕ = drop (place + field_size frame_length) bytes in
    let a = length-append ((edition ++ take size bytes) ++ bands) (frame ++ closed_mark ++ rows) in
    let b = length-append (edition ++ take size bytes) bands in
    let c = length-append edition (take size bytes) in
    let d = length-take-le size bytes h in
    let e = length-append (frame ++ closed_mark) rows in
    let f = length-append frame closed_mark in
    let g = length_run (field_size frame_length) place bytes l in
    let i = length-drop (place + field_size frame_length) bytes in
    let j : length edition ≡ field_size byte_length = refl in
    let k : length closed_mark ≡ field_size byte_length = refl in
    omega arith

-- the bytes that a move back copies
pub length_back : (size place : ℕ) (bytes : List ℕ) → field_size byte_length + size ≤ length bytes → place + field_size frame_length + field_size byte_length ≤ length bytes
    → length (take size (drop (field_size byte_length) bytes) ++ take (field_size frame_length) (drop place bytes) ++ drop (place + field_size frame_length + field_size byte_length) bytes) + place + field_size byte_length
    ≡ size + length bytes
length_back size place bytes h l =
    let first : List ℕ = take size (drop (field_size byte_length) bytes) in
    let frame : List ℕ = take (field_size frame_length) (drop place bytes) in
    let rows : List ℕ = drop (place + field_size frame_length + field_size byte_length) bytes in
    let a = length-append (first ++ frame) rows in
    let b = length-append first frame in
    let c = length_run size (field_size byte_length) bytes h in
    let d = length_run (field_size frame_length) place bytes (omega arith) in
    let e = length-drop (place + field_size frame_length + field_size byte_length) bytes in
    omega arith

-- ---- up
module _ (axes : ℕ) (cuts bytes : List ℕ) (s : Stored) (e : record_of axes bytes ≡ given s) (out : List ℕ) where
  abbrev h : Head
  h = with_cuts cuts s.head

  pub cuts_refused : cuts_in_bounds (with_cuts cuts s.head).extents (with_cuts cuts s.head).model ≡ false
      → ◌≡◌ {A = Outcome ℕ (List ℕ)} (record { answer = refused bad_cuts; lent = out }) (upgrade_entry axes cuts bytes out)
  unfolding upgrade_entry
  cuts_refused fit = rw (e, fit) refl

  module _ (fit : cuts_in_bounds (with_cuts cuts s.head).extents (with_cuts cuts s.head).model ≡ true) (size : ℕ) (is : edition_size s.head.extents false ≡ size) where
    pub up_no_room : length out < size → ◌≡◌ {A = Outcome ℕ (List ℕ)} (record { answer = refused (no_room size); lent = out }) (upgrade_entry axes cuts bytes out)
    unfolding upgrade_entry edition_room
    up_no_room l = rw (e, fit, is, lt-leb size (length out) l) refl

    pub up_done : size ≤ length out → (bs out' : List ℕ) → edition_bytes (with_cuts cuts s.head) false (unstamped s.odds) ≡ bs → length bs ≡ size → out' ≡ sets out 0 bs
        → ◌≡◌ {A = Outcome ℕ (List ℕ)} (record { answer = given size; lent = out' }) (upgrade_entry axes cuts bytes out)
    unfolding upgrade_entry edition_room
    up_done l bs out' same long stores = rw (e, fit, is, le-leb size (length out) l, same, stores ∙ written_first bs out size long l) refl

-- ---- back
module _ (axes : ℕ) (bytes : List ℕ) (k : Kept) (e : edition_of axes bytes ≡ given k) (out : List ℕ) where
  pub not_back : has_edition_one k ≡ false → ◌≡◌ {A = Outcome Moved (List ℕ)} (record { answer = refused not_edition_one; lent = out }) (downgrade_entry axes bytes out)
  unfolding downgrade_entry
  not_back other = rw (e, other) refl

  module _ (one : has_edition_one k ≡ true) (size : ℕ) (is : record_size k.head.extents ≡ size) where
    pub back_no_room : length out < size → ◌≡◌ {A = Outcome Moved (List ℕ)} (record { answer = refused (no_room size); lent = out }) (downgrade_entry axes bytes out)
    unfolding downgrade_entry room_for
    back_no_room l = rw (e, one, is, lt-leb size (length out) l) refl

    pub back_done : size ≤ length out → (bs out' cuts : List ℕ) → record_bytes k.head k.grid.odds ≡ bs → length bs ≡ size → out' ≡ sets out 0 bs → cuts ≡ cuts_of k.head.model.above
        → ◌≡◌ {A = Outcome Moved (List ℕ)} (record { answer = given (record { size = size; cuts = cuts }); lent = out' }) (downgrade_entry axes bytes out)
    unfolding downgrade_entry room_for
    back_done l bs out' cuts same long stores handed = rw (e, one, is, le-leb size (length out) l, same, stores ∙ written_first bs out size long l, handed) refl
