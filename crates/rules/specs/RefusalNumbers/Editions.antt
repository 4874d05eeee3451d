-- Change request 7: what reading and writing edition 2 of the map record answer, and the moves between the editions,
-- with what they leave in the lists lent to them. Which refusal comes first: "10 as before ..; then 16 for the refused
-- move back, 15 for cuts given to the move; 11 last". Definitions only.
use Rattle.std.specs.Prelude.{ℕ, Bool, true, false, cond, not, ◌&&◌, List, [], ◌++◌, length, drop, Float}
use Rattle.rules.specs.RefusalNumbers.{Answer, given, refused, bad_cuts, bad_buffer, not_edition_one}
use Rattle.rules.specs.RefusalNumbers.Entries.{Uses, head_refusal, Outcome, unless_refused}
use Rattle.rules.specs.TheGridAndItsBounds.{Head, Grid, one_per_cell, cuts_in_bounds}
use Rattle.rules.specs.MapRecord.{Stored, record_bytes, record_of, room_for, with_cuts, equal_pairs}
use Rattle.rules.specs.EditionTwo.{Kept, edition_bytes, edition_of, edition_room, edition_writable, cuts_of}

-- ---- reading: "10, then 4; cuts come from the record"
pub record Loaded : Type 0 where
  pub head : Head
  pub running : Bool

abbrev pub load_answer : Grid → Answer Kept → Outcome Loaded Grid
load_answer g (refused r) = record { answer = refused r; lent = g }
load_answer g (given k) =
    let es : List ℕ = k.head.extents in
    cond (one_per_cell es (length g.odds) && one_per_cell es (length g.stamps))
    (record { answer = given (record { head = k.head; running = k.running }); lent = k.grid })
    (record { answer = refused bad_buffer; lent = g })

unfoldable pub read_edition_entry : ℕ → List ℕ → Grid → Outcome Loaded Grid
read_edition_entry axes bytes g = load_answer g (edition_of axes bytes)

-- ---- writing: the stamps are used only where the sweep is open
abbrev pub uses_of_writing : Bool → Uses
uses_of_writing running = record { model = true; odds = true; stamps = running; frame = true }

abbrev pub store_answer : Head → Bool → Grid → List ℕ → Answer ℕ → Outcome ℕ (List ℕ)
store_answer h running g out (refused r) = record { answer = refused r; lent = out }
store_answer h running g out (given n) = record { answer = given n; lent = edition_bytes h running g ++ drop n out }

unfoldable pub write_edition_entry : Head → Bool → Grid → List ℕ → Outcome ℕ (List ℕ)
write_edition_entry h running g out =
    unless_refused (head_refusal (uses_of_writing running) h (length g.odds) (length g.stamps)) out
    (store_answer h running g out (edition_writable h running g (length out)))

-- ---- the moves
-- "the move from edition 1 to 2, which makes a closed record of equal pairs, with both cuts given by the caller for
-- three axes"
abbrev pub unstamped : List Float → Grid
unstamped odds = record { odds = odds; stamps = [] }

abbrev pub upgrade_answer : List ℕ → List ℕ → Answer Stored → Outcome ℕ (List ℕ)
upgrade_answer cuts out (refused r) = record { answer = refused r; lent = out }
upgrade_answer cuts out (given s) =
    let h : Head = with_cuts cuts s.head in
    cond (cuts_in_bounds h.extents h.model)
    (store_answer h false (unstamped s.odds) out (edition_room h.extents false (length out)))
    (record { answer = refused bad_cuts; lent = out })

unfoldable pub upgrade_entry : ℕ → List ℕ → List ℕ → List ℕ → Outcome ℕ (List ℕ)
upgrade_entry axes cuts bytes out = upgrade_answer cuts out (record_of axes bytes)

-- "The move back is refused with 16 exactly when the record is valid but open or has unequal pairs, and the cuts are
-- handed to the caller."
pub record Moved : Type 0 where
  pub size : ℕ
  pub cuts : List ℕ

abbrev pub has_edition_one : Kept → Bool
has_edition_one k = not k.running && equal_pairs k.head.model.lowest k.head.model.above

abbrev pub back_answer : Head → List Float → List ℕ → Answer ℕ → Outcome Moved (List ℕ)
back_answer h odds out (refused r) = record { answer = refused r; lent = out }
back_answer h odds out (given n) =
    record { answer = given (record { size = n; cuts = cuts_of h.model.above }); lent = record_bytes h odds ++ drop n out }

abbrev pub downgrade_answer : List ℕ → Answer Kept → Outcome Moved (List ℕ)
downgrade_answer out (refused r) = record { answer = refused r; lent = out }
downgrade_answer out (given k) =
    cond (has_edition_one k)
    (back_answer k.head k.grid.odds out (room_for k.head.extents (length out)))
    (record { answer = refused not_edition_one; lent = out })

unfoldable pub downgrade_entry : ℕ → List ℕ → List ℕ → Outcome Moved (List ℕ)
downgrade_entry axes bytes out = downgrade_answer out (edition_of axes bytes)
