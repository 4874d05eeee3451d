-- The rows and the end of a record of edition 2: their refusal, and what they hold where there is none. Assumes
-- nothing.
use Prim.Native.Nat.{ℕ, zero, suc, ◌+◌, ◌*◌, ◌≤◌}
use mathlib.Core.Bool.{Bool, true, false, cond}
use mathlib.Core.List.{List, [], ◌++◌}
use mathlib.Core.Option.{Option, none}
use mathlib.Core.Path.{◌≡◌, refl, sym, ap, ap₂, ◌∙◌}
use native.Mathlib.Omega.{arith}
use lib.ListN.{length, length-drop, drop}
use lib.Seq.{drop-drop}
use Rattle.rules.specs.RefusalNumbers.{Refusal, Answer, given}
use Rattle.rules.specs.RefusalNumbers.Entries.{or_else}
use Rattle.rules.specs.TheGridAndItsBounds.{Model, Head, Grid}
use Rattle.rules.specs.Fields.{floats_in, head_size, field_size, contents, sound_here, Reading, field_then}
use Rattle.rules.specs.MapRecord.{row_length, row_field, row_width, row_count, end_then}
use Rattle.rules.specs.EditionTwo as E
use Rattle.rules.specs.EditionTwo.{Kept, kept, stamps_in, stamps_length, stamps_field, row_then, row_size, grid_of_rows}
use Rattle.marks.specs.Marking.{grid_of}
use Rattle.rows.specs.Rows.{refusal_in, unless_sound, field_broken, rows_broken, rows_have, odds_at, rows_refusal}
use Rattle.rows.proofs.Answers.{sound_else, none_first, none_next}
use Rattle.rows.proofs.Parts.{IsPart, field_part, rows_part_lem}
use Rattle.open_rows.specs.OpenRows.{open_refusal, open_odds, open_stamps}
use Rattle.record_reader.specs.Reading.{rows_and_end}
use Rattle.record_reader.proofs.Sound.{end_refusal_lem, end_on}
use Rattle.edition_reader.specs.Editions.{open_and_end}

module _ (m : Model) (frame w : ℕ) where
  abbrev row : ℕ
  row = field_size (row_length w)

  -- ---- a row of odds alone
  abbrev closed_has : List ℕ → Grid
  closed_has rest = record { odds = contents (row_field m w) rest; stamps = [] }

  closed_row : {B : Type 0} → IsPart {B = B} (row_then false m frame w) (field_broken (row_field m w)) closed_has row
  closed_row {B} =
      record {
        refusal = λ next. (field_part (row_field m w)).refusal (λ odds. next (record { odds = odds; stamps = [] }));
        on = λ next. (field_part (row_field m w)).on (λ odds. next (record { odds = odds; stamps = [] }));
        room = (field_part {B = B} (row_field m w)).room;
      }

  closed_broken : (n offset : ℕ) (rest : List ℕ) → rows_broken (field_broken (row_field m w)) row n offset rest ≡ rows_refusal m w n offset rest
  unfolding rows_broken rows_refusal
  closed_broken zero offset rest = refl
  closed_broken (suc n) offset rest =
      sym (sound_else offset (sound_here (row_field m w) rest) none _)
      ∙ ap (unless_sound offset (sound_here (row_field m w) rest)) (closed_broken n (offset + row) (drop row rest))

  closed_has_lem : (n : ℕ) (rest : List ℕ) → grid_of_rows (rows_have closed_has row n rest) ≡ grid_of (odds_at w n rest) []
  unfolding grid_of_rows rows_have odds_at
  closed_has_lem zero rest = refl
  closed_has_lem (suc n) rest = ap (λ (g : Grid). grid_of (contents (row_field m w) rest ++ g.odds) g.stamps) (closed_has_lem n (drop row rest))

  -- ---- a row of odds and a row of stamps
  abbrev open_broken : ℕ → List ℕ → Option Refusal
  open_broken offset rest = or_else (field_broken (row_field m w) offset rest) (field_broken (stamps_field frame w) (offset + row) (drop row rest))

  abbrev open_has : List ℕ → Grid
  open_has rest = record { odds = contents (row_field m w) rest; stamps = contents (stamps_field frame w) (drop row rest) }

  module _ {B : Type 0} (next : Grid → Reading B) (offset : ℕ) (rest : List ℕ) where
    abbrev behind_both : Answer B
    behind_both = next (open_has rest) (offset + row_size true w) (drop (row_size true w) rest)

    both_behind : next (open_has rest) (offset + row + field_size (stamps_length w)) (drop (field_size (stamps_length w)) (drop row rest)) ≡ behind_both
    both_behind =
        let k : offset + row + field_size (stamps_length w) ≡ offset + row_size true w = omega arith in
        ap₂ (next (open_has rest)) k (drop-drop (field_size (stamps_length w)) row rest)

    open_row_refusal : refusal_in (row_then true m frame w next offset rest) ≡ or_else (open_broken offset rest) (refusal_in behind_both)
    open_row_refusal =
        (field_part (row_field m w)).refusal (λ odds. field_then (stamps_field frame w) (λ stamps. next (record { odds = odds; stamps = stamps }))) offset rest
        ∙ ap (or_else (field_broken (row_field m w) offset rest))
        ((field_part (stamps_field frame w)).refusal (λ stamps. next (record { odds = contents (row_field m w) rest; stamps = stamps })) (offset + row) (drop row rest)
        ∙ ap (λ (x : Answer B). or_else (field_broken (stamps_field frame w) (offset + row) (drop row rest)) (refusal_in x)) both_behind)
        ∙ Rattle.rows.proofs.Parts.or_else_lem (field_broken (row_field m w) offset rest) _ (refusal_in behind_both)

    open_row_on : open_broken offset rest ≡ none → row_then true m frame w next offset rest ≡ behind_both
    open_row_on e =
        (field_part (row_field m w)).on (λ odds. field_then (stamps_field frame w) (λ stamps. next (record { odds = odds; stamps = stamps }))) offset rest (none_first (field_broken (row_field m w) offset rest) _ e)
        ∙ (field_part (stamps_field frame w)).on (λ stamps. next (record { odds = contents (row_field m w) rest; stamps = stamps })) (offset + row) (drop row rest) (none_next (field_broken (row_field m w) offset rest) _ e)
        ∙ both_behind

  open_row : {B : Type 0} → IsPart {B = B} (row_then true m frame w) open_broken open_has (row_size true w)
  open_row {B} =
      record {
        refusal = open_row_refusal;
        on = open_row_on;
        room = λ offset rest e.
            let a = (field_part {B = B} (row_field m w)).room offset rest (none_first (field_broken (row_field m w) offset rest) _ e) in
            let b = (field_part {B = B} (stamps_field frame w)).room (offset + row) (drop row rest) (none_next (field_broken (row_field m w) offset rest) _ e) in
            omega (arith, length-drop row rest);
      }

  open_broken_lem : (n offset : ℕ) (rest : List ℕ) → rows_broken open_broken (row_size true w) n offset rest ≡ open_refusal m frame w n offset rest
  unfolding rows_broken open_refusal
  open_broken_lem zero offset rest = refl
  open_broken_lem (suc n) offset rest =
      by_tests (sound_here (row_field m w) rest) (sound_here (stamps_field frame w) (drop row rest)) _
      ∙ ap (λ (x : Option Refusal). unless_sound offset (sound_here (row_field m w) rest) (unless_sound (offset + row) (sound_here (stamps_field frame w) (drop row rest)) x))
      (open_broken_lem n (offset + row_size true w) (drop (row_size true w) rest))
    where
      by_tests : (x y : Bool) (z : Option Refusal) → or_else (or_else (unless_sound offset x none) (unless_sound (offset + row) y none)) z ≡ unless_sound offset x (unless_sound (offset + row) y z)
      by_tests true true z = refl
      by_tests true false z = refl
      by_tests false y z = refl

  pub open_room : (n offset : ℕ) (rest : List ℕ) → open_refusal m frame w n offset rest ≡ none → n * row_size true w ≤ length rest
  open_room n offset rest e = (rows_part_lem {B = Kept} (row_then true m frame w) _ _ _ open_row n).room offset rest (open_broken_lem n offset rest ∙ e)

  open_has_lem : (n : ℕ) (rest : List ℕ) → grid_of_rows (rows_have open_has (row_size true w) n rest) ≡ grid_of (open_odds w n rest) (open_stamps w n rest)
  unfolding grid_of_rows rows_have open_odds open_stamps
  open_has_lem zero rest = refl
  open_has_lem (suc n) rest =
      ap (λ (g : Grid). grid_of (contents (row_field m w) rest ++ g.odds) (contents (stamps_field frame w) (drop row rest) ++ g.stamps)) (open_has_lem n (drop (row_size true w) rest))
      ∙ ap (λ (bs : List ℕ). grid_of (floats_in w (drop head_size rest) ++ open_odds w n (drop (row_size true w) rest)) (stamps_in w bs ++ open_stamps w n (drop (row_size true w) rest))) (drop-drop head_size row rest)

-- ---- the rows and the end
-- what they hold
abbrev pub held : Head → List ℕ → Bool → Grid
held h rest running =
    cond running (grid_of (open_odds (row_width h.extents) (row_count h.extents) rest) (open_stamps (row_width h.extents) (row_count h.extents) rest))
    (grid_of (odds_at (row_width h.extents) (row_count h.extents) rest) [])

module _ (h : Head) (offset : ℕ) (rest : List ℕ) where
  abbrev m : Model
  m = h.model

  abbrev w : ℕ
  w = row_width h.extents

  abbrev n : ℕ
  n = row_count h.extents

  pub grid_refusal : (running : Bool) → refusal_in (E.rows_and_end h running offset rest) ≡ cond running (open_and_end m h.frame w n offset rest) (rows_and_end m w n offset rest)
  unfolding E.rows_and_end open_and_end rows_and_end
  grid_refusal false =
      (rows_part_lem (row_then false m h.frame w) _ _ _ (closed_row m h.frame w) n).refusal (λ gs. end_then (kept h false (grid_of_rows gs))) offset rest
      ∙ ap₂ or_else (closed_broken m h.frame w n offset rest) (end_refusal_lem _ _ _)
  grid_refusal true =
      (rows_part_lem (row_then true m h.frame w) _ _ _ (open_row m h.frame w) n).refusal (λ gs. end_then (kept h true (grid_of_rows gs))) offset rest
      ∙ ap₂ or_else (open_broken_lem m h.frame w n offset rest) (end_refusal_lem _ _ _)

  pub grid-on : (running : Bool) → cond running (open_and_end m h.frame w n offset rest) (rows_and_end m w n offset rest) ≡ none
      → E.rows_and_end h running offset rest ≡ given (kept h running (held h rest running))
  unfolding E.rows_and_end open_and_end rows_and_end
  grid-on false e =
      (rows_part_lem (row_then false m h.frame w) _ _ _ (closed_row m h.frame w) n).on (λ gs. end_then (kept h false (grid_of_rows gs))) offset rest
      (closed_broken m h.frame w n offset rest ∙ none_first (rows_refusal m w n offset rest) _ e)
      ∙ end_on _ _ _ (none_next (rows_refusal m w n offset rest) _ e)
      ∙ ap (λ (g : Grid). given (kept h false g)) (closed_has_lem m h.frame w n rest)
  grid-on true e =
      (rows_part_lem (row_then true m h.frame w) _ _ _ (open_row m h.frame w) n).on (λ gs. end_then (kept h true (grid_of_rows gs))) offset rest
      (open_broken_lem m h.frame w n offset rest ∙ none_first (open_refusal m h.frame w n offset rest) _ e)
      ∙ end_on _ _ _ (none_next (open_refusal m h.frame w n offset rest) _ e)
      ∙ ap (λ (g : Grid). given (kept h true g)) (open_has_lem m h.frame w n rest)

  pub grid-room : (running : Bool) → cond running (open_and_end m h.frame w n offset rest) (rows_and_end m w n offset rest) ≡ none → n * row_size running w ≤ length rest
  unfolding open_and_end rows_and_end
  grid-room false e =
      let r = (rows_part_lem {B = Kept} (row_then false m h.frame w) _ _ _ (closed_row m h.frame w) n).room offset rest (closed_broken m h.frame w n offset rest ∙ none_first (rows_refusal m w n offset rest) _ e) in
      let k : row_size false w ≡ field_size (row_length w) = omega arith in
      rw k r
  grid-room true e =
      (rows_part_lem {B = Kept} (row_then true m h.frame w) _ _ _ (open_row m h.frame w) n).room offset rest (open_broken_lem m h.frame w n offset rest ∙ none_first (open_refusal m h.frame w n offset rest) _ e)
