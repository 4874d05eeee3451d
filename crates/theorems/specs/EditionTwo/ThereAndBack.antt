-- A record moved to the other edition and back: the same bytes, and the same cuts. And the first byte, by which either
-- edition is broken to a reader of the other. Assumes nothing.
use Rattle.std.specs.Prelude.{ℕ, ◌+◌, ◌≤◌, ◌<◌, Bool, true, false, List, ◌++◌, ◌≡◌, refl, length, get_or, take, drop}
use Rattle.std.proofs.Common.{sym, ap, ap₂, ◌∙◌, subst, arith, take_at}
use Rattle.rules.specs.RefusalNumbers.{given, refused, and_then, broken_record}
use Rattle.rules.specs.RefusalNumbers.Editions.{uses_of_writing, unstamped, upgrade_entry, Moved, downgrade_entry}
use Rattle.rules.specs.TheGridAndItsBounds.{Head, cuts_in_bounds}
use Rattle.rules.specs.Fields.{field_here, field_size, Field, contents, sound_here, Reading, sound_or, field_then}
use Rattle.rules.specs.MapRecord.{Stored, extents_field, record_bytes, record_of, row_width, row_count, rows_checked, with_cuts}
use Rattle.rules.specs.EditionTwo.{Kept, kept, cuts_for, cuts_of, edition_field, edition_bytes, edition_of, edition_size}
use Rattle.record_laws.specs.Words.{AreBytes, plain_head}
use Rattle.record_laws.specs.Each.{both}
use Rattle.record_laws.specs.Fields.{found, field_given}
use Rattle.record_laws.specs.Heads.{rows_are_cells, tests_of_lem, writing_passes}
use Rattle.record_laws.specs.Back.{record_bytes_length, record_back}
use Rattle.record_laws.specs.Read.{read_again, read_sound}
use Rattle.record_laws.specs.EditionTwo.Read.{edition_again, edition_sound}
use Rattle.edition_writer.proofs.Rows.{closed_tried}
use Rattle.theorems.specs.MapRecord.Cuts.{cuts_back}
use Rattle.theorems.specs.EditionTwo.Laid.{same-cuts, closed_alike}
use Rattle.theorems.specs.EditionTwo.Moves.{bytes_up, moved_up, moves_up, laid_on, up_is, moved_back, moves_back}

-- ---- up, then back
pub there_and_back : (axes : ℕ) (cuts bytes out back : List ℕ) (n : ℕ) → 0 < axes → AreBytes bytes → length cuts ≡ cuts_for axes
    → (upgrade_entry axes cuts bytes out).answer ≡ given n → length bytes ≤ length back
    → downgrade_entry axes (take n (upgrade_entry axes cuts bytes out).lent) back
    ≡ record { answer = given (record { size = length bytes; cuts = cuts }); lent = bytes ++ drop (length bytes) back }
there_and_back axes cuts bytes out back n some-axis b cut answer room =
    let u = moved_up axes cuts bytes out n answer in
    let s = u.stored in
    let l = laid_on axes cuts bytes s some-axis u.is u.cuts_fit_lem in
    let size = (read_sound axes bytes s some-axis u.is).size_is in
    let h = with_cuts cuts s.head in
    let k : Kept = kept h false (unstamped s.odds) in
    moves_back axes (take n (upgrade_entry axes cuts bytes out).lent) back k (up_is axes cuts bytes out s n some-axis cut u.is answer) l.alike (omega arith)
    ∙ ap₂ (λ (j : ℕ) (x : List ℕ). record { answer = given (record { size = j; cuts = cuts_of h.model.above }); lent = x ++ drop j back }) (sym size)
    (l.first-pair ∙ read_again axes bytes s u.is b)
    ∙ ap (λ (x : List ℕ). record { answer = given (record { size = length bytes; cuts = x }); lent = bytes ++ drop (length bytes) back }) l.handed

-- ---- back, then up
-- the record of edition 1 of a closed map of equal pairs is read as its plain head and its odds
down_is : (axes : ℕ) (bytes : List ℕ) (k : Kept) → 0 < axes → edition_of axes bytes ≡ given k → k.running ≡ false
    → record_of axes (record_bytes k.head k.grid.odds) ≡ given (record { head = plain_head k.head; odds = k.grid.odds })
down_is axes bytes k some-axis e closed =
    let sound = edition_sound axes bytes k some-axis e in
    let h = k.head in
    let odds = k.grid.odds in
    let t = (tests_of_lem (uses_of_writing k.running) h (length odds) (length k.grid.stamps) tt tt tt sound.passes).0 in
    let checked : rows_checked h.model (row_width h.extents) (row_count h.extents) 0 odds ≡ given tt =
    sym (closed_tried h.model h.frame _ _ 0 odds k.grid.stamps) ∙ rw (← closed) (sound.tried 0) in
    subst (λ (n : ℕ). record_of n (record_bytes h odds) ≡ given (record { head = plain_head h; odds = odds })) sound.axes_are
    (record_back h odds 0 (omega (arith, sound.axes_are)) (writing_passes h (length odds) t) checked sound.held)

pub back_and_there : (axes : ℕ) (bytes out up : List ℕ) (m : Moved) → 0 < axes → AreBytes bytes
    → (downgrade_entry axes bytes out).answer ≡ given m → length bytes ≤ length up
    → upgrade_entry axes m.cuts (take m.size (downgrade_entry axes bytes out).lent) up
    ≡ record { answer = given (length bytes); lent = bytes ++ drop (length bytes) up }
back_and_there axes bytes out up m some-axis b answer room =
    let d = moved_back axes bytes out m answer in
    let k = d.holds in
    let h = k.head in
    let odds = k.grid.odds in
    let sound = edition_sound axes bytes k some-axis d.is in
    let t = (tests_of_lem (uses_of_writing k.running) h (length odds) (length k.grid.stamps) tt tt tt sound.passes).0 in
    let some : 0 < length h.extents = omega (arith, sound.axes_are) in
    let long = record_bytes_length h odds (t.count ∙ rows_are_cells h.extents some) in
    let first : take m.size (downgrade_entry axes bytes out).lent ≡ record_bytes h odds =
    ap (take m.size) d.lent_is ∙ take_at (record_bytes h odds) (drop m.size out) m.size (long ∙ d.size.0) in
    let whole : with_cuts m.cuts (plain_head h) ≡ h =
    ap (λ (x : List ℕ). with_cuts x (plain_head h)) (sym d.cuts_are ∙ same-cuts h.model.above) ∙ cuts_back h odds sound.held d.alike in
    let fit : cuts_in_bounds h.extents (with_cuts m.cuts (plain_head h)).model ≡ true =
    ap (λ (x : Head). cuts_in_bounds h.extents x.model) whole ∙ t.cuts in
    let s : Stored = record { head = plain_head h; odds = odds } in
    let size : edition_size h.extents false ≡ length bytes = ap (edition_size h.extents) (sym d.closed) ∙ sym sound.size_is in
    let again : bytes_up m.cuts s ≡ bytes =
    ap (λ (x : Head). edition_bytes x false (unstamped odds)) whole
    ∙ sym (closed_alike h k.grid)
    ∙ ap (λ (r : Bool). edition_bytes h r k.grid) (sym d.closed)
    ∙ edition_again axes bytes k d.is b in
    ap (λ (x : List ℕ). upgrade_entry axes m.cuts x up) first
    ∙ moves_up axes m.cuts (record_bytes h odds) up s (down_is axes bytes k some-axis d.is d.closed) fit (omega arith)
    ∙ ap₂ (λ (j : ℕ) (x : List ℕ). record { answer = given j; lent = x ++ drop j up }) size again

-- ---- the first byte
other_tag : {A B : Type 0} (f : Field A) (next : A → Reading B) (o : ℕ) (rest : List ℕ) → ¬ (get_or rest 0 0 ≡ f.tag)
    → field_then f next o rest ≡ refused (broken_record o)
unfolding field_then
other_tag {A} {B} f next o rest other = go (sound_here f rest) refl
  where
    go : (b : Bool) → sound_here f rest ≡ b
        → and_then (sound_or o b (contents f rest)) (λ a. next a (o + field_size f.size) (drop (field_size f.size) rest)) ≡ refused (broken_record o)
    go false t = refl
    go true t = absurd (other (found f.tag f.size rest (both (field_here f.tag f.size rest) (f.sound (contents f rest)) t).0).its_tag)

pub two_to_one : (axes others : ℕ) (bytes : List ℕ) (k : Kept) → edition_of axes bytes ≡ given k → record_of others bytes ≡ refused (broken_record 0)
unfolding edition_of record_of
two_to_one axes others bytes k e =
    let six = (field_given edition_field _ 0 bytes k e).is_found.its_tag in
    other_tag (extents_field others) _ 0 bytes (λ one. omega arith)

pub one_to_two : (axes others : ℕ) (bytes : List ℕ) (s : Stored) → record_of axes bytes ≡ given s → edition_of others bytes ≡ refused (broken_record 0)
unfolding edition_of record_of
one_to_two axes others bytes s e =
    let one = (field_given (extents_field axes) _ 0 bytes s e).is_found.its_tag in
    other_tag edition_field _ 0 bytes (λ six. omega arith)
