-- A map written in edition 2, then read: reading finds field after field what was written. Assumes nothing.
use Prim.Native.Nat.{ℕ, zero, suc, ◌+◌, ◌*◌, ◌≤◌, ◌<◌}
use Rattle.std.specs.Prelude.{Bool, cond, refl, leb, eqb, length, Float}
use Rattle.std.proofs.Math.Bool.{true, false}
use mathlib.Core.List.{List, [], ◌∷◌, ◌++◌, append_assoc}
use Rattle.std.proofs.Math.Option.{none}
use Rattle.std.proofs.Math.Path.{◌≡◌, ap}
use Rattle.std.proofs.Common.{ap₂, ◌∙◌, arith, take-append-drop, length-take-le}
use Rattle.std.proofs.Math.Nat.{zero-mul, suc-mul}
use Rattle.std.proofs.Math.ListN.{take}
use Rattle.std.specs.Float.Ieee.{nan}
use Rattle.rules.specs.RefusalNumbers.{given}
use Rattle.rules.specs.RefusalNumbers.Entries.{head_refusal}
use Rattle.rules.specs.RefusalNumbers.Editions.{uses_of_writing}
use Rattle.rules.specs.TheGridAndItsBounds.{Model, Head, Grid}
use Rattle.rules.specs.MarksAndFrames.{highest_frame}
use Rattle.rules.specs.Fields.{little_endian, from_little_endian, word_size, float_bytes, field_size, field, Reading, sound_or, rows_then, rows_of, rows_tried}
use Rattle.rules.specs.MapRecord.{extents_field, extent_bytes, frame_field, row_length, row_field, odds_in_bounds, row_width, row_count, end_tag, end_then}
use Rattle.rules.specs.EditionTwo.{edition_two, edition_field, cuts_for, open_byte, open_field, marks_running, stamps_length, stamp_bytes, none_above, stamps_field}
use Rattle.rules.specs.EditionTwo.{behind_row, grid_bytes, row_size, row_tried, grid_tried, row_then, grid_of_rows, edition_bytes, kept, rows_and_end, edition_of}
use Rattle.laws.specs.Checks.{passed}
use Rattle.rows.proofs.Answers.{then_given}
use Rattle.record_laws.specs.Words.{Is64, Are64, Held}
use Rattle.record_laws.specs.Each.{each_take, each_drop}
use Rattle.record_laws.specs.Bytes.{little_endian_length, little_endian_back}
use Rattle.record_laws.specs.Numbers.{extent_bytes_length, extents_back, floats_back, stamps_back}
use Rattle.record_laws.specs.Fields.{sound_given, field_back}
use Rattle.record_laws.specs.Rows.{row_length_lem, rows_left, end_back}
use Rattle.record_laws.specs.Heads.{axes_few, extents_in_two_bytes, row_narrow, rows_are_cells, tests_of_lem}
use Rattle.record_laws.specs.EditionTwo.Grids.{in_four_bytes}
use Rattle.record_laws.specs.EditionTwo.Written.{stamps_row_length}
use Rattle.record_laws.specs.EditionTwo.BandsBack.{bands_back}

-- ---- the rows
-- the rows of lists; those of a closed record have no stamps
abbrev row_in : Bool → ℕ → Grid → Grid
row_in running w g = record { odds = take w g.odds; stamps = cond running (take w g.stamps) [] }

rows_in : Bool → ℕ → ℕ → Grid → List Grid
rows_in running w zero g = []
rows_in running w (suc n) g = row_in running w g ∷ rows_in running w n (behind_row w g)

-- they give the lists again
nothing_left : {A : Type 0} (w : ℕ) (xs : List A) → length xs ≡ 0 * w → [] ≡ xs
nothing_left w [] e = refl
nothing_left w (x ∷ xs) e = absurd (omega (arith, zero-mul w))

odds-joined : (running : Bool) (w n : ℕ) (g : Grid) → length g.odds ≡ n * w → (grid_of_rows (rows_in running w n g)).odds ≡ g.odds
unfolding grid_of_rows rows_in
odds-joined running w zero g e = nothing_left w g.odds e
odds-joined running w (suc n) g e =
    ap (λ (xs : List Float). take w g.odds ++ xs) (odds-joined running w n (behind_row w g) (rows_left w n g.odds e).1) ∙ take-append-drop w g.odds

stamps-joined : (w n : ℕ) (g : Grid) → length g.stamps ≡ n * w → (grid_of_rows (rows_in true w n g)).stamps ≡ g.stamps
unfolding grid_of_rows rows_in
stamps-joined w zero g e = nothing_left w g.stamps e
stamps-joined w (suc n) g e =
    ap (λ (xs : List ℕ). take w g.stamps ++ xs) (stamps-joined w n (behind_row w g) (rows_left w n g.stamps e).1) ∙ take-append-drop w g.stamps

kept_again : (h : Head) (running : Bool) (n w : ℕ) (g : Grid) → length g.odds ≡ n * w → (running ≡ true → length g.stamps ≡ n * w)
    → kept h running (grid_of_rows (rows_in running w n g)) ≡ kept h running g
kept_again h false n w g e f =
    ap (λ (xs : List Float). kept h false (record { odds = xs; stamps = g.stamps })) (odds-joined false w n g e)
kept_again h true n w g e f =
    ap₂ (λ (xs : List Float) (ss : List ℕ). kept h true (record { odds = xs; stamps = ss })) (odds-joined true w n g e) (stamps-joined w n g (f refl))

-- rows that are found sound where they are tried are found where they are read
sound_is : {A : Type 0} (o : ℕ) (sound : Bool) (a b : A) → sound_or o sound a ≡ given b → sound ≡ true
sound_is o true a b e = refl
sound_is o false a b e = let z : ◌≡◌ {A = ℕ} 0 1 = cc in absurd (omega arith)

module _ {B : Type 0} (m : Model) (frame w : ℕ) (low : frame ≤ highest_frame) (narrow : row_length w < 65_536) where
  rows_back : (running : Bool) (n : ℕ) (next : List Grid → Reading B) (o q : ℕ) (g : Grid) (rest : List ℕ) → grid_tried running m frame w n q g ≡ given tt
      → length g.odds ≡ n * w → (running ≡ true → length g.stamps ≡ n * w) → Are64 g.odds
      → rows_then (row_then running m frame w) n next o (grid_bytes running w n g ++ rest) ≡ next (rows_in running w n g) (o + n * row_size running w) rest
  unfolding grid_tried rows_tried rows_then grid_bytes rows_of rows_in
  rows_back running zero next o q g rest t e f x =
      let z : o ≡ o + 0 * row_size running w = omega (arith, zero-mul (row_size running w)) in ap (λ (at : ℕ). next [] at rest) z
  rows_back false (suc n) next o q g rest t e f x =
      let size = row_size false w in
      let r = rows_left w n g.odds e in
      let row = take w g.odds in
      let left = grid_bytes false w n (behind_row w g) ++ rest in
      let c = then_given (row_tried false m frame w q g) (λ (t : Unit {0}). grid_tried false m frame w n (q + size) (behind_row w g)) tt t in
      let s = sound_given q (odds_in_bounds m row) tt (λ (t : Unit {0}). given tt) c.0 c.1 in
      let k : o + field_size (row_length w) + n * size ≡ o + suc n * size = omega (arith, suc-mul n size) in
      simp append_assoc
      (field_back (row_field m w) _ (float_bytes row) left row o (row_length_lem w g.odds r.0) narrow
      (floats_back row left w (length-take-le w g.odds r.0) (each_take Is64 nan w g.odds x)) s.0
      ∙ rows_back false n (λ gs. next (row_in false w g ∷ gs)) (o + field_size (row_length w)) (q + size) (behind_row w g) rest c.2 r.1
      (λ h. let z : ◌≡◌ {A = ℕ} 0 1 = cc in absurd (omega arith)) (each_drop Is64 nan w g.odds x)
      ∙ ap (λ (at : ℕ). next (rows_in false w (suc n) g) at rest) k)
  rows_back true (suc n) next o q g rest t e f x =
      let size = row_size true w in
      let r = rows_left w n g.odds e in
      let l = rows_left w n g.stamps (f refl) in
      let row = take w g.odds in
      let stamps = take w g.stamps in
      let left = grid_bytes true w n (behind_row w g) ++ rest in
      let c = then_given (row_tried true m frame w q g) (λ (t : Unit {0}). grid_tried true m frame w n (q + size) (behind_row w g)) tt t in
      let s = sound_given q (odds_in_bounds m row) tt (λ (t : Unit {0}). sound_or (q + field_size (row_length w)) (none_above frame stamps) tt) c.0 c.1 in
      let fit = sound_is (q + field_size (row_length w)) (none_above frame stamps) tt c.0 s.1 in
      let k : o + field_size (row_length w) + field_size (stamps_length w) + n * size ≡ o + suc n * size = omega (arith, suc-mul n size) in
      simp append_assoc
      (field_back (row_field m w) _ (float_bytes row) _ row o (row_length_lem w g.odds r.0) narrow
      (floats_back row _ w (length-take-le w g.odds r.0) (each_take Is64 nan w g.odds x)) s.0
      ∙ field_back (stamps_field frame w) _ (stamp_bytes stamps) left stamps _ (stamps_row_length w g.stamps l.0) (omega arith)
      (stamps_back stamps left w (length-take-le w g.stamps l.0) (in_four_bytes frame stamps low fit)) fit
      ∙ rows_back true n (λ gs. next (row_in true w g ∷ gs)) _ (q + size) (behind_row w g) rest c.2 r.1 (λ h. l.1) (each_drop Is64 nan w g.odds x)
      ∙ ap (λ (at : ℕ). next (rows_in true w (suc n) g) at rest) k)

-- ---- the whole
mark_sound : (running : Bool) → leb (open_byte running) 1 ≡ true
mark_sound true = refl
mark_sound false = refl

mark_back : (running : Bool) → marks_running (open_byte running) ≡ running
mark_back true = refl
mark_back false = refl

byte_back : (v : ℕ) (rest : List ℕ) → from_little_endian 1 ((v ∷ []) ++ rest) ≡ v
unfolding from_little_endian
byte_back v rest = omega arith

rows_and_end_back : (h : Head) (running : Bool) (g : Grid) (o at : ℕ) → h.frame ≤ highest_frame → row_length (row_width h.extents) < 65_536
    → grid_tried running h.model h.frame (row_width h.extents) (row_count h.extents) o g ≡ given tt
    → length g.odds ≡ row_count h.extents * row_width h.extents → (running ≡ true → length g.stamps ≡ row_count h.extents * row_width h.extents)
    → Are64 g.odds
    → rows_and_end h (marks_running (open_byte running)) at (grid_bytes running (row_width h.extents) (row_count h.extents) g ++ field end_tag [])
    ≡ given (kept h running g)
unfolding rows_and_end
rows_and_end_back h running g o at low narrow tried e f x =
    let w = row_width h.extents in
    let n = row_count h.extents in
    let left = grid_bytes running w n g ++ field end_tag [] in
    ap (λ (b : Bool). rows_and_end h b at left) (mark_back running)
    ∙ rows_back h.model h.frame w low narrow running n (λ gs. end_then (kept h running (grid_of_rows gs))) at o g (field end_tag []) tried e f x
    ∙ end_back (kept h running (grid_of_rows (rows_in running w n g))) _
    ∙ ap given (kept_again h running n w g e f)

few_cuts : (axes : ℕ) → cuts_for axes ≤ 24
unfolding cuts_for
few_cuts axes = go (eqb axes 3)
  where
    go : (b : Bool) → cond b 2 0 ≤ 24
    go true = omega arith
    go false = omega arith

-- A map that can be written in edition 2 is read again from its record as it was: the same head with all its pairs and
-- its cuts, the same mark, for every cell the same odds as data, and of an open sweep the same stamps; of a closed one
-- stamps 0. (Stamps of no frame above the stored one are u32: they need no premise of their own.)
pub edition_back : (h : Head) (running : Bool) (g : Grid) (o : ℕ) → length h.model.above ≡ cuts_for (length h.extents) → 0 < length h.extents
    → head_refusal (uses_of_writing running) h (length g.odds) (length g.stamps) ≡ none
    → grid_tried running h.model h.frame (row_width h.extents) (row_count h.extents) o g ≡ given tt → Held h g.odds
    → edition_of (length h.extents) (edition_bytes h running g) ≡ given (kept h running g)
unfolding edition_bytes edition_of
edition_back h running g o cuts axes passes tried held =
    let es = h.extents in
    let m = h.model in
    let all = tests_of_lem (uses_of_writing running) h (length g.odds) (length g.stamps) tt tt tt passes in
    let t = all.0 in
    let b = all.1 in
    let low = all.2 in
    let few = axes_few es b in
    let one_each = rows_are_cells es axes in
    let each-stamp = (passed (uses_of_writing running) h (length g.odds) (length g.stamps) passes).stamps_count in
    simp append_assoc
    (field_back edition_field _ (edition_two ∷ []) _ edition_two 0 refl (omega arith) (byte_back edition_two _) refl
    ∙ field_back (extents_field (length es)) _ (extent_bytes es) _ es _ (extent_bytes_length es) (omega arith)
    (extents_back es _ (length es) refl (extents_in_two_bytes es b.0)) t.extents
    ∙ bands_back (cuts_for (length es)) es m _ _ _ cuts (few_cuts (length es)) b.0 t.model t.cuts
    (record { occupied = held.occupied; free = held.free; ceiling = held.ceiling }) held.above held.layer
    ∙ field_back frame_field _ (little_endian word_size h.frame) _ h.frame _ (little_endian_length word_size h.frame) (omega arith)
    (little_endian_back word_size h.frame _ (omega arith)) t.frame
    ∙ field_back open_field _ (open_byte running ∷ []) _ (open_byte running) _ refl (omega arith) (byte_back (open_byte running) _) (mark_sound running)
    ∙ rows_and_end_back h running g o _ low (row_narrow es b.0) tried (t.count ∙ one_each) (λ e. each-stamp (rw e tt) ∙ one_each) held.each_odds)
