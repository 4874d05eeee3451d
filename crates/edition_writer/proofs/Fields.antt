-- A record's bytes field by field, and writing by the rows' width and number. Over any number of axes. Assumes nothing.
use Prim.Native.Nat.{ℕ, suc, ◌+◌, ◌*◌, ◌≤◌}
use mathlib.Core.Bool.{Bool, true, false, cond}
use mathlib.Core.List.{List, [], ◌∷◌, ◌++◌, append_assoc, append-nil}
use mathlib.Core.Path.{◌≡◌, refl, sym, ap, ◌∙◌}
use native.Mathlib.Omega.{arith}
use mir.Val.{bool_byte}
use lib.Dec.{leb}
use lib.Ieee.{Float}
use lib.ListN.{length, length-append, set, drop}
use lib.Seq.{sets, sets-eq}
use borrow.Author.Tests.{leb-true}
use Rattle.rules.specs.RefusalNumbers.{Refusal, Answer, given, refused, and_then, no_room}
use Rattle.rules.specs.RefusalNumbers.Entries.{Outcome}
use Rattle.rules.specs.RefusalNumbers.Editions.{store_answer}
use Rattle.rules.specs.TheGridAndItsBounds.{Band, Model, Head, Grid, plain_model}
use Rattle.rules.specs.Fields.{little_endian, short_size, word_size, head_size, field_size, field}
use Rattle.rules.specs.MapRecord.{extents_tag, extents_length, extent_bytes, model_tag, model_length, model_bytes, frame_tag, frame_length, end_tag, end_length}
use Rattle.rules.specs.MapRecord.{row_width, row_count}
use Rattle.rules.specs.EditionTwo.{byte_length, edition_tag, edition_two, cuts_tag, cuts_length, cuts_for, open_tag, open_byte, pairs_bytes, cuts_of, cuts_bytes, bands_bytes}
use Rattle.rules.specs.EditionTwo.{grid_bytes, edition_bytes, bands_size, grid_offset, row_size, edition_size, grid_tried, edition_room, edition_writable}
use Rattle.types.specs.Models as Models
use Rattle.types.specs.declared.points.Extents3.{Extents3}
use Rattle.types.specs.declared.model.Model as Plain
use Rattle.types.specs.declared.model.Pair.{Pair}
use Rattle.types.specs.declared.model.Bands.{Bands}
use Rattle.marks.specs.Marking.{grid_of}
use Rattle.record_writer.specs.Writing.{model_written, frame_written}
use Rattle.record_writer.proofs.Fields.{length_extents}
use Rattle.fields.proofs.Bytes.{length_little}
use Rattle.fields.proofs.Stores.{then_run}
use Rattle.fields.proofs.Floats.{length_float_bytes, length-field}
use Rattle.rows.proofs.Shapes.{Shape}
use Rattle.edition_writer.specs.Writing.{enough_stamps, size_of, writable_grid, rest_bytes}
use Rattle.edition_writer.proofs.Rows.{length-grid, grid_by_ceiling}

-- ---- the fields, from the stores of their parts
module _ (at : ℕ) where
  -- a field's head
  abbrev head : ℕ → ℕ → List ℕ
  head tag n = tag ∷ little_endian short_size n

  abbrev short : ℕ → List ℕ
  short x = little_endian short_size x

  pub byte_written : (tag b : ℕ) (out out₁ out₂ : List ℕ) → out₁ ≡ sets out at (tag ∷ little_endian short_size byte_length)
      → out₂ ≡ set out₁ (at + head_size) b → out₂ ≡ sets out at (field tag (b ∷ []))
  unfolding little_endian field
  byte_written tag b out out₁ out₂ x y = then_run (head tag byte_length) (b ∷ []) out out₁ out₂ at (at + head_size) x y refl

  pub cuts_written : (first second : ℕ) (out out₁ out₂ out₃ : List ℕ)
      → out₁ ≡ sets out at (cuts_tag ∷ little_endian short_size (cuts_length 2)) → out₂ ≡ sets out₁ (at + head_size) (little_endian short_size first)
      → out₃ ≡ sets out₂ (at + head_size + short_size) (little_endian short_size second) → out₃ ≡ sets out at (field cuts_tag (extent_bytes (first ∷ second ∷ [])))
  unfolding little_endian field extent_bytes
  cuts_written first second out out₁ out₂ out₃ a b c =
      let h : List ℕ = head cuts_tag (cuts_length 2) in
      let one = then_run h (short first) out out₁ out₂ at (at + head_size) a b refl in
      then_run (h ++ short first) (short second) out out₂ out₃ at (at + head_size + short_size) one c (omega arith)

-- a bool as a byte
pub mark_byte : (running : Bool) → bool_byte running ≡ open_byte running
mark_byte true = refl
mark_byte false = refl

length-model : (m : Model) → length (model_written m) ≡ field_size model_length
length-model m = length-field model_tag (model_bytes m) ∙ ap field_size (length_float_bytes (m.lowest.occupied ∷ m.lowest.free ∷ m.ceiling ∷ []))

length_shorts : (xs : List ℕ) → length (extent_bytes xs) ≡ short_size * length xs
length_shorts xs = let a = length-field extents_tag (extent_bytes xs) in let b = length_extents xs in omega arith

-- ---- the bands
-- so many pairs, and the cuts between them
length_pairs : (ceiling : Float) (bs : List Band) → length (pairs_bytes ceiling bs) ≡ length bs * field_size model_length
unfolding pairs_bytes
length_pairs ceiling [] = refl
length_pairs ceiling (b ∷ bs) =
    let pair : List ℕ = model_written (plain_model b.pair ceiling) in
    length-append pair (pairs_bytes ceiling bs) ∙ (let x = length-model (plain_model b.pair ceiling) in let y = length_pairs ceiling bs in omega arith)

cuts_each : (bs : List Band) → length (cuts_of bs) ≡ length bs
unfolding cuts_of
cuts_each [] = refl
cuts_each (b ∷ bs) = ap suc (cuts_each bs)

pub length-bands : (m : Model) → length (bands_bytes m) ≡ bands_size (length m.above)
unfolding bands_bytes pairs_bytes bands_size
length-bands m = go m.above
  where
    go : (bs : List Band) → length (model_written m ++ pairs_bytes m.ceiling bs ++ cuts_bytes bs) ≡ bands_size (length bs)
    go [] = simp append-nil (length-model m)
    go (b ∷ bs) =
        let pairs : List ℕ = pairs_bytes m.ceiling (b ∷ bs) in
        let cuts : List ℕ = cuts_bytes (b ∷ bs) in
        let x = length-model m in
        let y = length_pairs m.ceiling (b ∷ bs) in
        let z = length-field cuts_tag (extent_bytes (cuts_of (b ∷ bs))) in
        let z' = length_shorts (cuts_of (b ∷ bs)) in
        let z'' = cuts_each (b ∷ bs) in
        let one = length-append (model_written m) pairs in
        let two = length-append (model_written m ++ pairs) cuts in
        omega arith

-- three pairs and the cuts
module _ (e : Extents3) (b : Bands) where
  abbrev plain : Pair → Model
  plain p = plain_model (Models.pair_of p) b.ceiling

  abbrev pair : Pair → List ℕ
  pair p = model_written (plain p)

  abbrev cuts : List ℕ
  cuts = field cuts_tag (extent_bytes (Models.cuts_of b.cuts))

  bands_are : bands_bytes (Models.bands_of e b) ≡ pair b.low ++ pair b.middle ++ pair b.high ++ cuts
  unfolding bands_bytes pairs_bytes cuts_of
  bands_are = simp (append_assoc, append-nil)

  length_two : length (pair b.low ++ pair b.middle) ≡ 2 * field_size model_length
  length_two = length-append (pair b.low) (pair b.middle) ∙ (let x = length-model (plain b.low) in let y = length-model (plain b.middle) in omega arith)

  length_three : length (pair b.low ++ pair b.middle ++ pair b.high) ≡ 3 * field_size model_length
  length_three =
      length-append (pair b.low ++ pair b.middle) (pair b.high) ∙ (let x = length_two in let y = length-model (plain b.high) in omega arith)

  -- a pair's store, by the model that it was made of
  pair-stored : (p : Pair) (m : Model) (at : ℕ) (out out₁ : List ℕ) → m ≡ plain p → out₁ ≡ sets out at (model_written m) → out₁ ≡ sets out at (pair p)
  pair-stored p m at out out₁ is stored = stored ∙ ap (λ (k : Model). sets out at (model_written k)) is

  pub bands_written : (at : ℕ) (low middle high : Model) (out out₁ out₂ out₃ out₄ : List ℕ) → low ≡ plain b.low → middle ≡ plain b.middle → high ≡ plain b.high
      → out₁ ≡ sets out at (model_written low) → out₂ ≡ sets out₁ (at + field_size model_length) (model_written middle)
      → out₃ ≡ sets out₂ (at + 2 * field_size model_length) (model_written high) → out₄ ≡ sets out₃ (at + 3 * field_size model_length) cuts
      → out₄ ≡ sets out at (bands_bytes (Models.bands_of e b))
  bands_written at low middle high out out₁ out₂ out₃ out₄ x y z p q r s =
      let second : ℕ = at + field_size model_length in
      let third : ℕ = at + 2 * field_size model_length in
      let size₁ = length-model (plain b.low) in
      let size₂ = length_two in
      let size₃ = length_three in
      let first = pair-stored b.low low at out out₁ x p in
      let one = then_run (pair b.low) (pair b.middle) out out₁ out₂ at second first (pair-stored b.middle middle second out₁ out₂ y q) (omega arith) in
      let two = then_run (pair b.low ++ pair b.middle) (pair b.high) out out₂ out₃ at third one (pair-stored b.high high third out₂ out₃ z r) (omega arith) in
      let all = pair b.low ++ pair b.middle ++ pair b.high in
      then_run all cuts out out₃ out₄ at (at + 3 * field_size model_length) two s (omega arith) ∙ ap (sets out at) (sym bands_are)

-- one pair and no cuts
pub pair_alone : (m : Plain.Model) → bands_bytes (Models.model_of m) ≡ model_written (Models.model_of m)
unfolding bands_bytes pairs_bytes
pair_alone m = simp append-nil

-- bands of so many bytes, as many as the axes ask for
pub record Laid (h : Head) (bands : ℕ) : Type 0 where
  pub long : length (bands_bytes h.model) ≡ bands
  pub sized : bands_size (cuts_for (length h.extents)) ≡ bands

pub laid_of : (h : Head) (axes bands : ℕ) → length h.extents ≡ axes → length h.model.above ≡ cuts_for axes → bands ≡ bands_size (cuts_for axes) → Laid h bands
laid_of h axes bands each above size =
    record { long = length-bands h.model ∙ ap bands_size above ∙ sym size; sized = ap (λ (k : ℕ). bands_size (cuts_for k)) each ∙ sym size }

-- ---- the fields after the bands'
length-frame : (frame : ℕ) → length (frame_written frame) ≡ field_size frame_length
length-frame frame = length-field frame_tag (little_endian word_size frame) ∙ ap field_size (length_little word_size frame)

module _ (running : Bool) (frame w n : ℕ) (odds : List Float) (stamps : List ℕ) (there : n * w ≤ length odds) (marked : enough_stamps running (n * w) (length stamps)) where
  abbrev mark : List ℕ
  mark = field open_tag (open_byte running ∷ [])

  abbrev rows : List ℕ
  rows = grid_bytes running w n (grid_of odds stamps)

  length_marked : length (frame_written frame ++ mark) ≡ field_size frame_length + field_size byte_length
  length_marked = length-append (frame_written frame) mark ∙ (let x = length-frame frame in let y = length-field open_tag (open_byte running ∷ []) in omega arith)

  length_filled : length (frame_written frame ++ mark ++ rows) ≡ field_size frame_length + field_size byte_length + n * row_size running w
  length_filled =
      length-append (frame_written frame ++ mark) rows ∙ (let x = length_marked in let y = length-grid running w n odds stamps there marked in omega arith)

  length_rest : length (rest_bytes running frame w n (grid_of odds stamps)) ≡ field_size frame_length + field_size byte_length + n * row_size running w + field_size end_length
  length_rest = length-append (frame_written frame ++ mark ++ rows) (field end_tag []) ∙ (let x = length_filled in let y = length-field end_tag [] in omega arith)

  pub rest_written : (at row : ℕ) (out out₁ out₂ out₃ out₄ : List ℕ) → row ≡ row_size running w
      → out₁ ≡ sets out at (frame_written frame) → out₂ ≡ sets out₁ (at + field_size frame_length) mark
      → out₃ ≡ sets out₂ (at + field_size frame_length + field_size byte_length) rows
      → out₄ ≡ sets out₃ (at + field_size frame_length + field_size byte_length + n * row) (field end_tag [])
      → out₄ ≡ sets out at (rest_bytes running frame w n (grid_of odds stamps))
  rest_written at row out out₁ out₂ out₃ out₄ e a b c d =
      let size₁ = length-frame frame in
      let size₂ = length_marked in
      let size₃ = length_filled in
      let each = ap (λ (k : ℕ). n * k) e in
      let start : ℕ = at + field_size frame_length + field_size byte_length in
      let one = then_run (frame_written frame) mark out out₁ out₂ at (at + field_size frame_length) a b (omega arith) in
      let two = then_run (frame_written frame ++ mark) rows out out₂ out₃ at start one c (omega arith) in
      then_run (frame_written frame ++ mark ++ rows) (field end_tag []) out out₃ out₄ at (start + n * row) two d (omega arith)

-- ---- the whole record
-- the fields before the frame's
abbrev front : Head → List ℕ
front h = field edition_tag (edition_two ∷ []) ++ field extents_tag (extent_bytes h.extents) ++ bands_bytes h.model

record_is : (h : Head) (running : Bool) (g : Grid)
    → edition_bytes h running g ≡ front h ++ rest_bytes running h.frame (row_width h.extents) (row_count h.extents) g
unfolding edition_bytes
record_is h running g = simp append_assoc

-- the size, and that there is room, where nothing is refused
module _ (running : Bool) (m : Model) (frame w n offset : ℕ) (g : Grid) (room size : ℕ) (e : writable_grid running m frame w n offset g room ≡ given size) where
  abbrev whole : ℕ
  whole = size_of running offset w n

  size_and_room : (size ≡ whole) × (whole ≤ room)
  unfolding writable_grid
  size_and_room = go (grid_tried running m frame w n offset g) (leb whole room) refl e
    where
      go : (x : Answer (Unit {0})) (b : Bool) → leb whole room ≡ b
          → and_then x (λ (t : Unit {0}). cond b (given whole) (refused (no_room whole))) ≡ given size → (size ≡ whole) × (whole ≤ room)
      go (given t) true p h = (cc, leb-true whole room p)
      go (given t) false p h = let z : ◌≡◌ {A = ℕ} 0 1 = cc in absurd (omega arith)
      go (refused r) b p h = let z : ◌≡◌ {A = ℕ} 0 1 = cc in absurd (omega arith)

  pub given_room : size_of running offset w n ≤ room
  given_room = size_and_room.1

-- a head whose bands have so many bytes, and a model of its ceiling, by which its rows are tried
module _ (h : Head) (running : Bool) (m : Model) (same : h.model.ceiling ≡ m.ceiling) (odds : List Float) (stamps out : List ℕ) (w n start bands : ℕ)
    (shape : Shape h.extents w n) (there_is : start ≡ field_size (extents_length (length h.extents))) (laid : Laid h bands) where
  abbrev bands_at : ℕ
  bands_at = field_size byte_length + start

  abbrev rows_at : ℕ
  rows_at = bands_at + bands + field_size frame_length + field_size byte_length

  abbrev g : Grid
  g = grid_of odds stamps

  writable_is : edition_writable h running g (length out) ≡ writable_grid running m h.frame w n rows_at g (length out)
  unfolding edition_writable writable_grid edition_room edition_size grid_offset
  writable_is = rw (shape.width_is, shape.count_is, sym there_is, laid.sized, grid_by_ceiling running h.model m same h.frame w n rows_at g) refl

  pub not_written : (r : Refusal) → refused r ≡ writable_grid running m h.frame w n rows_at g (length out)
      → ◌≡◌ {A = Outcome ℕ (List ℕ)} (record { answer = refused r; lent = out }) (store_answer h running g out (edition_writable h running g (length out)))
  not_written r e = rw (writable_is, sym e) refl

  pub written : (size : ℕ) (out₁ out₂ out₃ out₄ : List ℕ) → n * w ≤ length odds → enough_stamps running (n * w) (length stamps)
      → given size ≡ writable_grid running m h.frame w n rows_at g (length out)
      → out₁ ≡ sets out 0 (field edition_tag (edition_two ∷ []))
      → out₂ ≡ sets out₁ (field_size byte_length) (field extents_tag (extent_bytes h.extents))
      → out₃ ≡ sets out₂ bands_at (bands_bytes h.model)
      → out₄ ≡ sets out₃ (bands_at + bands) (rest_bytes running h.frame w n g)
      → ◌≡◌ {A = Outcome ℕ (List ℕ)} (record { answer = given size; lent = out₄ }) (store_answer h running g out (edition_writable h running g (length out)))
  written size out₁ out₂ out₃ out₄ there marked e a b c d =
      let edition : List ℕ = field edition_tag (edition_two ∷ []) in
      let extents : List ℕ = field extents_tag (extent_bytes h.extents) in
      let rest : List ℕ = rest_bytes running h.frame w n g in
      let size₁ = length-field edition_tag (edition_two ∷ []) in
      let size₂ = length_extents h.extents ∙ sym there_is in
      let size₂' = length-append edition extents in
      let size₃ = laid.long in
      let size₃' = length-append (edition ++ extents) (bands_bytes h.model) in
      let size₄ = length_rest running h.frame w n odds stamps there marked in
      let size₄' = length-append (front h) rest in
      let fits = size_and_room running m h.frame w n rows_at g (length out) size (sym e) in
      let sized = fits.0 in
      let room = fits.1 in
      let one = then_run edition extents out out₁ out₂ 0 (field_size byte_length) a b (omega arith) in
      let two = then_run (edition ++ extents) (bands_bytes h.model) out out₂ out₃ 0 bands_at one c (omega arith) in
      let all : out₄ ≡ sets out 0 (front h ++ rest) = then_run (front h) rest out out₃ out₄ 0 (bands_at + bands) two d (omega arith) in
      let is : edition_bytes h running g ≡ front h ++ rest = record_is h running g ∙ rw (shape.width_is, shape.count_is) refl in
      let k : 0 + length (front h ++ rest) ≡ size = omega arith in
      let stands : out₄ ≡ edition_bytes h running g ++ drop size out =
      all ∙ sets-eq (front h ++ rest) out 0 (omega arith) ∙ ap (λ (j : ℕ). [] ++ (front h ++ rest) ++ drop j out) k ∙ ap (λ (bs : List ℕ). bs ++ drop size out) (sym is) in
      rw (writable_is, sym e, stands) refl
