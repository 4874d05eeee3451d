-- A record's bytes field by field, and writing by the rows' width and number. Over any number of axes. Assumes nothing.
use Prim.Native.Nat.{ℕ, ◌+◌, ◌*◌, ◌≤◌, ◌<◌}
use mathlib.Core.Bool.{Bool, true, false, cond}
use mathlib.Core.List.{List, [], ◌∷◌, ◌++◌, append_assoc}
use mathlib.Core.Option.{some, none}
use mathlib.Core.Path.{◌≡◌, refl, sym, ap, ◌∙◌}
use native.Mathlib.Nat.{mul-add, mul_comm, mul_left_comm, le-mul_of_pos_right}
use native.Mathlib.Omega.{arith}
use lib.Dec.{leb}
use lib.Ieee.{Float, binary64, to_bits}
use lib.ListN.{length, length-append, drop}
use lib.Seq.{sets, sets-eq}
use borrow.Author.Tests.{leb-true}
use Rattle.rules.specs.RefusalNumbers.{Refusal, Answer, given, refused, and_then, broken_record, no_room}
use Rattle.rules.specs.RefusalNumbers.Entries.{Outcome, write_answer}
use Rattle.rules.specs.TheGridAndItsBounds.{Model, Head, plain_model, cells, most_cells}
use Rattle.rules.specs.Fields.{little_endian, short_size, word_size, float_size, float_bytes, head_size, field_size, field}
use Rattle.rules.specs.MapRecord.{extents_tag, extents_length, extent_bytes, model_tag, model_length, frame_tag, frame_length, row_length, end_tag, end_length}
use Rattle.rules.specs.MapRecord.{row_width, row_count, rows_bytes, rows_checked, rows_offset, record_bytes, record_size, room_for, writable, equal_pairs, pairs_checked}
use Rattle.rows.proofs.Ceilings.{rows_by_ceiling}
use Rattle.laws.specs.Checks.{InBounds}
use Rattle.fields.proofs.Bytes.{length_little}
use Rattle.fields.proofs.Stores.{then_run}
use Rattle.fields.proofs.Floats.{length-field}
use Rattle.rows.proofs.Written.{length_rows_bytes}
use Rattle.record_writer.specs.Writing.{size_of, one_model, writable_rows, model_written, frame_written, rest_bytes}
use Rattle.rows.proofs.Shapes.{Shape, few}

-- ---- the fields, from the stores of their parts
module _ (at : ℕ) where
  -- a field's head
  abbrev head : ℕ → ℕ → List ℕ
  head tag n = tag ∷ little_endian short_size n

  abbrev short : ℕ → List ℕ
  short x = little_endian short_size x

  abbrev float : Float → List ℕ
  float x = little_endian float_size (to_bits binary64 x)

  pub model_written_lem : (out : List ℕ) (m : Model) (out₁ out₂ out₃ out₄ : List ℕ)
      → out₁ ≡ sets out at (model_tag ∷ little_endian short_size model_length)
      → out₂ ≡ sets out₁ (at + head_size) (little_endian float_size (to_bits binary64 m.lowest.occupied))
      → out₃ ≡ sets out₂ (at + head_size + float_size) (little_endian float_size (to_bits binary64 m.lowest.free))
      → out₄ ≡ sets out₃ (at + head_size + float_size + float_size) (little_endian float_size (to_bits binary64 m.ceiling))
      → out₄ ≡ sets out at (model_written m)
  unfolding little_endian field float_bytes
  model_written_lem out m out₁ out₂ out₃ out₄ a b c d =
      let h : List ℕ = head model_tag model_length in
      let x : List ℕ = float m.lowest.occupied in
      let y : List ℕ = float m.lowest.free in
      let one = then_run h x out out₁ out₂ at (at + head_size) a b refl in
      let two = then_run (h ++ x) y out out₂ out₃ at (at + head_size + float_size) one c (omega arith) in
      then_run (h ++ x ++ y) (float m.ceiling) out out₃ out₄ at (at + head_size + float_size + float_size) two d (omega arith)

  pub frame_written_lem : (out : List ℕ) (frame : ℕ) (out₁ out₂ : List ℕ) → out₁ ≡ sets out at (frame_tag ∷ little_endian short_size frame_length)
      → out₂ ≡ sets out₁ (at + head_size) (little_endian word_size frame) → out₂ ≡ sets out at (frame_written frame)
  unfolding little_endian field
  frame_written_lem out frame out₁ out₂ a b = then_run (head frame_tag frame_length) (little_endian word_size frame) out out₁ out₂ at (at + head_size) a b refl

  pub extents2_written : (x y : ℕ) (out out₁ out₂ out₃ : List ℕ)
      → out₁ ≡ sets out at (extents_tag ∷ little_endian short_size (extents_length 2)) → out₂ ≡ sets out₁ (at + head_size) (little_endian short_size x)
      → out₃ ≡ sets out₂ (at + head_size + short_size) (little_endian short_size y) → out₃ ≡ sets out at (field extents_tag (extent_bytes (x ∷ y ∷ [])))
  unfolding little_endian field extent_bytes
  extents2_written x y out out₁ out₂ out₃ a b c =
      let h : List ℕ = head extents_tag (extents_length 2) in
      let one = then_run h (short x) out out₁ out₂ at (at + head_size) a b refl in
      then_run (h ++ short x) (short y) out out₂ out₃ at (at + head_size + short_size) one c (omega arith)

  pub extents3_written : (x y z : ℕ) (out out₁ out₂ out₃ out₄ : List ℕ)
      → out₁ ≡ sets out at (extents_tag ∷ little_endian short_size (extents_length 3)) → out₂ ≡ sets out₁ (at + head_size) (little_endian short_size x)
      → out₃ ≡ sets out₂ (at + head_size + short_size) (little_endian short_size y)
      → out₄ ≡ sets out₃ (at + head_size + short_size + short_size) (little_endian short_size z)
      → out₄ ≡ sets out at (field extents_tag (extent_bytes (x ∷ y ∷ z ∷ [])))
  unfolding little_endian field extent_bytes
  extents3_written x y z out out₁ out₂ out₃ out₄ a b c d =
      let h : List ℕ = head extents_tag (extents_length 3) in
      let one = then_run h (short x) out out₁ out₂ at (at + head_size) a b refl in
      let two = then_run (h ++ short x) (short y) out out₂ out₃ at (at + head_size + short_size) one c (omega arith) in
      then_run (h ++ short x ++ short y) (short z) out out₃ out₄ at (at + head_size + short_size + short_size) two d (omega arith)

-- ---- the fields after the extents'
length-model : (m : Model) → length (model_written m) ≡ field_size model_length
unfolding little_endian field float_bytes
length-model m = refl

length-frame : (frame : ℕ) → length (frame_written frame) ≡ field_size frame_length
unfolding little_endian field
length-frame frame = refl

pub end_is : field end_tag [] ≡ end_tag ∷ little_endian short_size end_length
unfolding little_endian field
end_is = refl

module _ (m : Model) (frame w n : ℕ) (odds : List Float) (there : n * w ≤ length odds) where
  length_rows : length (rows_bytes w n odds) ≡ n * field_size (row_length w)
  length_rows = length_rows_bytes w n 0 odds (omega arith)

  pub rest_written : (at : ℕ) (out out₁ out₂ out₃ out₄ : List ℕ)
      → out₁ ≡ sets out at (model_written m) → out₂ ≡ sets out₁ (at + field_size model_length) (frame_written frame)
      → out₃ ≡ sets out₂ (at + field_size model_length + field_size frame_length) (rows_bytes w n odds)
      → out₄ ≡ sets out₃ (at + field_size model_length + field_size frame_length + n * field_size (row_length w)) (field end_tag [])
      → out₄ ≡ sets out at (rest_bytes m frame w n odds)
  rest_written at out out₁ out₂ out₃ out₄ a b c d =
      let size₁ = length-model m in
      let size₂ = length-append (model_written m) (frame_written frame) in
      let size₂' = length-frame frame in
      let size₃ = length-append (model_written m ++ frame_written frame) (rows_bytes w n odds) in
      let size₃' = length_rows in
      let rows : ℕ = at + field_size model_length + field_size frame_length in
      let one = then_run (model_written m) (frame_written frame) out out₁ out₂ at (at + field_size model_length) a b (omega arith) in
      let two = then_run (model_written m ++ frame_written frame) (rows_bytes w n odds) out out₂ out₃ at rows one c (omega arith) in
      then_run (model_written m ++ frame_written frame ++ rows_bytes w n odds) (field end_tag []) out out₃ out₄ at (rows + n * field_size (row_length w)) two d (omega arith)

  pub length_rest : length (rest_bytes m frame w n odds) ≡ field_size model_length + field_size frame_length + n * field_size (row_length w) + field_size end_length
  length_rest =
      let size₁ = length-model m in
      let size₂ = length-append (model_written m) (frame_written frame) in
      let size₂' = length-frame frame in
      let size₃ = length-append (model_written m ++ frame_written frame) (rows_bytes w n odds) in
      let size₃' = length_rows in
      let size₄ = length-append (model_written m ++ frame_written frame ++ rows_bytes w n odds) (field end_tag []) in
      let size₄' = length-field end_tag [] in
      omega arith

-- ---- the whole record
length_extent_bytes : (es : List ℕ) → length (extent_bytes es) ≡ 2 * length es
unfolding extent_bytes
length_extent_bytes [] = refl
length_extent_bytes (e ∷ es) =
    length-append (little_endian short_size e) (extent_bytes es) ∙ (let a = length_little short_size e in let b = length_extent_bytes es in omega arith)

pub length_extents : (es : List ℕ) → length (field extents_tag (extent_bytes es)) ≡ field_size (extents_length (length es))
length_extents es = length-field extents_tag (extent_bytes es) ∙ ap field_size (length_extent_bytes es)

record_is : (h : Head) (odds : List Float)
    → record_bytes h odds ≡ field extents_tag (extent_bytes h.extents) ++ rest_bytes h.model h.frame (row_width h.extents) (row_count h.extents) odds
unfolding record_bytes
record_is h odds = simp append_assoc

-- the size, and that there is room, where nothing is refused
given_size : (m : Model) (w n offset : ℕ) (odds : List Float) (room size : ℕ) → writable_rows m w n offset odds room ≡ given size → size ≡ size_of offset w n
unfolding writable_rows
given_size m w n offset odds room size e = go (rows_checked m w n offset odds) (leb (size_of offset w n) room) e
  where
    go : (x : Answer (Unit {0})) (b : Bool) → and_then x (λ (t : Unit {0}). cond b (given (size_of offset w n)) (refused (no_room (size_of offset w n)))) ≡ given size
        → size ≡ size_of offset w n
    go (given t) true h = cc
    go (given t) false h = let z : ◌≡◌ {A = ℕ} 0 1 = cc in absurd (omega arith)
    go (refused r) b h = let z : ◌≡◌ {A = ℕ} 0 1 = cc in absurd (omega arith)

pub given_room : (m : Model) (w n offset : ℕ) (odds : List Float) (room size : ℕ) → writable_rows m w n offset odds room ≡ given size → size_of offset w n ≤ room
unfolding writable_rows
given_room m w n offset odds room size e = go (rows_checked m w n offset odds) (leb (size_of offset w n) room) refl e
  where
    go : (x : Answer (Unit {0})) (b : Bool) → leb (size_of offset w n) room ≡ b
        → and_then x (λ (t : Unit {0}). cond b (given (size_of offset w n)) (refused (no_room (size_of offset w n)))) ≡ given size → size_of offset w n ≤ room
    go (given t) true p h = leb-true (size_of offset w n) room p
    go (given t) false p h = let z : ◌≡◌ {A = ℕ} 0 1 = cc in absurd (omega arith)
    go (refused r) b p h = let z : ◌≡◌ {A = ℕ} 0 1 = cc in absurd (omega arith)

-- bands of one pair have the model that is kept; others have none
kept_of : (b : Bool) (m k : Model) → some m ≡ cond b (some k) none → (m ≡ k) × (b ≡ true)
kept_of true m k e = (cc, refl)
kept_of false m k e = let z : ◌≡◌ {A = ℕ} 0 1 = cc in absurd (omega arith)

lost_by : (b : Bool) (k : Model) → none ≡ cond b (some k) none → b ≡ false
lost_by true k e = let z : ◌≡◌ {A = ℕ} 0 1 = cc in absurd (omega arith)
lost_by false k e = refl

-- a head, and where the model stands in its record
module _ (h : Head) (start : ℕ) (there_is : start ≡ field_size (extents_length (length h.extents))) (odds : List Float) (out : List ℕ) where
  abbrev rows_at : ℕ
  rows_at = start + field_size model_length + field_size frame_length

  -- unequal pairs are refused at the model's field, before anything else
  pub unequal : none ≡ one_model h.model
      → ◌≡◌ {A = Outcome ℕ (List ℕ)} (record { answer = refused (broken_record start); lent = out }) (write_answer h odds out (writable h odds (length out)))
  unfolding one_model writable pairs_checked
  unequal e = rw (lost_by _ _ e, there_is) refl

  -- equal ones, and the model that edition 1 keeps of them
  module _ (m : Model) (kept : some m ≡ one_model h.model) (w n : ℕ) (shape : Shape h.extents w n) where
    kept_is : (m ≡ plain_model h.model.lowest h.model.ceiling) × (equal_pairs h.model.lowest h.model.above ≡ true)
    unfolding one_model
    kept_is = kept_of _ _ _ kept

    writable_is : writable h odds (length out) ≡ writable_rows m w n rows_at odds (length out)
    unfolding writable pairs_checked writable_rows room_for record_size rows_offset
    writable_is =
        rw (kept_is.1, shape.width_is, shape.count_is, sym there_is, rows_by_ceiling h.model m (sym (ap (λ (k : Model). k.ceiling) kept_is.0)) w n rows_at odds) refl

    pub not_written : (r : Refusal) → refused r ≡ writable_rows m w n rows_at odds (length out)
        → ◌≡◌ {A = Outcome ℕ (List ℕ)} (record { answer = refused r; lent = out }) (write_answer h odds out (writable h odds (length out)))
    not_written r e = rw (writable_is, sym e) refl

    pub written : (size : ℕ) (out₁ out₂ : List ℕ) → n * w ≤ length odds
        → given size ≡ writable_rows m w n rows_at odds (length out)
        → out₁ ≡ sets out 0 (field extents_tag (extent_bytes h.extents))
        → out₂ ≡ sets out₁ start (rest_bytes m h.frame w n odds)
        → ◌≡◌ {A = Outcome ℕ (List ℕ)} (record { answer = given size; lent = out₂ }) (write_answer h odds out (writable h odds (length out)))
    written size out₁ out₂ there e a b =
        let extents : List ℕ = field extents_tag (extent_bytes h.extents) in
        let rest : List ℕ = rest_bytes m h.frame w n odds in
        let first : length extents ≡ start = length_extents h.extents ∙ sym there_is in
        let sized : size ≡ size_of rows_at w n = given_size m w n rows_at odds (length out) size (sym e) in
        let fits = given_room m w n rows_at odds (length out) size (sym e) in
        let long = length_rest m h.frame w n odds there in
        let both = length-append extents rest in
        let all : out₂ ≡ sets out 0 (extents ++ rest) = then_run extents rest out out₁ out₂ 0 start a b (omega arith) in
        let is : record_bytes h odds ≡ extents ++ rest =
        record_is h odds ∙ rw (shape.width_is, shape.count_is) (ap (λ (k : Model). extents ++ rest_bytes k h.frame w n odds) (sym kept_is.0)) in
        let k : 0 + length (extents ++ rest) ≡ size = omega arith in
        let stands : out₂ ≡ record_bytes h odds ++ drop size out =
        all ∙ sets-eq (extents ++ rest) out 0 (omega arith) ∙ ap (λ (j : ℕ). [] ++ (extents ++ rest) ++ drop j out) k ∙ ap (λ (bs : List ℕ). bs ++ drop size out) (sym is) in
        rw (writable_is, sym e, stands) refl

-- the rows are the list's
pub all_there : (es : List ℕ) (w n : ℕ) (odds : List Float) → Shape es w n → length odds ≡ cells es → n * w ≤ length odds
all_there es w n odds s e = let a = s.cells_are in let b = mul_comm n w in omega arith

-- a record's bytes can be counted
pub small : (es : List ℕ) (w n : ℕ) → Shape es w n → InBounds es → 0 < w → n * field_size (row_length w) ≤ 11 * most_cells
small es w n s b p =
    let most = few es w n s b in
    let a = mul-add n head_size (row_length w) in
    let b = mul_left_comm n float_size w in
    let c = mul_comm n w in
    let d = le-mul_of_pos_right n p in
    omega arith
