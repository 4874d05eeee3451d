-- A record written, then read: its length, and that reading finds field after field what was written. Assumes nothing.
use Rattle.std.specs.Prelude.{ℕ, zero, suc, ◌+◌, ◌*◌, ◌≤◌, ◌<◌, Bool, true, false, cond, List, [], ◌∷◌, ◌++◌, ◌≡◌, refl, leb, length, Float}
use Rattle.std.proofs.Common.{append_assoc, ap, ap₂, ◌∙◌, arith, length-append, leb-true, le-leb}
use Rattle.std.proofs.Math.Option.{none}
use Rattle.rules.specs.RefusalNumbers.{given, refused, and_then, no_room}
use Rattle.rules.specs.RefusalNumbers.Entries.{head_refusal, uses_of, writing}
use Rattle.rules.specs.TheGridAndItsBounds.{Band, Model, Head, plain_model, pair_bounded, all_pairs, bounded}
use Rattle.rules.specs.Fields.{little_endian, word_size, field_size, field}
use Rattle.rules.specs.MapRecord.{extents_tag, extents_length, extent_bytes, extents_field, model_tag, model_bytes, model_in, model_field, frame_tag, frame_field, end_tag}
use Rattle.rules.specs.MapRecord.{row_width, row_count, rows_bytes, record_bytes, rows_offset, record_of}
use Rattle.rules.specs.MapRecord.{equal_pairs, pairs_checked, rows_checked, record_size, room_for, writable}
use Rattle.record_laws.specs.Words.{Are64, Held, plain_head}
use Rattle.record_laws.specs.Each.{both}
use Rattle.record_laws.specs.Bytes.{little_endian_length, little_endian_back}
use Rattle.record_laws.specs.Numbers.{extent_bytes_length, extents_back, float_bytes_length, floats_back}
use Rattle.record_laws.specs.Fields.{field-length, sound_given, field_back}
use Rattle.record_laws.specs.Rows.{rows_bytes_length, end_back, rows_back}
use Rattle.rows.proofs.Answers.{then_given}
use Rattle.rows.proofs.Ceilings.{rows_by_ceiling}
use Rattle.record_laws.specs.Heads.{axes_few, extents_in_two_bytes, row_narrow, rows_are_cells, tests_of_writing}

-- the model's numbers as the record orders them
abbrev pub model_floats : Model → List Float
model_floats m = m.lowest.occupied ∷ m.lowest.free ∷ m.ceiling ∷ []

-- ---- the length
-- a record is as long as its extents say
pub record_bytes_length : (h : Head) (odds : List Float) → length odds ≡ row_count h.extents * row_width h.extents
    → length (record_bytes h odds) ≡ record_size h.extents
unfolding record_bytes record_size rows_offset
record_bytes_length h odds e =
    let es = h.extents in
    let fields = field extents_tag (extent_bytes es) ++ field model_tag (model_bytes h.model) ++ field frame_tag (little_endian word_size h.frame) in
    length-append (fields ++ rows_bytes (row_width es) (row_count es) odds) (field end_tag [])
    ∙ ap₂ ◌+◌
    (length-append fields (rows_bytes (row_width es) (row_count es) odds)
    ∙ ap₂ ◌+◌
    (length-append (field extents_tag (extent_bytes es) ++ field model_tag (model_bytes h.model)) (field frame_tag (little_endian word_size h.frame))
    ∙ ap₂ ◌+◌
    (length-append (field extents_tag (extent_bytes es)) (field model_tag (model_bytes h.model))
    ∙ ap₂ ◌+◌ (field-length extents_tag (extent_bytes es) ∙ ap field_size (extent_bytes_length es))
    (field-length model_tag (model_bytes h.model) ∙ ap field_size (float_bytes_length (model_floats h.model))))
    (field-length frame_tag (little_endian word_size h.frame) ∙ ap field_size (little_endian_length word_size h.frame)))
    (rows_bytes_length (row_width es) (row_count es) odds e))
    (field-length end_tag [])

-- ---- the whole
room_given : (es : List ℕ) (room n : ℕ) → room_for es room ≡ given n → (record_size es ≡ n) × (n ≤ room)
unfolding room_for
room_given es room n e = go (leb (record_size es) room) refl e
  where
    go : (b : Bool) → leb (record_size es) room ≡ b
        → cond b (given (record_size es)) (refused (no_room (record_size es))) ≡ given n → (record_size es ≡ n) × (n ≤ room)
    go true t q = let z : record_size es ≡ n = cc in (z, omega (arith, leb-true (record_size es) room t))
    go false t q = let z : ◌≡◌ {A = ℕ} 0 1 = cc in absurd (omega arith)

model_64 : (h : Head) (odds : List Float) → Held h odds → Are64 (model_floats h.model)
model_64 h odds r zero l = r.occupied
model_64 h odds r (suc zero) l = r.free
model_64 h odds r (suc (suc zero)) l = r.ceiling
model_64 h odds r (suc (suc (suc i))) l = absurd (omega arith)

-- the lowest pair is one of all
pub lowest_bounded : (m : Model) → bounded m ≡ true → pair_bounded m.ceiling m.lowest ≡ true
unfolding bounded all_pairs
lowest_bounded m t = go m.above t
  where
    go : (bs : List Band) → all_pairs (pair_bounded m.ceiling) m.lowest bs ≡ true → pair_bounded m.ceiling m.lowest ≡ true
    go [] t = t
    go (b ∷ bs) t = (both (pair_bounded m.ceiling m.lowest) (all_pairs (pair_bounded m.ceiling) b.pair bs) t).0

pub plain-bounded : (m : Model) → bounded m ≡ true → bounded (plain_model m.lowest m.ceiling) ≡ true
unfolding bounded all_pairs
plain-bounded m t = lowest_bounded m t

-- what is known where writing is not refused: the odds are within their bounds, and the answer is the record's size,
-- for which there is room
pub record Writable (h : Head) (odds : List Float) (room n : ℕ) : Type 0 where
  pub pairs : equal_pairs h.model.lowest h.model.above ≡ true
  pub checked : rows_checked h.model (row_width h.extents) (row_count h.extents) (rows_offset (length h.extents)) odds ≡ given tt
  pub size : (record_size h.extents ≡ n) × (n ≤ room)

pub writable_is : (h : Head) (odds : List Float) (room n : ℕ) → writable h odds room ≡ given n → Writable h odds room n
unfolding writable pairs_checked
writable_is h odds room n e =
    let es = h.extents in
    let p = sound_given (field_size (extents_length (length es))) (equal_pairs h.model.lowest h.model.above) tt
    (λ (s : Unit {0}). and_then (rows_checked h.model (row_width es) (row_count es) (rows_offset (length es)) odds) (λ (t : Unit {0}). room_for es room)) n e in
    let c = then_given (rows_checked h.model (row_width es) (row_count es) (rows_offset (length es)) odds) (λ (t : Unit {0}). room_for es room) n p.1 in
    record { pairs = p.0; checked = c.1; size = room_given es room n c.2 }

pub is_writable : (h : Head) (odds : List Float) (room n : ℕ) → Writable h odds room n → writable h odds room ≡ given n
unfolding writable pairs_checked room_for
is_writable h odds room n w =
    rw (w.pairs, w.checked, le-leb (record_size h.extents) room (omega (arith, w.size.0, w.size.1))) (ap given w.size.0)

pub record_back : (h : Head) (odds : List Float) (o : ℕ) → 0 < length h.extents → head_refusal (uses_of writing) h (length odds) 0 ≡ none
    → rows_checked h.model (row_width h.extents) (row_count h.extents) o odds ≡ given tt → Held h odds
    → record_of (length h.extents) (record_bytes h odds) ≡ given (record { head = plain_head h; odds = odds })
unfolding record_bytes record_of
record_back h odds o axes passes checked held =
    let es = h.extents in
    let m = h.model in
    let k = (plain_head h).model in
    let all = tests_of_writing h (length odds) passes in
    let t = all.0 in
    let b = all.1 in
    let few = axes_few es b in
    simp append_assoc
    (field_back (extents_field (length es)) _ (extent_bytes es) _ es 0 (extent_bytes_length es) (omega arith)
    (extents_back es _ (length es) refl (extents_in_two_bytes es b.0)) t.extents
    ∙ field_back model_field _ (model_bytes m) _ k _ (float_bytes_length (model_floats m)) (omega arith)
    (ap model_in (floats_back (model_floats m) _ 3 refl (model_64 h odds held))) (plain-bounded m t.model)
    ∙ field_back frame_field _ (little_endian word_size h.frame) _ h.frame _ (little_endian_length word_size h.frame) (omega arith)
    (little_endian_back word_size h.frame _ (omega arith)) t.frame
    ∙ rows_back k (row_width es) (row_count es) _ o odds (field end_tag []) _ (rows_by_ceiling k m refl (row_width es) (row_count es) o odds ∙ checked)
    (t.count ∙ rows_are_cells es axes) held.each_odds (row_narrow es b.0)
    ∙ end_back (record { head = plain_head h; odds = odds }) _)
