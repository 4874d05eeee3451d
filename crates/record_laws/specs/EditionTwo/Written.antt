-- The bytes of a map in edition 2 are as many as its extents and its mark say. Assumes nothing.
use Rattle.std.specs.Prelude.{ℕ, zero, suc, ◌+◌, ◌*◌, ◌≤◌, ◌<◌, Bool, true, false, List, [], ◌∷◌, ◌++◌, ◌≡◌, refl, length, take, Float}
use Rattle.std.proofs.Math.Option.{none}
use Rattle.std.proofs.Common.{sym, ap, ap₂, ◌∙◌, zero-mul, suc-mul, arith, length-append, length-take-le}
use Rattle.rules.specs.RefusalNumbers.Entries.{head_refusal}
use Rattle.rules.specs.RefusalNumbers.Editions.{uses_of_writing}
use Rattle.rules.specs.TheGridAndItsBounds.{Band, Model, Head, Grid}
use Rattle.rules.specs.Fields.{little_endian, word_size, float_bytes, field_size, field, rows_of}
use Rattle.rules.specs.MapRecord.{extents_tag, extent_bytes, model_tag, model_length, model_bytes, frame_tag, row_tag, row_width, row_count, end_tag}
use Rattle.rules.specs.EditionTwo.{edition_tag, edition_two, cuts_tag, cuts_for, open_tag, open_byte, stamps_tag, stamps_length, stamp_bytes, pairs_bytes, cuts_of, cuts_bytes, bands_bytes}
use Rattle.rules.specs.EditionTwo.{behind_row, grid_bytes, edition_bytes, bands_size, grid_offset, row_size, edition_size}
use Rattle.laws.specs.Checks.{passed}
use Rattle.record_laws.specs.Bytes.{little_endian_length}
use Rattle.record_laws.specs.Numbers.{extent_bytes_length, float_bytes_length, stamp_bytes_length}
use Rattle.record_laws.specs.Fields.{field-length}
use Rattle.record_laws.specs.Rows.{row_length_lem, rows_left}
use Rattle.record_laws.specs.Heads.{rows_are_cells}
use Rattle.record_laws.specs.Back.{model_floats}

-- ---- the pairs and the cuts
pairs_length : (c : Float) (bs : List Band) → length (pairs_bytes c bs) ≡ length bs * field_size model_length
unfolding pairs_bytes
pairs_length c [] = refl
pairs_length c (b ∷ bs) =
    let numbers = b.pair.occupied ∷ b.pair.free ∷ c ∷ [] in
    length-append (field model_tag (float_bytes numbers)) (pairs_bytes c bs)
    ∙ ap₂ ◌+◌ (field-length model_tag (float_bytes numbers) ∙ ap field_size (float_bytes_length numbers)) (pairs_length c bs)
    ∙ omega arith

pub cuts_of_length : (bs : List Band) → length (cuts_of bs) ≡ length bs
unfolding cuts_of
cuts_of_length [] = refl
cuts_of_length (b ∷ bs) = ap suc (cuts_of_length bs)

cuts-length : (n : ℕ) (bs : List Band) → length bs ≡ n → field_size model_length + n * field_size model_length + length (cuts_bytes bs) ≡ bands_size n
unfolding bands_size
cuts-length zero [] e = refl
cuts-length zero (b ∷ bs) e = absurd (omega arith)
cuts-length (suc n) [] e = absurd (omega arith)
cuts-length (suc n) (b ∷ bs) e =
    ap (λ (k : ℕ). field_size model_length + suc n * field_size model_length + k)
    (field-length cuts_tag (extent_bytes (cuts_of (b ∷ bs)))
    ∙ ap field_size (extent_bytes_length (cuts_of (b ∷ bs)) ∙ ap (λ (k : ℕ). 2 * k) (cuts_of_length (b ∷ bs) ∙ e)))

pub bands-length : (n : ℕ) (m : Model) → length m.above ≡ n → length (bands_bytes m) ≡ bands_size n
unfolding bands_bytes
bands-length n m e =
    let lowest = field model_tag (model_bytes m) in
    length-append (lowest ++ pairs_bytes m.ceiling m.above) (cuts_bytes m.above)
    ∙ ap (λ (k : ℕ). k + length (cuts_bytes m.above))
    (length-append lowest (pairs_bytes m.ceiling m.above)
    ∙ ap₂ ◌+◌ (field-length model_tag (model_bytes m) ∙ ap field_size (float_bytes_length (model_floats m)))
    (pairs_length m.ceiling m.above ∙ ap (λ (k : ℕ). k * field_size model_length) e))
    ∙ cuts-length n m.above e

-- ---- the rows
pub stamps_row_length : (w : ℕ) (ss : List ℕ) → w ≤ length ss → length (stamp_bytes (take w ss)) ≡ stamps_length w
stamps_row_length w ss l = stamp_bytes_length (take w ss) ∙ ap (λ (k : ℕ). 4 * k) (length-take-le w ss l)

pub grid-length : (running : Bool) (w n : ℕ) (g : Grid) → length g.odds ≡ n * w → (running ≡ true → length g.stamps ≡ n * w)
    → length (grid_bytes running w n g) ≡ n * row_size running w
unfolding grid_bytes rows_of
grid-length running w zero g e f = sym (zero-mul (row_size running w))
grid-length false w (suc n) g e f =
    let r = rows_left w n g.odds e in
    let row = field row_tag (float_bytes (take w g.odds)) in
    length-append (row ++ []) (grid_bytes false w n (behind_row w g))
    ∙ ap₂ ◌+◌
    (length-append row [] ∙ ap (λ (k : ℕ). k + 0) (field-length row_tag (float_bytes (take w g.odds)) ∙ ap field_size (row_length_lem w g.odds r.0)))
    (grid-length false w n (behind_row w g) r.1 (λ h. let z : ◌≡◌ {A = ℕ} 0 1 = cc in absurd (omega arith)))
    ∙ sym (suc-mul n (row_size false w) ∙ omega arith)
grid-length true w (suc n) g e f =
    let r = rows_left w n g.odds e in
    let s = rows_left w n g.stamps (f refl) in
    let row = field row_tag (float_bytes (take w g.odds)) in
    let behind = field stamps_tag (stamp_bytes (take w g.stamps)) in
    length-append (row ++ behind) (grid_bytes true w n (behind_row w g))
    ∙ ap₂ ◌+◌
    (length-append row behind
    ∙ ap₂ ◌+◌ (field-length row_tag (float_bytes (take w g.odds)) ∙ ap field_size (row_length_lem w g.odds r.0))
    (field-length stamps_tag (stamp_bytes (take w g.stamps)) ∙ ap field_size (stamps_row_length w g.stamps s.0)))
    (grid-length true w n (behind_row w g) r.1 (λ h. s.1))
    ∙ sym (suc-mul n (row_size true w) ∙ omega arith)

-- ---- the whole
-- A map that writing does not refuse has as many bytes in edition 2 as its extents and its mark say.
pub edition-length : (h : Head) (running : Bool) (g : Grid) → length h.model.above ≡ cuts_for (length h.extents) → 0 < length h.extents
    → head_refusal (uses_of_writing running) h (length g.odds) (length g.stamps) ≡ none
    → length (edition_bytes h running g) ≡ edition_size h.extents running
unfolding edition_bytes edition_size grid_offset
edition-length h running g cuts axes passes =
    let es = h.extents in
    let p = passed (uses_of_writing running) h (length g.odds) (length g.stamps) passes in
    let one_each = rows_are_cells es axes in
    let rows = grid-length running (row_width es) (row_count es) g (p.odds_count tt ∙ one_each) (λ t. p.stamps_count (rw t tt) ∙ one_each) in
    let a = field edition_tag (edition_two ∷ []) in
    let b = field extents_tag (extent_bytes es) in
    let c = bands_bytes h.model in
    let d = field frame_tag (little_endian word_size h.frame) in
    let e = field open_tag (open_byte running ∷ []) in
    let f = grid_bytes running (row_width es) (row_count es) g in
    length-append (a ++ b ++ c ++ d ++ e ++ f) (field end_tag [])
    ∙ ap₂ ◌+◌
    (length-append (a ++ b ++ c ++ d ++ e) f
    ∙ ap₂ ◌+◌
    (length-append (a ++ b ++ c ++ d) e
    ∙ ap₂ ◌+◌
    (length-append (a ++ b ++ c) d
    ∙ ap₂ ◌+◌
    (length-append (a ++ b) c
    ∙ ap₂ ◌+◌
    (length-append a b
    ∙ ap₂ ◌+◌ (field-length edition_tag (edition_two ∷ [])) (field-length extents_tag (extent_bytes es) ∙ ap field_size (extent_bytes_length es)))
    (bands-length (cuts_for (length es)) h.model cuts))
    (field-length frame_tag (little_endian word_size h.frame) ∙ ap field_size (little_endian_length word_size h.frame)))
    (field-length open_tag (open_byte running ∷ [])))
    rows)
    (field-length end_tag [])
