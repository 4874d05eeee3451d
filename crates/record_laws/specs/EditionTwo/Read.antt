-- A record of edition 2 read: what is known of its fields, that writing its map gives the same bytes, and that its map
-- may be written again. Assumes nothing.
use Rattle.std.specs.Prelude.{ℕ, zero, suc, ◌*◌, ◌≤◌, ◌<◌, Bool, true, List, [], ◌∷◌, ◌++◌, ◌≡◌, refl, leb, length, drop, replicate}
use Rattle.std.proofs.Common.{append_assoc, sym, ap, ap₂, ◌∙◌, subst, mod-eq_of_lt, arith}
use Rattle.std.proofs.Math.ListN.{length-drop}
use borrow.Author.Tests.{eqb-true, le-leb, leb-true}
use Rattle.rules.specs.RefusalNumbers.{given}
use Rattle.rules.specs.RefusalNumbers.Editions.{uses_of_writing}
use Rattle.rules.specs.TheGridAndItsBounds.{Model, Head, Grid, cells, extents_in_bounds}
use Rattle.rules.specs.MarksAndFrames.{open_frame}
use Rattle.rules.specs.Fields.{little_endian, from_little_endian, word_size, head_size, field_size, field, contents}
use Rattle.rules.specs.MapRecord.{extents_tag, extents_length, extents_field, frame_tag, frame_length, frame_field, row_width, row_count, end_then}
use Rattle.rules.specs.EditionTwo.{byte_length, edition_tag, edition_two, edition_field, cuts_for, open_tag, open_byte, open_field, marks_running, bands_size, bands_bytes}
use Rattle.rules.specs.EditionTwo.{row_then, row_size, grid_of_rows, grid_bytes, edition_bytes, Kept, kept, rows_and_end, edition_of, grid_offset, edition_size, edition_room, edition_writable}
use Rattle.record_laws.specs.Words.{IsByte, AreBytes, Held}
use Rattle.record_laws.specs.Each.{each_drop}
use Rattle.record_laws.specs.Bytes.{little_endian_again}
use Rattle.record_laws.specs.Numbers.{extents_in_length, extents_again}
use Rattle.record_laws.specs.Fields.{Found, field_again, field_given}
use Rattle.record_laws.specs.Rows.{EndRead, end_given}
use Rattle.record_laws.specs.Heads.{rows_are_cells, tests_of_lem, edition_passes}
use Rattle.record_laws.specs.EditionTwo.Words.{SoundEdition}
use Rattle.record_laws.specs.EditionTwo.Parts.{parts_given}
use Rattle.record_laws.specs.EditionTwo.Bands.{BandsRead, bands_given}
use Rattle.record_laws.specs.EditionTwo.Grids.{in_four_bytes, RowRead, row_given, grid_with, GridRead, grid_read}

-- ---- a field of one byte
byte_again : (tag v : ℕ) (rest : List ℕ) → Found tag byte_length rest → from_little_endian byte_length (drop head_size rest) ≡ v → v < 256 → AreBytes rest
    → field tag (v ∷ []) ++ drop (field_size byte_length) rest ≡ rest
unfolding little_endian
byte_again tag v rest f is l b =
    let whole = f.whole in
    let one : v ∷ [] ≡ little_endian 1 v = ap (λ (x : ℕ). x ∷ []) (sym (mod-eq_of_lt l)) in
    ap (λ (x : List ℕ). field tag x ++ drop (field_size byte_length) rest)
    (one
    ∙ ap (little_endian 1) (sym is)
    ∙ little_endian_again 1 (drop head_size rest) (each_drop IsByte 0 head_size rest b) (omega (arith, length-drop head_size rest)))
    ∙ field_again tag byte_length rest b f

-- the mark that was read is the byte that is written for it
mark_is : (n : ℕ) → leb n 1 ≡ true → open_byte (marks_running n) ≡ n
mark_is zero e = refl
mark_is (suc zero) e = refl
mark_is (suc (suc n)) e = let l = leb-true (suc (suc n)) 1 e in absurd (omega arith)

-- ---- the fields
-- the bytes behind each field or group of fields, and what stands in them
abbrev behind_edition : List ℕ → List ℕ
behind_edition bytes = drop (field_size byte_length) bytes

abbrev behind_extents : ℕ → List ℕ → List ℕ
behind_extents axes bytes = drop (field_size (extents_length axes)) (behind_edition bytes)

abbrev behind_bands : ℕ → List ℕ → List ℕ
behind_bands axes bytes = drop (bands_size (cuts_for axes)) (behind_extents axes bytes)

abbrev behind_frame : ℕ → List ℕ → List ℕ
behind_frame axes bytes = drop (field_size frame_length) (behind_bands axes bytes)

abbrev behind_mark : ℕ → List ℕ → List ℕ
behind_mark axes bytes = drop (field_size byte_length) (behind_frame axes bytes)

abbrev extents_at : ℕ → List ℕ → List ℕ
extents_at axes bytes = contents (extents_field axes) (behind_edition bytes)

abbrev running_at : ℕ → List ℕ → Bool
running_at axes bytes = marks_running (contents open_field (behind_frame axes bytes))

abbrev head_at : ℕ → List ℕ → Model → Head
head_at axes bytes m = record { extents = extents_at axes bytes; model = m; frame = contents frame_field (behind_bands axes bytes) }

abbrev rows_size : ℕ → List ℕ → ℕ
rows_size axes bytes = row_count (extents_at axes bytes) * row_size (running_at axes bytes) (row_width (extents_at axes bytes))

abbrev behind_rows : ℕ → List ℕ → List ℕ
behind_rows axes bytes = drop (rows_size axes bytes) (behind_mark axes bytes)

-- what is known of the fields of a record, in terms of its bytes
record Parts (axes : ℕ) (bytes : List ℕ) (k : Kept) : Type 0 where
  edition_found : Found edition_tag byte_length bytes
  edition_is : from_little_endian byte_length (drop head_size bytes) ≡ edition_two
  extents_found : Found extents_tag (extents_length axes) (behind_edition bytes)
  extents_sound : extents_in_bounds (extents_at axes bytes) ≡ true
  model : Model
  bands : BandsRead (cuts_for axes) (extents_at axes bytes) (behind_extents axes bytes) model
  frame_found : Found frame_tag frame_length (behind_bands axes bytes)
  frame_sound : open_frame (contents frame_field (behind_bands axes bytes)) ≡ true
  mark_found : Found open_tag byte_length (behind_frame axes bytes)
  mark_sound : leb (contents open_field (behind_frame axes bytes)) 1 ≡ true
  grid : Grid
  rows : GridRead model (contents frame_field (behind_bands axes bytes)) (row_width (extents_at axes bytes)) (running_at axes bytes)
      (row_count (extents_at axes bytes)) (behind_mark axes bytes) (replicate (cells (extents_at axes bytes)) 0) grid
  end : EndRead (behind_rows axes bytes) (record { head = head_at axes bytes model; running = running_at axes bytes; grid = grid }) k

parts : (axes : ℕ) (bytes : List ℕ) (k : Kept) → edition_of axes bytes ≡ given k → Parts axes bytes k
unfolding edition_of rows_and_end
parts axes bytes k e =
    let v = field_given edition_field _ 0 bytes k e in
    let x = field_given (extents_field axes) _ _ (behind_edition bytes) k v.after in
    let es = extents_at axes bytes in
    let y = bands_given (cuts_for axes) es _ _ (behind_extents axes bytes) k x.after in
    let m = y.model in
    let z = field_given frame_field _ _ (behind_bands axes bytes) k y.after in
    let frame = contents frame_field (behind_bands axes bytes) in
    let t = field_given open_field _ _ (behind_frame axes bytes) k z.after in
    let running = running_at axes bytes in
    let w = row_width es in
    let r = parts_given (row_size running w) (RowRead m frame w running) (row_then running m frame w) (row_given m frame w running) (row_count es)
    (λ gs. end_then (kept (head_at axes bytes m) running (grid_of_rows gs))) _ (behind_mark axes bytes) k t.after in
    let zeros : List ℕ = replicate (cells es) 0 in
    record {
      edition_found = v.is_found;
      edition_is = eqb-true _ _ v.is_sound;
      extents_found = x.is_found;
      extents_sound = x.is_sound;
      model = m;
      bands = y.bands;
      frame_found = z.is_found;
      frame_sound = z.is_sound;
      mark_found = t.is_found;
      mark_sound = t.is_sound;
      grid = grid_with running r.them zeros;
      rows = subst (λ (n : ℕ). GridRead m frame w running n (behind_mark axes bytes) zeros (grid_with running r.them zeros)) r.many
          (grid_read m frame w running (behind_mark axes bytes) r.them zeros r.all);
      end = end_given _ _ (behind_rows axes bytes) k r.after;
    }

-- ---- writing it again gives the bytes
parts_again : (axes : ℕ) (bytes : List ℕ) (k : Kept) (p : Parts axes bytes k) → AreBytes bytes
    → edition_bytes (head_at axes bytes p.model) (running_at axes bytes) p.grid ≡ bytes
unfolding edition_bytes
parts_again axes bytes k p b =
    let rest₁ = behind_edition bytes in
    let rest₂ = behind_extents axes bytes in
    let rest₃ = behind_bands axes bytes in
    let rest₄ = behind_frame axes bytes in
    let rest₅ = behind_mark axes bytes in
    let b₁ = each_drop IsByte 0 (field_size byte_length) bytes b in
    let b₂ = each_drop IsByte 0 (field_size (extents_length axes)) rest₁ b₁ in
    let b₃ = each_drop IsByte 0 (bands_size (cuts_for axes)) rest₂ b₂ in
    let b₄ = each_drop IsByte 0 (field_size frame_length) rest₃ b₃ in
    let b₅ = each_drop IsByte 0 (field_size byte_length) rest₄ b₄ in
    let b₆ = each_drop IsByte 0 (rows_size axes bytes) rest₅ b₅ in
    let i = p.extents_found.whole in
    let j = p.frame_found.whole in
    let n = contents open_field rest₄ in
    let low : n ≤ 1 = leb-true n 1 p.mark_sound in
    let mark = mark_is n p.mark_sound in
    simp append_assoc
    (ap (λ (x : List ℕ). field edition_tag (edition_two ∷ []) ++ x)
    (ap₂ (λ (x y : List ℕ). field extents_tag x ++ y)
    (extents_again axes (drop head_size rest₁) (each_drop IsByte 0 head_size rest₁ b₁) (omega (arith, length-drop head_size rest₁)))
    (ap (λ (x : List ℕ). bands_bytes p.model ++ x)
    (ap₂ (λ (x y : List ℕ). field frame_tag x ++ y)
    (little_endian_again word_size (drop head_size rest₃) (each_drop IsByte 0 head_size rest₃ b₃) (omega (arith, length-drop head_size rest₃)))
    (ap (λ (x : List ℕ). field open_tag (open_byte (running_at axes bytes) ∷ []) ++ x)
    (ap (λ (x : List ℕ). grid_bytes (running_at axes bytes) (row_width (extents_at axes bytes)) (row_count (extents_at axes bytes)) p.grid ++ x) (p.end.again b₆)
    ∙ p.rows.again b₅)
    ∙ byte_again open_tag (open_byte (running_at axes bytes)) rest₄ p.mark_found (sym mark) (omega arith) b₄)
    ∙ field_again frame_tag frame_length rest₃ b₃ p.frame_found)
    ∙ p.bands.again b₂)
    ∙ field_again extents_tag (extents_length axes) rest₁ b₁ p.extents_found)
    ∙ byte_again edition_tag edition_two bytes p.edition_found p.edition_is (omega arith) b)

-- A map that was read from a record of edition 2 is written as the same bytes, with the mark that was read. (A closed
-- record has no rows of stamps: the zeros that reading gives for them are not written.)
pub edition_again : (axes : ℕ) (bytes : List ℕ) (k : Kept) → edition_of axes bytes ≡ given k → AreBytes bytes
    → edition_bytes k.head k.running k.grid ≡ bytes
edition_again axes bytes k e b =
    let p = parts axes bytes k e in
    subst (λ (x : Kept). edition_bytes x.head x.running x.grid ≡ bytes) p.end.is (parts_again axes bytes k p b)

-- ---- the map may be written again
module _ (axes : ℕ) (bytes : List ℕ) (k : Kept) (p : Parts axes bytes k) where
  size_of : length bytes ≡ edition_size (extents_at axes bytes) (running_at axes bytes)
  unfolding edition_size grid_offset
  size_of =
      let a = extents_in_length axes (drop head_size (behind_edition bytes)) in
      let u = length-drop (field_size byte_length) bytes in
      let v = length-drop (field_size (extents_length axes)) (behind_edition bytes) in
      let w = length-drop (bands_size (cuts_for axes)) (behind_extents axes bytes) in
      let x = length-drop (field_size frame_length) (behind_bands axes bytes) in
      let y = length-drop (field_size byte_length) (behind_frame axes bytes) in
      let z = length-drop (rows_size axes bytes) (behind_mark axes bytes) in
      let r = p.rows.whole in
      let e = p.end.size in
      let f = p.edition_found.whole in
      let g = p.extents_found.whole in
      let h = p.bands.whole in
      let i = p.frame_found.whole in
      let j = p.mark_found.whole in
      rw a (omega arith)

  held_of : Held (head_at axes bytes p.model) p.grid.odds
  held_of =
      let h = p.bands.held in
      record { occupied = h.occupied; free = h.free; ceiling = h.ceiling; above = p.bands.above; layer = p.bands.layer; each_odds = p.rows.held }

  sound_of : 0 < axes → SoundEdition axes bytes (record { head = head_at axes bytes p.model; running = running_at axes bytes; grid = p.grid })
  sound_of some-axis =
      let es = extents_at axes bytes in
      let running = running_at axes bytes in
      let a = extents_in_length axes (drop head_size (behind_edition bytes)) in
      let one_each = rows_are_cells es (omega arith) in
      let passes = edition_passes running (head_at axes bytes p.model) (length p.grid.odds) (length p.grid.stamps) (record {
        extents = p.extents_sound;
        model = p.bands.sound;
        cuts = p.bands.cuts;
        frame = p.frame_sound;
        count = p.rows.odds-length ∙ sym one_each;
      })
      (λ e. p.rows.stamps-length e ∙ sym one_each) in
      let low = (tests_of_lem (uses_of_writing running) (head_at axes bytes p.model) (length p.grid.odds) (length p.grid.stamps) tt tt tt passes).2 in
      record {
        axes_are = a;
        size_is = size_of;
        cuts_are = p.bands.many;
        passes = passes;
        tried = p.rows.tried;
        written = λ room l. unfold edition_writable edition_room in
            rw (p.rows.tried (grid_offset (length es)), le-leb (edition_size es running) room (omega (arith, size_of))) (ap given (sym size_of));
        held = held_of;
        numbers = p.rows.numbers;
        stamps-held = λ e. in_four_bytes _ p.grid.stamps low (p.rows.none_above_lem e);
        stamps_fit = p.rows.none_above_lem;
        stamps-none = p.rows.closed;
      }

-- A record of edition 2 that was read is as long as its extents and its mark say, and its map passes every check of
-- writing.
pub edition_sound : (axes : ℕ) (bytes : List ℕ) (k : Kept) → 0 < axes → edition_of axes bytes ≡ given k → SoundEdition axes bytes k
edition_sound axes bytes k some-axis e =
    let p = parts axes bytes k e in subst (λ (x : Kept). SoundEdition axes bytes x) p.end.is (sound_of axes bytes k p some-axis)
