-- The bytes of a record as the pieces that the moves copy: in both editions the extents and the first pair stand
-- together, then, behind what edition 2 has between, the frame, and behind the mark the rows and the end. On the way up
-- the pairs are written anew. Over any number of axes. Assumes nothing.
use Prim.Native.Nat.{ℕ, ◌+◌, ◌-◌, ◌*◌, ◌<◌}
use mathlib.Core.Bool.{Bool, false}
use mathlib.Core.List.{List, [], ◌∷◌, ◌++◌, append_assoc}
use mathlib.Core.Path.{◌≡◌, refl, sym, ap, ap₂, ◌∙◌}
use native.Mathlib.Omega.{arith}
use lib.Ieee.{Float}
use lib.ListN.{length, length-append, take, drop}
use lib.Seq.{take_at, drop_at}
use Rattle.rules.specs.RefusalNumbers.{given}
use Rattle.rules.specs.RefusalNumbers.Editions.{unstamped}
use Rattle.rules.specs.TheGridAndItsBounds.{Model, Head, Grid, cells}
use Rattle.rules.specs.Fields.{little_endian, word_size, float_bytes, field_size, field}
use Rattle.rules.specs.MapRecord.{Stored, extents_tag, extents_length, extent_bytes, model_tag, model_length, model_bytes, frame_tag, frame_length, end_tag}
use Rattle.rules.specs.MapRecord.{row_length, row_width, row_count, rows_bytes, record_bytes, record_of, rows_offset, record_size}
use Rattle.rules.specs.EditionTwo.{Kept, byte_length, edition_tag, edition_two, open_tag, cuts_for, pairs_bytes, cuts_bytes, bands_bytes, bands_size, row_size, grid_offset, edition_size, edition_bytes, edition_of}
use Rattle.laws.specs.Checks.{InBounds}
use Rattle.rows.proofs.Shapes.{width_some}
use Rattle.record_laws.specs.Words.{AreBytes}
use Rattle.record_laws.specs.Read.{read_again}
use Rattle.record_laws.specs.EditionTwo.Read.{edition_again}
use Rattle.record_laws.specs.EditionTwo.Written.{bands-length}
use Rattle.record_writer.proofs.Fields.{length_extents}
use Rattle.edition_writer.proofs.Rows.{closed_bytes}

-- ---- parts of a list
pub part_of : (p q r bytes : List ℕ) (i n : ℕ) → bytes ≡ p ++ q ++ r → length p ≡ i → length q ≡ n → take n (drop i bytes) ≡ q
part_of p q r bytes i n e l m =
    ap (λ (xs : List ℕ). take n (drop i xs)) (e ∙ append_assoc p q r) ∙ ap (take n) (drop_at p (q ++ r) i l) ∙ take_at q r n m

pub rest_of : (p r bytes : List ℕ) (i : ℕ) → bytes ≡ p ++ r → length p ≡ i → drop i bytes ≡ r
rest_of p r bytes i e l = ap (drop i) e ∙ drop_at p r i l

-- ---- the fields that both editions have
abbrev pub extents_of : Head → List ℕ
extents_of h = field extents_tag (extent_bytes h.extents)

abbrev pub pair_of : Head → List ℕ
pair_of h = field model_tag (model_bytes h.model)

abbrev pub frame_of : Head → List ℕ
frame_of h = field frame_tag (little_endian word_size h.frame)

abbrev pub rows_of : Head → List Float → List ℕ
rows_of h odds = rows_bytes (row_width h.extents) (row_count h.extents) odds ++ field end_tag []

abbrev pub edition : List ℕ
edition = field edition_tag (edition_two ∷ [])

abbrev pub closed_mark : List ℕ
closed_mark = field open_tag (0 ∷ [])

-- where edition 1 has its frame
abbrev pub frame_in : ℕ → ℕ
frame_in axes = field_size (extents_length axes) + field_size model_length

length-pair : (h : Head) → length (pair_of h) ≡ field_size model_length
unfolding little_endian field float_bytes
length-pair h = refl

length-frame : (h : Head) → length (frame_of h) ≡ field_size frame_length
unfolding little_endian field
length-frame h = refl

length-first : (h : Head) (axes : ℕ) → length h.extents ≡ axes → length (extents_of h) ≡ field_size (extents_length axes)
length-first h axes e = length_extents h.extents ∙ ap (λ (n : ℕ). field_size (extents_length n)) e

length-start : (h : Head) (axes : ℕ) → length h.extents ≡ axes → length (extents_of h ++ pair_of h) ≡ frame_in axes
length-start h axes e = length-append (extents_of h) (pair_of h) ∙ ap₂ ◌+◌ (length-first h axes e) (length-pair h)

record_is : (h : Head) (odds : List Float) → record_bytes h odds ≡ extents_of h ++ pair_of h ++ frame_of h ++ rows_of h odds
unfolding record_bytes
record_is h odds = append_assoc (extents_of h ++ pair_of h ++ frame_of h) (rows_bytes (row_width h.extents) (row_count h.extents) odds) (field end_tag [])

-- a closed record of edition 2, and with what stands between the first pair and the frame
edition_by_bands : (h : Head) (g : Grid) → edition_bytes h false g ≡ edition ++ extents_of h ++ bands_bytes h.model ++ frame_of h ++ closed_mark ++ rows_of h g.odds
unfolding edition_bytes
edition_by_bands h g = rw (closed_bytes (row_width h.extents) (row_count h.extents) g.odds g.stamps) (simp append_assoc refl)

edition_is : (h : Head) (g : Grid) (middle : List ℕ) → bands_bytes h.model ≡ pair_of h ++ middle
    → edition_bytes h false g ≡ edition ++ (extents_of h ++ pair_of h) ++ middle ++ frame_of h ++ closed_mark ++ rows_of h g.odds
edition_is h g middle e = edition_by_bands h g ∙ rw e (simp append_assoc refl)

-- ---- an edition 1 record that was read
module _ (axes : ℕ) (bytes : List ℕ) (s : Stored) (e : record_of axes bytes ≡ given s) (b : AreBytes bytes) (count : length s.head.extents ≡ axes) where
  abbrev h : Head
  h = s.head

  whole : bytes ≡ extents_of h ++ pair_of h ++ frame_of h ++ rows_of h s.odds
  whole = sym (read_again axes bytes s e b) ∙ record_is h s.odds

  pub first_is : take (field_size (extents_length axes)) bytes ≡ extents_of h
  first_is =
      ap (take (field_size (extents_length axes))) (whole ∙ simp append_assoc refl)
      ∙ take_at (extents_of h) (pair_of h ++ frame_of h ++ rows_of h s.odds) (field_size (extents_length axes)) (length-first h axes count)

  pub frame_is : take (field_size frame_length) (drop (frame_in axes) bytes) ≡ frame_of h
  frame_is = part_of (extents_of h ++ pair_of h) (frame_of h) (rows_of h s.odds) bytes (frame_in axes) (field_size frame_length) whole (length-start h axes count) (length-frame h)

  pub rows_are : drop (frame_in axes + field_size frame_length) bytes ≡ rows_of h s.odds
  rows_are =
      rest_of (extents_of h ++ pair_of h ++ frame_of h) (rows_of h s.odds) bytes (frame_in axes + field_size frame_length) whole
      (length-append (extents_of h ++ pair_of h) (frame_of h) ∙ ap₂ ◌+◌ (length-start h axes count) (length-frame h))

  -- its bytes in edition 2, as they are copied; the head there may have cuts
  pub moved_up : (k : Head) → k.extents ≡ h.extents → k.frame ≡ h.frame
      → edition_bytes k false (unstamped s.odds)
      ≡ (edition ++ take (field_size (extents_length axes)) bytes) ++ bands_bytes k.model
      ++ (take (field_size frame_length) (drop (frame_in axes) bytes) ++ closed_mark ++ drop (frame_in axes + field_size frame_length) bytes)
  moved_up k es fs = edition_by_bands k (unstamped s.odds) ∙ rw (es, fs, first_is, frame_is, rows_are) (simp append_assoc refl)

-- ---- a closed record of edition 2 that was read
module _ (axes : ℕ) (bytes : List ℕ) (k : Kept) (e : edition_of axes bytes ≡ given k) (b : AreBytes bytes) (count : length k.head.extents ≡ axes)
    (cuts : length k.head.model.above ≡ cuts_for axes) (closed : k.running ≡ false) where
  abbrev top : Head
  top = k.head

  abbrev middle : List ℕ
  middle = pairs_bytes top.model.ceiling top.model.above ++ cuts_bytes top.model.above

  bands_are : bands_bytes top.model ≡ pair_of top ++ middle
  unfolding bands_bytes
  bands_are = append_assoc (pair_of top) (pairs_bytes top.model.ceiling top.model.above) (cuts_bytes top.model.above)

  length_middle : length middle + field_size model_length ≡ bands_size (cuts_for axes)
  length_middle =
      let m : Model = top.model in
      let all = bands-length (cuts_for axes) m cuts in
      let parts = ap length bands_are ∙ length-append (pair_of top) middle in
      let first = length-pair top in
      omega arith

  whole₂ : bytes ≡ edition ++ (extents_of top ++ pair_of top) ++ middle ++ frame_of top ++ closed_mark ++ rows_of top k.grid.odds
  whole₂ =
      sym (edition_again axes bytes k e b) ∙ ap (λ (r : Bool). edition_bytes top r k.grid) closed ∙ edition_is top k.grid middle bands_are

  abbrev place : ℕ
  place = field_size byte_length + frame_in axes + (bands_size (cuts_for axes) - field_size model_length)

  length-edition : length edition ≡ field_size byte_length
  unfolding field little_endian
  length-edition = refl

  length_mark : length closed_mark ≡ field_size byte_length
  unfolding field little_endian
  length_mark = refl

  long : length (edition ++ (extents_of top ++ pair_of top) ++ middle) ≡ place
  long =
      let a = length-append (edition ++ (extents_of top ++ pair_of top)) middle in
      let c = length-append edition (extents_of top ++ pair_of top) in
      let d = length-start top axes count in
      let f = length_middle in
      let g = length-edition in
      omega arith

  pub moved_back : record_bytes top k.grid.odds
      ≡ take (frame_in axes) (drop (field_size byte_length) bytes) ++ take (field_size frame_length) (drop place bytes) ++ drop (place + field_size frame_length + field_size byte_length) bytes
  moved_back =
      let first : take (frame_in axes) (drop (field_size byte_length) bytes) ≡ extents_of top ++ pair_of top =
      part_of edition (extents_of top ++ pair_of top) (middle ++ frame_of top ++ closed_mark ++ rows_of top k.grid.odds) bytes (field_size byte_length) (frame_in axes) (whole₂ ∙ simp append_assoc refl) length-edition (length-start top axes count) in
      let frame : take (field_size frame_length) (drop place bytes) ≡ frame_of top =
      part_of (edition ++ (extents_of top ++ pair_of top) ++ middle) (frame_of top) (closed_mark ++ rows_of top k.grid.odds) bytes place (field_size frame_length) (whole₂ ∙ append_assoc (edition ++ (extents_of top ++ pair_of top) ++ middle ++ frame_of top) closed_mark (rows_of top k.grid.odds)) long (length-frame top) in
      let rows : drop (place + field_size frame_length + field_size byte_length) bytes ≡ rows_of top k.grid.odds =
      rest_of (edition ++ (extents_of top ++ pair_of top) ++ middle ++ frame_of top ++ closed_mark) (rows_of top k.grid.odds) bytes (place + field_size frame_length + field_size byte_length) whole₂
      (length-append (edition ++ (extents_of top ++ pair_of top) ++ middle ++ frame_of top) closed_mark ∙ ap₂ ◌+◌ (length-append (edition ++ (extents_of top ++ pair_of top) ++ middle) (frame_of top) ∙ ap₂ ◌+◌ long (length-frame top)) length_mark) in
      record_is top k.grid.odds ∙ rw (first, frame, rows) refl

-- ---- sizes
pub sizes : (es : List ℕ) (axes : ℕ) → length es ≡ axes
    → edition_size es false + field_size model_length ≡ record_size es + 2 * field_size byte_length + bands_size (cuts_for axes)
unfolding edition_size grid_offset record_size rows_offset
sizes es axes e = let k : row_size false (row_width es) ≡ field_size (row_length (row_width es)) = omega arith in rw (e, k) (omega arith)

-- there is an axis
pub some_axes : (es : List ℕ) (axes : ℕ) → length es ≡ axes → cells es ≡ row_width es * row_count es → InBounds es → 0 < axes
some_axes es axes each by_rows b = rw (sym each) (go es by_rows b)
  where
    go : (es : List ℕ) → cells es ≡ row_width es * row_count es → InBounds es → 0 < length es
    go [] by_rows b = let wide = width_some [] _ _ (record { width_is = refl; count_is = refl; cells_are = by_rows }) b in absurd (omega arith)
    go (x ∷ es) by_rows b = omega arith
