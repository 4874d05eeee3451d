-- Trying a record of edition 2 field by field, as the code goes: each is sound and the next one is tried, or it is
-- where the record is broken. Assumes nothing.
use Prim.Native.Nat.{ℕ, zero, suc, ◌+◌, ◌*◌, ◌≤◌}
use mathlib.Core.Bool.{Bool, true, false, ◌&&◌}
use mathlib.Core.List.{List}
use mathlib.Core.Option.{Option, some, none}
use mathlib.Core.Path.{◌≡◌, refl, sym, ap, ap₂, ◌∙◌}
use native.Mathlib.Omega.{arith}
use lib.Ieee.{Float}
use lib.ListN.{length, length-drop, drop}
use lib.Seq.{drop-drop}
use Rattle.rules.specs.RefusalNumbers.{Refusal, broken_record}
use Rattle.rules.specs.RefusalNumbers.Entries.{or_else}
use Rattle.rules.specs.TheGridAndItsBounds.{Model, cuts_in_bounds}
use Rattle.rules.specs.Fields.{floats_in, head_size, field_size, field_here, contents, sound_here}
use Rattle.rules.specs.MapRecord.{extents_length, extents_field, model_length, model_field, frame_length, frame_field, row_tag, row_length, row_field}
use Rattle.rules.specs.EditionTwo.{Kept, byte_length, edition_field, pair_field, cuts_tag, cuts_length, cuts_for, open_field, marks_running, stamps_field, row_size, bands_size, edition_of}
use Rattle.rows.specs.Rows.{refusal_in, unless_sound, rows_broken, rows_refusal}
use Rattle.rows.proofs.Shapes.{Shape}
use Rattle.rows.proofs.Odds.{odds_by_ceiling}
use Rattle.open_rows.specs.OpenRows.{open_refusal}
use Rattle.record_reader.specs.Reading.{end_refusal, rows_and_end}
use Rattle.edition_reader.specs.Editions.{open_and_end, after_frame, after_bands, cuts_at, cuts_broken, bands_broken, bands_here, after_extents, extents_here}
use Rattle.edition_reader.proofs.Bands.{bands_part}
use Rattle.edition_reader.proofs.Sounds.{edition_refusal}

-- ---- the rows and the end
module _ (m : Model) (frame w n at : ℕ) (bs : List ℕ) where
  pub open_off : (r : Refusal) → some r ≡ open_refusal m frame w n at (drop at bs) → some r ≡ open_and_end m frame w n at (drop at bs)
  unfolding open_and_end
  open_off r e = rw (sym e) refl

  pub open_end : none ≡ open_refusal m frame w n at (drop at bs)
      → end_refusal (at + n * row_size true w) (drop (at + n * row_size true w) bs) ≡ open_and_end m frame w n at (drop at bs)
  unfolding open_and_end
  open_end e = rw (sym e, drop-drop (n * row_size true w) at bs) refl

  -- ---- the mark
  pub mark_off : sound_here open_field (drop at bs) ≡ false → after_frame m frame w n at (drop at bs) ≡ some (broken_record at)
  unfolding after_frame
  mark_off e = rw e refl

  pub open_next : sound_here open_field (drop at bs) ≡ true → marks_running (contents open_field (drop at bs)) ≡ true
      → after_frame m frame w n at (drop at bs) ≡ open_and_end m frame w n (at + field_size byte_length) (drop (at + field_size byte_length) bs)
  unfolding after_frame
  open_next e f = rw (e, f, drop-drop (field_size byte_length) at bs) refl

  pub closed_next : sound_here open_field (drop at bs) ≡ true → marks_running (contents open_field (drop at bs)) ≡ false
      → after_frame m frame w n at (drop at bs) ≡ rows_and_end m w n (at + field_size byte_length) (drop (at + field_size byte_length) bs)
  unfolding after_frame
  closed_next e f = rw (e, f, drop-drop (field_size byte_length) at bs) refl

-- ---- the frame
module _ (m : Model) (w n at : ℕ) (bs : List ℕ) where
  pub frame_off : sound_here frame_field (drop at bs) ≡ false → after_bands m w n at (drop at bs) ≡ some (broken_record at)
  unfolding after_bands
  frame_off e = rw e refl

  pub mark_next : (frame : ℕ) → frame ≡ contents frame_field (drop at bs) → sound_here frame_field (drop at bs) ≡ true
      → after_bands m w n at (drop at bs) ≡ after_frame m frame w n (at + field_size frame_length) (drop (at + field_size frame_length) bs)
  unfolding after_bands
  mark_next frame is e = rw (e, is, drop-drop (field_size frame_length) at bs) refl

-- the rows are tried by the ceiling alone
module _ (m k : Model) (same : m.ceiling ≡ k.ceiling) where
  row_by_ceiling : (w : ℕ) (rest : List ℕ) → sound_here (row_field m w) rest ≡ sound_here (row_field k w) rest
  row_by_ceiling w rest = ap (λ (b : Bool). field_here row_tag (row_length w) rest && b) (odds_by_ceiling m k same (floats_in w (drop head_size rest)))

  closed_by_ceiling : (w n offset : ℕ) (rest : List ℕ) → rows_refusal m w n offset rest ≡ rows_refusal k w n offset rest
  unfolding rows_refusal
  closed_by_ceiling w zero offset rest = refl
  closed_by_ceiling w (suc n) offset rest =
      ap₂ (unless_sound offset) (row_by_ceiling w rest) (closed_by_ceiling w n (offset + field_size (row_length w)) (drop (field_size (row_length w)) rest))

  open_by_ceiling : (frame w n offset : ℕ) (rest : List ℕ) → open_refusal m frame w n offset rest ≡ open_refusal k frame w n offset rest
  unfolding open_refusal
  open_by_ceiling frame w zero offset rest = refl
  open_by_ceiling frame w (suc n) offset rest =
      ap₂ (λ (b : Bool) (x : Option Refusal). unless_sound offset b (unless_sound (offset + field_size (row_length w)) (sound_here (stamps_field frame w) (drop (field_size (row_length w)) rest)) x))
      (row_by_ceiling w rest) (open_by_ceiling frame w n (offset + row_size true w) (drop (row_size true w) rest))

  pub by_ceiling : (w n offset : ℕ) (rest : List ℕ) → after_bands m w n offset rest ≡ after_bands k w n offset rest
  unfolding after_bands after_frame open_and_end rows_and_end
  by_ceiling w n offset rest =
      rw (
        closed_by_ceiling w n (offset + field_size frame_length + field_size byte_length) (drop (field_size byte_length) (drop (field_size frame_length) rest)),
        open_by_ceiling (contents frame_field rest) w n (offset + field_size frame_length + field_size byte_length) (drop (field_size byte_length) (drop (field_size frame_length) rest)),
      ) refl

-- ---- the bands
-- there is a pair, whose ceiling all have
pub bands_some : (n : ℕ) → field_size model_length ≤ bands_size n
unfolding bands_size
bands_some zero = omega arith
bands_some (suc n) = omega arith

ceiling_is : (n : ℕ) (es rest : List ℕ) → (contents model_field rest).ceiling ≡ (bands_here n es rest).ceiling
unfolding bands_here
ceiling_is zero es rest = refl
ceiling_is (suc n) es rest = refl

module _ (es : List ℕ) (at : ℕ) (bs : List ℕ) where
  abbrev rest : List ℕ
  rest = drop at bs

  abbrev size : ℕ
  size = field_size model_length

  -- one pair
  pub pair_off : sound_here model_field (drop at bs) ≡ false → bands_broken 0 es at (drop at bs) ≡ some (broken_record at)
  unfolding bands_broken
  pair_off e = rw e refl

  pub pair_on : sound_here model_field (drop at bs) ≡ true → bands_broken 0 es at (drop at bs) ≡ none
  unfolding bands_broken
  pair_on e = rw e refl

  -- three pairs and the cuts
  abbrev ceiling : Float
  ceiling = (contents model_field rest).ceiling

  abbrev tests : Bool → Bool → Option Refusal
  tests x y = unless_sound at (sound_here model_field rest) (unless_sound (at + size) x (unless_sound (at + size + size) y (cuts_broken 2 es at rest)))

  bands_by : bands_broken 2 es at rest ≡ tests (sound_here (pair_field ceiling) (drop size rest)) (sound_here (pair_field ceiling) (drop size (drop size rest)))
  unfolding bands_broken rows_broken
  bands_by =
      by_tests (sound_here model_field rest) (sound_here (pair_field ceiling) (drop size rest)) (sound_here (pair_field ceiling) (drop size (drop size rest))) (cuts_broken 2 es at rest)
    where
      by_tests : (x y z : Bool) (last : Option Refusal)
          → or_else (unless_sound at x none) (or_else (or_else (unless_sound (at + size) y none) (or_else (unless_sound (at + size + size) z none) none)) last)
          ≡ unless_sound at x (unless_sound (at + size) y (unless_sound (at + size + size) z last))
      by_tests true true true last = refl
      by_tests true true false last = refl
      by_tests true false z last = refl
      by_tests false y z last = refl

  bands_are : bands_broken 2 es at (drop at bs)
      ≡ unless_sound at (sound_here model_field (drop at bs))
      (unless_sound (at + field_size model_length) (sound_here (pair_field (contents model_field (drop at bs)).ceiling) (drop (at + field_size model_length) bs))
      (unless_sound (at + field_size model_length + field_size model_length) (sound_here (pair_field (contents model_field (drop at bs)).ceiling) (drop (at + field_size model_length + field_size model_length) bs))
      (cuts_broken 2 es at (drop at bs))))
  bands_are =
      bands_by
      ∙ ap₂ tests (ap (sound_here (pair_field ceiling)) (drop-drop size at bs))
      (ap (sound_here (pair_field ceiling)) (ap (drop size) (drop-drop size at bs) ∙ drop-drop size (at + size) bs))

  pub low_off : sound_here model_field (drop at bs) ≡ false → bands_broken 2 es at (drop at bs) ≡ some (broken_record at)
  low_off e = bands_are ∙ rw e refl

  module _ (top : Float) (is : top ≡ (contents model_field (drop at bs)).ceiling) (low : sound_here model_field (drop at bs) ≡ true) where
    pub middle_off : sound_here (pair_field top) (drop (at + field_size model_length) bs) ≡ false
        → bands_broken 2 es at (drop at bs) ≡ some (broken_record (at + field_size model_length))
    middle_off e = bands_are ∙ rw (low, sym is, e) refl

    module _ (middle : sound_here (pair_field top) (drop (at + field_size model_length) bs) ≡ true) where
      pub high_off : sound_here (pair_field top) (drop (at + field_size model_length + field_size model_length) bs) ≡ false
          → bands_broken 2 es at (drop at bs) ≡ some (broken_record (at + field_size model_length + field_size model_length))
      high_off e = bands_are ∙ rw (low, sym is, middle, e) refl

      pub cuts_next : sound_here (pair_field top) (drop (at + field_size model_length + field_size model_length) bs) ≡ true
          → bands_broken 2 es at (drop at bs) ≡ cuts_broken 2 es at (drop at bs)
      cuts_next e = bands_are ∙ rw (low, sym is, middle, e) refl

  -- the cuts' field, by its head and by its test
  cuts_are : cuts_broken 2 es at (drop at bs)
      ≡ unless_sound (at + cuts_at 2) (field_here cuts_tag (cuts_length 2) (drop (at + cuts_at 2) bs) && cuts_in_bounds es (bands_here 2 es (drop at bs))) none
  unfolding bands_here
  cuts_are = rw (drop-drop (cuts_at 2) at bs) refl

  pub cuts_absent : field_here cuts_tag (cuts_length 2) (drop (at + cuts_at 2) bs) ≡ false → cuts_broken 2 es at (drop at bs) ≡ some (broken_record (at + cuts_at 2))
  cuts_absent e = cuts_are ∙ rw e refl

  pub cuts_off : (m : Model) → m ≡ bands_here 2 es (drop at bs) → field_here cuts_tag (cuts_length 2) (drop (at + cuts_at 2) bs) ≡ true → cuts_in_bounds es m ≡ false
      → cuts_broken 2 es at (drop at bs) ≡ some (broken_record (at + cuts_at 2))
  cuts_off m is e f = cuts_are ∙ rw (e, sym is, f) refl

  pub cuts_sound : (m : Model) → m ≡ bands_here 2 es (drop at bs) → field_here cuts_tag (cuts_length 2) (drop (at + cuts_at 2) bs) ≡ true → cuts_in_bounds es m ≡ true
      → cuts_broken 2 es at (drop at bs) ≡ none
  cuts_sound m is e f = cuts_are ∙ rw (e, sym is, f) refl

  -- behind them, however many there are
  module _ (n : ℕ) where
    pub bands_fit : none ≡ bands_broken n es at (drop at bs) → at + bands_size n ≤ length bs
    bands_fit e = let r = (bands_part {B = Kept} n es).room at (drop at bs) (sym e) in omega (arith, length-drop at bs, bands_some n)

    pub bands_off : (r : Refusal) → some r ≡ bands_broken n es at (drop at bs) → some r ≡ after_extents n es at (drop at bs)
    unfolding after_extents
    bands_off r e = rw (sym e) refl

    pub bands_next : (w k : ℕ) → Shape es w k → (m : Model) → m ≡ contents model_field (drop at bs) → none ≡ bands_broken n es at (drop at bs)
        → after_bands m w k (at + bands_size n) (drop (at + bands_size n) bs) ≡ after_extents n es at (drop at bs)
    unfolding after_extents
    bands_next w k s m is e =
        by_ceiling m (bands_here n es (drop at bs)) (ap (λ (x : Model). x.ceiling) is ∙ ceiling_is n es (drop at bs)) w k (at + bands_size n) (drop (at + bands_size n) bs)
        ∙ rw (sym e, s.width_is, s.count_is, drop-drop (bands_size n) at bs) refl

-- ---- the edition and the extents
module _ (axes : ℕ) (bytes : List ℕ) where
  pub edition_off : sound_here edition_field bytes ≡ false → refusal_in (edition_of axes bytes) ≡ some (broken_record 0)
  edition_off e = edition_refusal axes bytes ∙ rw e refl

  pub extents_off : sound_here edition_field bytes ≡ true → sound_here (extents_field axes) (drop (field_size byte_length) bytes) ≡ false
      → refusal_in (edition_of axes bytes) ≡ some (broken_record (field_size byte_length))
  extents_off e f = edition_refusal axes bytes ∙ rw (e, f) refl

  -- behind the extents, where the code finds that they end
  pub extents_held : (start : ℕ) → start ≡ field_size (extents_length axes) → (es : List ℕ) → es ≡ extents_here axes bytes
      → sound_here edition_field bytes ≡ true → sound_here (extents_field axes) (drop (field_size byte_length) bytes) ≡ true
      → refusal_in (edition_of axes bytes) ≡ after_extents (cuts_for axes) es (field_size byte_length + start) (drop (field_size byte_length + start) bytes)
  extents_held start there es is e f = edition_refusal axes bytes ∙ rw (e, f, is, there) refl
