-- Reading a sound record of edition 2 by the width and the number of its rows. Over any number of axes. Assumes
-- nothing.
use Prim.Native.Nat.{ℕ, ◌+◌, ◌*◌, ◌≤◌}
use mathlib.Core.Bool.{Bool, true, false, cond}
use mathlib.Core.List.{List, []}
use mathlib.Core.Logic.{◌⊎◌, inl, inr}
use mathlib.Core.Path.{◌≡◌, refl, sym, ap, ap₂, ◌∙◌}
use native.Mathlib.Nat.{mul_comm}
use native.Mathlib.Omega.{arith}
use lib.Ieee.{Float}
use lib.ListN.{length, replicate, drop}
use lib.Seq.{sets, drop-drop}
use borrow.Author.Tests.{eq-eqb, ne_eqb}
use Rattle.rules.specs.RefusalNumbers.{given, refused, bad_buffer}
use Rattle.rules.specs.RefusalNumbers.Entries.{Outcome}
use Rattle.rules.specs.RefusalNumbers.Editions.{Loaded, read_edition_entry}
use Rattle.rules.specs.TheGridAndItsBounds.{Model, Grid, cells, one_per_cell}
use Rattle.rules.specs.Fields.{field_size, contents}
use Rattle.rules.specs.MapRecord.{frame_field}
use Rattle.rules.specs.EditionTwo.{kept, byte_length, cuts_for, open_field, marks_running, row_size}
use Rattle.marks.specs.Marking.{grid_of}
use Rattle.rows.specs.Rows.{odds_at}
use Rattle.rows.proofs.Shapes.{Shape}
use Rattle.rows.proofs.Odds.{length_rows, sets-whole}
use Rattle.open_rows.specs.OpenRows.{open_odds, open_stamps}
use Rattle.open_rows.proofs.Rows.{length-odds, length-all-stamps}
use Rattle.edition_reader.specs.Editions.{bands_here, grid_here, bands_at, frame_at, mark_at, extents_here, head_here, running_here}
use Rattle.edition_reader.proofs.Grids.{held}
use Rattle.edition_reader.proofs.Sounds.{Sound}

-- ---- the lists, from the mark on
module _ (w n at : ℕ) (bs : List ℕ) (odds : List Float) (stamps : List ℕ) (one : length odds ≡ w * n) (one' : length stamps ≡ w * n) where
  abbrev rows : ℕ
  rows = at + field_size byte_length

  pub open_read : (odds' : List Float) (stamps' : List ℕ) → marks_running (contents open_field (drop at bs)) ≡ true
      → odds' ≡ sets odds 0 (open_odds w n (drop (at + field_size byte_length) bs)) → stamps' ≡ sets stamps 0 (open_stamps w n (drop (at + field_size byte_length) bs))
      → grid_of odds' stamps' ≡ grid_here w n (drop at bs)
  unfolding grid_here
  open_read odds' stamps' r o s =
      ap₂ grid_of
      (o ∙ sets-whole (open_odds w n (drop rows bs)) odds (length-odds w n (drop rows bs) ∙ mul_comm n w ∙ sym one))
      (s ∙ sets-whole (open_stamps w n (drop rows bs)) stamps (length-all-stamps w n (drop rows bs) ∙ mul_comm n w ∙ sym one'))
      ∙ rw (r, drop-drop (field_size byte_length) at bs) refl

  pub closed_read : (odds' : List Float) (stamps' : List ℕ) → marks_running (contents open_field (drop at bs)) ≡ false
      → odds' ≡ sets odds 0 (odds_at w n (drop (at + field_size byte_length) bs)) → stamps' ≡ replicate (length stamps) 0
      → grid_of odds' stamps' ≡ grid_here w n (drop at bs)
  unfolding grid_here
  closed_read odds' stamps' r o s =
      ap₂ grid_of
      (o ∙ sets-whole (odds_at w n (drop rows bs)) odds (length_rows w n (drop rows bs) ∙ mul_comm n w ∙ sym one))
      (s ∙ ap (λ (k : ℕ). replicate k 0) one')
      ∙ rw (r, drop-drop (field_size byte_length) at bs) refl

-- ---- the whole record
-- by the number of cells
module _ (axes : ℕ) (bytes : List ℕ) (s : Sound axes bytes) where
  module _ (odds : List Float) (stamps : List ℕ) (each : ℕ) (cells_are : each ≡ cells (extents_here axes bytes)) where
    pub lists_wrong : ((length odds ≡ each → ⊥) ⊎ ((length odds ≡ each) × (length stamps ≡ each → ⊥)))
        → ◌≡◌ {A = Outcome Loaded Grid} (record { answer = refused bad_buffer; lent = grid_of odds stamps }) (read_edition_entry axes bytes (grid_of odds stamps))
    unfolding read_edition_entry one_per_cell
    lists_wrong (inl h) = rw (s.is, sym cells_are, ne_eqb (length odds) each h) refl
    lists_wrong (inr h) = rw (s.is, sym cells_are, eq-eqb (length odds) each h.0, ne_eqb (length stamps) each h.1) refl

-- by the rows
module _ (axes : ℕ) (bytes : List ℕ) (s : Sound axes bytes) (w n : ℕ) (shape : Shape (extents_here axes bytes) w n) where
  pub rows_fit : mark_at axes + field_size byte_length + n * row_size (marks_running (contents open_field (drop (mark_at axes) bytes))) w ≤ length bytes
  rows_fit = rw (shape.width_is, shape.count_is) at s.room

  -- the lists that the record keeps, as they are read
  kept-grid : (kept (head_here axes bytes) (running_here axes bytes) (held (head_here axes bytes) (drop (mark_at axes + field_size byte_length) bytes) (running_here axes bytes))).grid
      ≡ grid_here w n (drop (mark_at axes) bytes)
  unfolding grid_here
  kept-grid =
      rw (shape.width_is, shape.count_is, drop-drop (field_size byte_length) (mark_at axes) bytes) (by_mark (running_here axes bytes))
    where
      by_mark : (b : Bool)
          → (kept (head_here axes bytes) b (cond b (grid_of (open_odds w n (drop (mark_at axes + field_size byte_length) bytes)) (open_stamps w n (drop (mark_at axes + field_size byte_length) bytes))) (grid_of (odds_at w n (drop (mark_at axes + field_size byte_length) bytes)) []))).grid
          ≡ cond b (grid_of (open_odds w n (drop (mark_at axes + field_size byte_length) bytes)) (open_stamps w n (drop (mark_at axes + field_size byte_length) bytes))) (grid_of (odds_at w n (drop (mark_at axes + field_size byte_length) bytes)) (replicate (w * n) 0))
      by_mark true = refl
      by_mark false = ap (λ (k : ℕ). grid_of (odds_at w n (drop (mark_at axes + field_size byte_length) bytes)) (replicate k 0)) shape.cells_are

  module _ (odds : List Float) (stamps : List ℕ) (each : ℕ) (cells_are : each ≡ cells (extents_here axes bytes)) where
    pub all_read : (extents : List ℕ) (model : Model) (frame : ℕ) (running : Bool) (g : Grid)
        → length odds ≡ each → length stamps ≡ each
        → extents ≡ extents_here axes bytes
        → model ≡ bands_here (cuts_for axes) (extents_here axes bytes) (drop (bands_at axes) bytes)
        → frame ≡ contents frame_field (drop (frame_at axes) bytes)
        → running ≡ marks_running (contents open_field (drop (mark_at axes) bytes))
        → g ≡ grid_here w n (drop (mark_at axes) bytes)
        → ◌≡◌ {A = Outcome Loaded Grid} (record { answer = given (record { head = record { extents = extents; model = model; frame = frame }; running = running }); lent = g })
        (read_edition_entry axes bytes (grid_of odds stamps))
    unfolding read_edition_entry one_per_cell
    all_read extents model frame running g one one' e m k r l =
        rw (e, m, k, r, l, s.is, eq-eqb (length odds) (cells (extents_here axes bytes)) (one ∙ cells_are), eq-eqb (length stamps) (cells (extents_here axes bytes)) (one' ∙ cells_are))
        (ap (λ (x : Grid). record { answer = given (record { head = head_here axes bytes; running = running_here axes bytes }); lent = x }) (sym kept-grid))
