-- What a sound record of edition 2 keeps, for the moves. Over any number of axes. Assumes nothing.
use Prim.Native.Nat.{ℕ, ◌+◌}
use mathlib.Core.Bool.{Bool, true, false}
use mathlib.Core.List.{List}
use mathlib.Core.Path.{◌≡◌, refl, ap, ◌∙◌}
use lib.ListN.{length, drop}
use Rattle.rules.specs.RefusalNumbers.Editions.{has_edition_one}
use Rattle.rules.specs.Fields.{field_size}
use Rattle.rules.specs.MapRecord.{equal_pairs}
use Rattle.rules.specs.EditionTwo.{Kept, kept, byte_length, edition_size}
use Rattle.edition_reader.specs.Editions.{mark_at, extents_here, head_here, running_here}
use Rattle.edition_reader.proofs.Grids.{held}

abbrev pub kept_at : ℕ → List ℕ → Kept
kept_at axes bytes =
    kept (head_here axes bytes) (running_here axes bytes) (held (head_here axes bytes) (drop (mark_at axes + field_size byte_length) bytes) (running_here axes bytes))

module _ (axes : ℕ) (bytes : List ℕ) where
  pub open_has_none : running_here axes bytes ≡ true → has_edition_one (kept_at axes bytes) ≡ false
  open_has_none r = rw r refl

  pub closed_has_lem : (b : Bool) → running_here axes bytes ≡ false → equal_pairs (head_here axes bytes).model.lowest (head_here axes bytes).model.above ≡ b → has_edition_one (kept_at axes bytes) ≡ b
  closed_has_lem b r e = rw (r, e) refl

  pub closed_size : running_here axes bytes ≡ false → length bytes ≡ edition_size (extents_here axes bytes) (running_here axes bytes) → length bytes ≡ edition_size (extents_here axes bytes) false
  closed_size r e = e ∙ ap (edition_size (extents_here axes bytes)) r
