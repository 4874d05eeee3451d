-- The head of the field, and the byte.
use Prim.Native.Nat.{ℕ}
use mathlib.Core.List.{[], ◌∷◌}
use mathlib.Core.Path.{refl, ap, ◌∙◌}
use mir.Val.{bool_byte}
use lib.Seq.{sets}
use Rattle.rules.specs.Fields.{field}
use Rattle.rules.specs.EditionTwo.{open_tag}
use Rattle.edition_writer.proofs.Fields.{byte_written, mark_byte}
use Rattle.edition_writer.proofs.parts.put_mark.Goals as goal

pub returns : goal.returns
returns c = let a = c.args in
    byte_written a.at open_tag (bool_byte a.running) a.out.now _ _ c.put_field.ensures refl
    ∙ ap (λ (k : ℕ). sets a.out.now a.at (field open_tag (k ∷ []))) (mark_byte a.running)
