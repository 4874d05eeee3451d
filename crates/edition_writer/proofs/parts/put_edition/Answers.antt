-- The head of the field, and the byte.
use mathlib.Core.Path.{refl}
use Rattle.rules.specs.EditionTwo.{edition_tag, edition_two}
use Rattle.edition_writer.proofs.Fields.{byte_written}
use Rattle.edition_writer.proofs.parts.put_edition.Goals as goal

pub returns : goal.returns
returns c = let a = c.args in
    byte_written a.at edition_tag edition_two a.out.now _ _ c.put_field.ensures refl
