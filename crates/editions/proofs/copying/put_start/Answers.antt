-- Two runs.
use mathlib.Core.List.{[], ◌∷◌}
use mathlib.Core.Path.{refl}
use lib.ListN.{take}
use Rattle.rules.specs.Fields.{little_endian, field, field_size}
use Rattle.rules.specs.EditionTwo.{byte_length, edition_tag, edition_two}
use Rattle.fields.proofs.Stores.{then_run}
use Rattle.editions.proofs.copying.put_start.Goals as goal

pub returns : goal.returns
unfolding field little_endian
returns c = let a = c.args in
    then_run (field edition_tag (edition_two ∷ [])) (take a.size a.bytes.now) a.out.now _ _ 0 (field_size byte_length) c.put_edition.ensures c.copy_bytes.ensures refl
