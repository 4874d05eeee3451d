-- By the two tests; a signed index is read back from its bits as itself.
use Rattle.std.proofs.Common.{◌∙◌, w64}
use mir.ValLaws.{to_z-of_z}
use lib.Ieee.{binary64}
use Rattle.places.proofs.ByAxis.{not_finite, has_a_cell, has_none}
use Rattle.places.proofs.containing.axis_containing.Goals as goal

pub returns-then-within : goal.returns-then-within
returns-then-within c = has_a_cell binary64 _ _ _ _ c.is_finite.ensures c.if-is_finite.true c.within.ensures
    (to_z-of_z w64 c.cell_of-index.result (record { sfits = c.cell_of-index.type_inv }) ∙ c.cell_of-index.ensures) c.if-within.true

pub returns-then-is_finite : goal.returns-then-is_finite
returns-then-is_finite c = has_none binary64 _ _ _ _ c.is_finite.ensures c.if-is_finite.true c.within.ensures
    (to_z-of_z w64 c.cell_of-index.result (record { sfits = c.cell_of-index.type_inv }) ∙ c.cell_of-index.ensures) c.if-within.false

pub returns : goal.returns
returns c = not_finite binary64 _ _ _ _ c.is_finite.ensures c.if-is_finite.false
