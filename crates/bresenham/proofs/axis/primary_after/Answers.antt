-- Field by field the rule's axis.
use mathlib.Core.Path.{refl}
use Rattle.rules.specs.TheLine.{primary_after}
use Rattle.bresenham.proofs.axis.primary_after.Goals as goal

pub returns : goal.returns
unfolding primary_after
returns c = refl
