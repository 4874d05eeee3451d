-- The code's test is the rule's.
use Rattle.std.proofs.Common.{arith}
use lib.Ieee.{binary64}
use Rattle.laws.specs.Literals.{one_is}
use Rattle.sample.proofs.StencilLaws.{folded, in_its_cell}
use Rattle.sample.proofs.stencil.folded_axis.Goals as goal

pub returns-then-cell-extent : goal.returns-then-cell-extent
returns-then-cell-extent c = folded binary64 _ _ _ (one_is binary64) (omega arith)

pub returns-else-cell-extent : goal.returns-else-cell-extent
returns-else-cell-extent c = in_its_cell binary64 _ _ _ c.number_of.ensures (omega arith)
