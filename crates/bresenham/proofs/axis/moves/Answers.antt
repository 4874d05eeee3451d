-- The tests are the rule's own.
use lib.Ieee.{binary64}
use Rattle.bresenham.specs.Axes.{axis}
use Rattle.bresenham.proofs.AxisLaws.{moves_always, moves_at}
use Rattle.bresenham.proofs.axis.moves.Goals as goal

pub returns-then-k-primary : goal.returns-then-k-primary
returns-then-k-primary c = moves_always binary64 _ (axis c.args.a) _ _ c.if-k-primary.true

pub returns : goal.returns
returns c = moves_at binary64 _ (axis c.args.a) _ _ c.if-k-primary.false
