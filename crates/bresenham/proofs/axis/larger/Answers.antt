-- The test is the rule's own.
use Rattle.bresenham.proofs.AxisLaws.{takes_over, stays_best}
use Rattle.bresenham.proofs.axis.larger.Goals as goal

pub returns-then-d-most : goal.returns-then-d-most
returns-then-d-most c = takes_over _ _ _ c.if-d-most.true

pub returns : goal.returns
returns c = stays_best _ _ _ c.if-d-most.false
