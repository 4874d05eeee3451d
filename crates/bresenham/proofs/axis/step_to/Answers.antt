-- The test is the rule's own, and the literal its one.
use lib.Ieee.{binary64}
use Rattle.laws.specs.Literals.{one_is}
use Rattle.bresenham.proofs.AxisLaws.{steps_up, steps_down}
use Rattle.bresenham.proofs.axis.step_to.Goals as goal

pub returns-then-end-start : goal.returns-then-end-start
returns-then-end-start c = steps_up _ _ (one_is binary64) c.if-end-start.true

pub returns : goal.returns
returns c = steps_down _ _ (one_is binary64) c.if-end-start.false
