-- The test is the rule's own, and the literal its one.
use lib.Ieee.{binary64}
use Rattle.laws.specs.Literals.{one_is}
use Rattle.bresenham.proofs.AxisLaws.{moves_across, waits}
use Rattle.bresenham.proofs.axis.other_after.Goals as goal

pub returns-then-error-threshold : goal.returns-then-error-threshold
returns-then-error-threshold c = moves_across binary64 _ _ (one_is binary64) c.if-error-threshold.true

pub returns : goal.returns
returns c = waits binary64 _ _ c.if-error-threshold.false
