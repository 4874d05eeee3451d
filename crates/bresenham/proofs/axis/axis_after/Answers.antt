-- The test is the rule's own, and each way a call.
use lib.Ieee.{binary64}
use Rattle.bresenham.proofs.AxisLaws.{as_primary, as_other}
use Rattle.bresenham.proofs.axis.axis_after.Goals as goal

pub returns-then-k-primary : goal.returns-then-k-primary
returns-then-k-primary c = as_primary binary64 _ _ _ _ c.if-k-primary.true c.primary_after.ensures

pub returns : goal.returns
returns c = as_other binary64 _ _ _ _ c.if-k-primary.false c.other_after.ensures
