-- Field by field what the calls ensure.
use lib.Ieee.{binary64}
use Rattle.laws.specs.Literals.{zero_is}
use Rattle.bresenham.proofs.AxisLaws.{axis_is}
use Rattle.bresenham.proofs.axis.axis_of.Goals as goal

pub returns : goal.returns
returns c = axis_is binary64 _ _ _ (zero_is binary64) c.delta.ensures c.increment.ensures c.step_to.ensures
