-- The test is the rule's own, at the code's zero.
use lib.Ieee.{binary64}
use Rattle.laws.specs.Literals.{zero_is}
use Rattle.bresenham.proofs.AxisLaws.{adds_nothing, adds_its_part}
use Rattle.bresenham.proofs.axis.increment.Goals as goal

pub returns-then-longest : goal.returns-then-longest
returns-then-longest c = adds_nothing binary64 _ _ (zero_is binary64) c.if-longest.true

pub returns : goal.returns
returns c = adds_its_part binary64 _ _ (zero_is binary64) c.if-longest.false
