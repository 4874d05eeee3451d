-- The call's count, at the code's one.
use lib.Ieee.{binary64}
use Rattle.laws.specs.Literals.{one_is}
use Rattle.bresenham.proofs.AxisLaws.{yielded}
use Rattle.bresenham.proofs.axis.cells_yielded.Goals as goal

pub returns : goal.returns
returns c = yielded binary64 _ (one_is binary64) c.count_of.ensures
