-- The rule of the gradient, computed over four corners, is along each axis that of the value over the differences.
use lib.Ieee.{binary64}
use Rattle.sample.proofs.Weighing.{gradient_two}
use Rattle.sample.proofs.sample.gradient2.Goals as goal

pub returns : goal.returns
returns c = gradient_two binary64 _ _ _ c.along_edges.ensures c.value1.ensures c.between_edges.ensures c.value1-2.ensures
