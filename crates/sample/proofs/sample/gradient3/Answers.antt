-- The rule of the gradient, computed over eight corners, is along each axis that of the value over the differences.
use lib.Ieee.{binary64}
use Rattle.sample.proofs.Weighing.{gradient_three}
use Rattle.sample.proofs.sample.gradient3.Goals as goal

pub returns : goal.returns
returns c = gradient_three binary64 _ _ _ _ c.along_squares.ensures c.value2.ensures c.between_pairs.ensures c.value2-2.ensures
    c.between_pairs-2.ensures c.value2-3.ensures
