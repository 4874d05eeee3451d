-- The sum over the low edge goes on over the high one.
use lib.Ieee.{binary64}
use Rattle.sample.proofs.Weighing.{square_sum_lem}
use Rattle.sample.proofs.sample.square_sum.Goals as goal

pub returns : goal.returns
returns c = square_sum_lem binary64 _ _ _ c.edge_sum.ensures c.edge_sum-2.ensures
