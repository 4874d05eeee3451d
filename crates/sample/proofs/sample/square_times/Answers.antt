-- Each edge of the answer is the weights of an edge, multiplied.
use lib.Ieee.{binary64}
use Rattle.sample.proofs.Weighing.{square_times_lem}
use Rattle.sample.proofs.sample.square_times.Goals as goal

pub returns : goal.returns
returns c = square_times_lem binary64 _ _ c.edge_times.ensures c.edge_times-2.ensures
