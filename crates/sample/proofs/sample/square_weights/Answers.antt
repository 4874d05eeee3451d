-- The weights of an edge, once more for each side of the second axis: the rule of a weight, computed at four corners.
use lib.Ieee.{binary64}
use Rattle.laws.specs.Literals.{one_is}
use Rattle.sample.proofs.Weighing.{square_weighed}
use Rattle.sample.proofs.sample.square_weights.Goals as goal

pub returns : goal.returns
returns c = square_weighed binary64 _ _ (one_is binary64) c.edge_weights-w.ensures c.edge_times.ensures c.edge_times-2.ensures
