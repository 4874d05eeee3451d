-- The rule of a weight, computed at both corners.
use lib.Ieee.{binary64}
use Rattle.laws.specs.Literals.{one_is}
use Rattle.sample.proofs.Weighing.{edge-weighed}
use Rattle.sample.proofs.sample.edge_weights.Goals as goal

pub returns : goal.returns
returns c = edge-weighed binary64 _ (one_is binary64)
