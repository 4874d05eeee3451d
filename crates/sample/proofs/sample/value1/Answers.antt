-- The rule of the value, computed over two corners.
use lib.Ieee.{binary64}
use Rattle.laws.specs.Literals.{zero_is}
use Rattle.sample.proofs.Weighing.{value_one}
use Rattle.sample.proofs.sample.value1.Goals as goal

pub returns : goal.returns
returns c = value_one binary64 _ _ (zero_is binary64) c.edge_weights.ensures c.edge_sum.ensures
