-- The rule of the value, computed over four corners.
use lib.Ieee.{binary64}
use Rattle.laws.specs.Literals.{zero_is}
use Rattle.sample.proofs.Weighing.{value_two}
use Rattle.sample.proofs.sample.value2.Goals as goal

pub returns : goal.returns
returns c = value_two binary64 _ _ _ (zero_is binary64) c.square_weights.ensures c.square_sum.ensures
