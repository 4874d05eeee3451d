-- The rule of the value, computed over eight corners: four on the low side of the third axis, then four on its high
-- side.
use lib.Ieee.{binary64}
use Rattle.laws.specs.Literals.{zero_is, one_is}
use Rattle.sample.proofs.Weighing.{value_three}
use Rattle.sample.proofs.sample.value3.Goals as goal

pub returns : goal.returns
returns c = value_three binary64 _ _ _ _ (zero_is binary64) (one_is binary64) c.square_weights-w.ensures
    c.square_times.ensures c.square_sum-sum.ensures c.square_times-2.ensures c.square_sum.ensures
