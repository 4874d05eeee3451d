-- By the tests that led to each answer, at the code's zero.
use lib.Ieee.{binary64}
use Rattle.rules.specs.Floats.{number_f}
use Rattle.laws.specs.Literals.{zero_is}
use Rattle.clip.proofs.Crossing.{misses_below, misses_above, stays_in, crosses}
use Rattle.clip.proofs.slabs.slab.Goals as goal

pub returns-then-origin : goal.returns-then-origin
unfolding number_f
returns-then-origin c = misses_below binary64 _ (zero_is binary64) c.nearest_u64_to_f64-limit.ensures _ _ _ c.if-direction.true c.if-origin.true

pub returns-then-origin-limit : goal.returns-then-origin-limit
unfolding number_f
returns-then-origin-limit c = misses_above binary64 _ (zero_is binary64) c.nearest_u64_to_f64-limit.ensures _ _ _ c.if-direction.true c.if-origin.false c.if-origin-limit.true

pub returns-then-direction : goal.returns-then-direction
unfolding number_f
returns-then-direction c = stays_in binary64 _ (zero_is binary64) c.nearest_u64_to_f64-limit.ensures _ _ _ c.if-direction.true c.if-origin.false c.if-origin-limit.false

pub returns : goal.returns
unfolding number_f
returns c = crosses binary64 _ (zero_is binary64) c.nearest_u64_to_f64-limit.ensures _ _ _ c.if-direction.false c.chosen.ensures c.chosen-2.ensures c.cut_to.ensures
