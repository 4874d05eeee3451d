-- By the two tests, at the code's zero and half.
use lib.Ieee.{binary64}
use Rattle.rules.specs.Floats.{number_f}
use Rattle.laws.specs.Literals.{zero_is, half_is}
use Rattle.clip.proofs.Crossing.{clamps_low, clamps_high, keeps}
use Rattle.clip.proofs.slabs.clamp_axis.Goals as goal

pub returns-then-x : goal.returns-then-x
unfolding number_f
returns-then-x c = clamps_low binary64 _ (zero_is binary64) c.nearest_u64_to_f64-top.ensures _ c.if-x.true

pub returns-then-x-top : goal.returns-then-x-top
unfolding number_f
returns-then-x-top c = clamps_high binary64 _ (zero_is binary64) c.nearest_u64_to_f64-top.ensures _ (half_is binary64) c.if-x.false c.if-x-top.true

pub returns : goal.returns
unfolding number_f
returns c = keeps binary64 _ (zero_is binary64) c.nearest_u64_to_f64-top.ensures _ (half_is binary64) c.if-x.false c.if-x-top.false
