-- By the test of the coordinate.
use lib.Ieee.{binary64}
use Rattle.places.proofs.ByAxis.{with_its_bit, no_axis_lem}
use Rattle.places.proofs.off.with_coordinate.Goals as goal

pub with_bit-requires : goal.with_bit-requires
with_bit-requires c = c.requires

pub returns-then-is_finite : goal.returns-then-is_finite
returns-then-is_finite c = with_its_bit binary64 _ _ _ c.is_finite.ensures c.if-is_finite.true c.within.ensures c.with_bit.ensures

pub returns : goal.returns
returns c = let a = c.args in no_axis_lem binary64 a.extent a.x a.others c.is_finite.ensures c.if-is_finite.false
