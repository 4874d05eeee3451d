-- By the test on the lower face; the extent as a float is the library's.
use lib.Ieee.{binary64}
use Rattle.rules.specs.Floats.{number_f}
use Rattle.laws.specs.Literals.{zero_is}
use Rattle.places.proofs.ByAxis.{from-zero-on, under_zero}
use Rattle.places.proofs.containing.within.Goals as goal

pub returns-then-x : goal.returns-then-x
unfolding number_f
returns-then-x c = from-zero-on binary64 _ _ (zero_is binary64) c.nearest_u64_to_f64.ensures c.if-x.true

pub returns : goal.returns
returns c = under_zero binary64 _ _ (zero_is binary64) c.if-x.false
