-- By the tests, the fraction's first and then the point's.
use lib.Ieee.{binary64}
use Rattle.laws.specs.Literals.{one_is}
use Rattle.clip.proofs.ByAxis.{reaches, stops-short}
use Rattle.clip.proofs.clip.is_inside.Goals as goal

pub returns-then-t : goal.returns-then-t
returns-then-t g c = reaches binary64 _ _ _ (one_is binary64) c.if-t.true c.all_within.ensures

pub returns : goal.returns
returns g c = stops-short binary64 _ _ _ (one_is binary64) c.if-t.false
