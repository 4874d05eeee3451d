-- What lies strictly between the infinities is finite, and nothing else does.
use lib.Ieee.{binary64}
use Rattle.laws.specs.Literals.{infinity_is, minus_infinity_is}
use Rattle.floats.proofs.Sizes.{finite_under, not_finite}
use Rattle.floats.proofs.is_finite.Goals as goal

pub returns-then-x : goal.returns-then-x
returns-then-x c = rw (minus_infinity_is binary64) (finite_under c.args.x (rw (infinity_is binary64) at c.if-x.true))

pub returns : goal.returns
returns c = not_finite c.args.x (rw (infinity_is binary64) at c.if-x.false)
