-- By the tests, at the code's largest size.
use lib.Ieee.{binary64}
use Rattle.checks.specs.ModelBounds.{sizes_bounded}
use Rattle.laws.specs.Literals.{most_size_is}
use Rattle.checks.proofs.model.sizes_bounded.Goals as goal

pub returns-then-m-2 : goal.returns-then-m-2
unfolding sizes_bounded
returns-then-m-2 c = simp (most_size_is binary64, rw (most_size_is binary64) at c.if-m.true, rw (most_size_is binary64) at c.if-m-2.true)

pub returns-else-m-2 : goal.returns-else-m-2
unfolding sizes_bounded
returns-else-m-2 c = simp (rw (most_size_is binary64) at c.if-m.true, rw (most_size_is binary64) at c.if-m-2.false)

pub returns-else-m : goal.returns-else-m
unfolding sizes_bounded
returns-else-m c = simp (rw (most_size_is binary64) at c.if-m.false)
