-- By the tests, in their order.
use borrow.Author.Tests.{lt-ltb, le-ltb}
use Rattle.rules.specs.TheGridAndItsBounds.{rising, cuts_below, last_extent, cuts_in_bounds}
use Rattle.checks.proofs.model.cuts_in_bounds.Goals as goal

pub returns-then-cuts : goal.returns-then-cuts
unfolding rising cuts_below last_extent cuts_in_bounds
returns-then-cuts c = simp (lt-ltb _ _ c.if-cuts-gt0.true, lt-ltb _ _ c.if-cuts.true)

pub returns-else-cuts : goal.returns-else-cuts
unfolding rising cuts_below last_extent cuts_in_bounds
returns-else-cuts c = simp (lt-ltb _ _ c.if-cuts-gt0.true, le-ltb _ _ c.if-cuts.false)

pub returns-else-cuts-gt0 : goal.returns-else-cuts-gt0
unfolding rising cuts_below last_extent cuts_in_bounds
returns-else-cuts-gt0 c = simp (le-ltb _ _ c.if-cuts-gt0.false)
