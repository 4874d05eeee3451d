-- A Hit by the test on its top, and any other beam never.
use Rattle.rules.specs.VerticalBeam.{ends_occupied}
use Rattle.vertical.proofs.profile.ends_occupied.Goals as goal

pub returns-then-termination : goal.returns-then-termination
unfolding ends_occupied
returns-then-termination c = simp c.if-termination.true

pub returns : goal.returns
unfolding ends_occupied
returns c = simp c.if-termination.false
