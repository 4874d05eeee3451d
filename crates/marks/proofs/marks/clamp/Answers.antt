-- By the two tests.
use Rattle.marks.proofs.Marking.{to_floor, to_ceiling, in_bounds}
use Rattle.marks.proofs.marks.clamp.Goals as goal

pub returns-then-x-floor : goal.returns-then-x-floor
returns-then-x-floor c = to_floor _ _ _ c.if-x-floor.true

pub returns-then-x-ceiling : goal.returns-then-x-ceiling
returns-then-x-ceiling c = to_ceiling _ _ _ c.if-x-floor.false c.if-x-ceiling.true

pub returns : goal.returns
returns c = in_bounds _ _ _ c.if-x-floor.false c.if-x-ceiling.false
