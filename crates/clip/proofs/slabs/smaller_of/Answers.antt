-- By the test.
use Rattle.clip.proofs.ByAxis.{smaller_other, smaller_first}
use Rattle.clip.proofs.slabs.smaller_of.Goals as goal

pub returns-then-b-a : goal.returns-then-b-a
returns-then-b-a c = smaller_other _ _ c.if-b-a.true

pub returns-else-b-a : goal.returns-else-b-a
returns-else-b-a c = smaller_first _ _ c.if-b-a.false
