-- By the test.
use Rattle.clip.proofs.ByAxis.{larger-other, larger-first}
use Rattle.clip.proofs.slabs.larger_of.Goals as goal

pub returns-then-a-b : goal.returns-then-a-b
returns-then-a-b c = larger-other _ _ c.if-a-b.true

pub returns-else-a-b : goal.returns-else-a-b
returns-else-a-b c = larger-first _ _ c.if-a-b.false
