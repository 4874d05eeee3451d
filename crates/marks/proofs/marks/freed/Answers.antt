-- The limit of the sum.
use Rattle.rules.specs.MarksAndFrames.{freed, limited}
use Rattle.marks.proofs.marks.freed.Goals as goal

pub returns : goal.returns
unfolding freed limited
returns c = c.clamp.ensures
