-- The limit of the sum.
use Rattle.rules.specs.MarksAndFrames.{occupy, limited}
use Rattle.marks.proofs.marks.occupy.Goals as goal

pub returns : goal.returns
unfolding occupy limited
returns c = c.clamp.ensures
