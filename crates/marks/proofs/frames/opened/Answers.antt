-- By the test against the highest frame.
use borrow.Author.Tests.{le-leb, lt-leb}
use Rattle.rules.specs.MarksAndFrames.{opened_frame}
use Rattle.marks.proofs.frames.opened.Goals as goal

pub returns-then-n : goal.returns-then-n
unfolding opened_frame
returns-then-n c = simp (le-leb _ _ c.if-n.true)

pub returns : goal.returns
unfolding opened_frame
returns c = simp (lt-leb _ _ c.if-n.false)
