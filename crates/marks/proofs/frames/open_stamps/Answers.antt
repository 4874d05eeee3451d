-- By the test against the highest frame.
use borrow.Author.Tests.{le-leb, lt-leb}
use Rattle.rules.specs.MarksAndFrames.{opened_stamps}
use Rattle.marks.proofs.frames.open_stamps.Goals as goal

pub returns-then-frame : goal.returns-then-frame
unfolding opened_stamps
returns-then-frame c = simp (le-leb _ _ c.if-frame.true, c.clear_stamps.ensures)

pub returns-else-frame : goal.returns-else-frame
unfolding opened_stamps
returns-else-frame c = simp (lt-leb _ _ c.if-frame.false)
