-- By the test against 0.
use borrow.Author.Tests.{lt-ltb, le-ltb}
use Rattle.rules.specs.MarksAndFrames.{open_frame}
use Rattle.checks.proofs.is_open.Goals as goal

pub returns-then-n-gt0 : goal.returns-then-n-gt0
unfolding open_frame
returns-then-n-gt0 c = simp (lt-ltb _ _ c.if-n-gt0.true)

pub returns : goal.returns
unfolding open_frame
returns c = simp (le-ltb _ _ c.if-n-gt0.false)
