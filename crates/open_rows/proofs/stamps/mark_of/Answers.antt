-- By the test.
use mathlib.Core.Path.{refl}
use borrow.Author.Tests.{le-leb, lt-leb}
use Rattle.rules.specs.MarksAndFrames.{frame_of}
use Rattle.open_rows.proofs.stamps.mark_of.Goals as goal

pub returns-then-stamp-frame : goal.returns-then-stamp-frame
returns-then-stamp-frame c = let a = c.args in rw (le-leb (frame_of a.stamp) a.frame.0 c.if-stamp-frame.true) refl

pub returns : goal.returns
returns c = let a = c.args in rw (lt-leb (frame_of a.stamp) a.frame.0 c.if-stamp-frame.false) refl
