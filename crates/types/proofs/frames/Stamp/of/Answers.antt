-- A stamp's number is its frame's, doubled, with the mark's bit.
use Rattle.std.proofs.Common.{refl, add-zero}
use Rattle.rules.specs.MarksAndFrames.{stamp_of}
use Rattle.types.proofs.frames.Stamp.of.Goals as goal

pub returns-then-occupied : goal.returns-then-occupied
unfolding stamp_of
returns-then-occupied c = rw c.if-occupied.true refl

pub returns-else-occupied : goal.returns-else-occupied
unfolding stamp_of
returns-else-occupied c = rw c.if-occupied.false (simp add-zero)
