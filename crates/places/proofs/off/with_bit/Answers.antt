-- By the test.
use Rattle.std.proofs.Common.{refl, arith}
use Rattle.places.proofs.off.with_bit.Goals as goal

pub returns-then-first : goal.returns-then-first
returns-then-first c = rw c.if-first.true refl

pub returns : goal.returns
returns c = rw c.if-first.false (omega arith)
