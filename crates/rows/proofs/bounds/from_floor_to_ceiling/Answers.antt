-- By the two tests.
use mathlib.Core.Path.{refl}
use Rattle.rules.specs.TheGridAndItsBounds.{floor}
use Rattle.rows.proofs.bounds.from_floor_to_ceiling.Goals as goal

pub returns-then-ceiling-x : goal.returns-then-ceiling-x
unfolding floor
returns-then-ceiling-x c = rw c.if-ceiling-x.true refl

pub returns : goal.returns
unfolding floor
returns c = rw c.if-ceiling-x.false refl
