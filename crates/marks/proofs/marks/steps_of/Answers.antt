-- A model of one pair has no cuts; the floor is its negative ceiling.
use mathlib.Core.Path.{refl}
use Rattle.rules.specs.TheGridAndItsBounds.{floor, pair_at}
use Rattle.rules.specs.MarksAndFrames.{steps_at}
use Rattle.marks.proofs.marks.steps_of.Goals as goal

pub returns : goal.returns
unfolding steps_at pair_at floor
returns c = λ place. refl
