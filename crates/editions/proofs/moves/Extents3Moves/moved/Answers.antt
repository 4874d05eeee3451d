-- The two cuts.
use Rattle.std.proofs.Common.{refl}
use Rattle.rules.specs.EditionTwo.{cuts_of}
use Rattle.editions.proofs.moves.Extents3Moves.moved.Goals as goal

pub returns : goal.returns
unfolding cuts_of
returns c = refl
