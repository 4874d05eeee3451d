-- The code is the definition.
use Rattle.std.proofs.Common.{refl}
use Rattle.sample.proofs.sample.between_edges.Goals as goal

pub returns : goal.returns
returns c = refl
