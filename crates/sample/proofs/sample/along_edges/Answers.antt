-- The code is the definition.
use Rattle.std.proofs.Common.{refl}
use Rattle.sample.proofs.sample.along_edges.Goals as goal

pub returns : goal.returns
returns c = refl
