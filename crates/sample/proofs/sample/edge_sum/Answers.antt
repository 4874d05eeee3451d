-- The code is the definition.
use Rattle.std.proofs.Common.{refl}
use Rattle.sample.proofs.sample.edge_sum.Goals as goal

pub returns : goal.returns
returns c = refl
