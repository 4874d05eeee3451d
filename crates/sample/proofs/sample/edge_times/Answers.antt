-- The code is the definition.
use Rattle.std.proofs.Common.{refl}
use Rattle.sample.proofs.sample.edge_times.Goals as goal

pub returns : goal.returns
returns c = refl
