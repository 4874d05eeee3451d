-- Each edge of the answer is the differences between two edges.
use lib.Ieee.{binary64}
use Rattle.sample.proofs.Weighing.{between_pairs_lem}
use Rattle.sample.proofs.sample.between_pairs.Goals as goal

pub returns : goal.returns
returns c = between_pairs_lem binary64 _ _ _ _ c.between_edges.ensures c.between_edges-2.ensures
