-- An edge is two cells, next to each other: one axis on both sides.
use Rattle.std.proofs.Common.{[]}
use Rattle.sample.proofs.SampleLaws.{both_sides, one_cell}
use Rattle.sample.proofs.sample.edge_at.Goals as goal

pub returns : goal.returns
returns c = both_sides _ _ _ [] _ _ (one_cell _ _) (one_cell _ _)
