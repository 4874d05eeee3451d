-- A square is two edges, a row apart: one more axis on both sides.
use Rattle.std.proofs.Common.{[], ◌∷◌}
use Rattle.sample.proofs.SampleLaws.{both_sides}
use Rattle.sample.proofs.sample.square_at.Goals as goal

pub returns : goal.returns
returns c = both_sides _ _ _ (1 ∷ []) _ _ c.edge_at.ensures c.edge_at-2.ensures
