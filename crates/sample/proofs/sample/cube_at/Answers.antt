-- A cube is two squares, a plane apart: one more axis on both sides.
use Rattle.std.proofs.Common.{[], ◌∷◌}
use Rattle.sample.proofs.SampleLaws.{both_sides}
use Rattle.sample.proofs.sample.cube_at.Goals as goal

pub returns : goal.returns
returns c = both_sides _ _ _ (1 ∷ c.args.row ∷ []) _ _ c.square_at.ensures c.square_at-2.ensures
