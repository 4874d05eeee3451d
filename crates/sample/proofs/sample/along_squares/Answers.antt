-- Each edge of the answer is the differences along a square.
use lib.Ieee.{binary64}
use Rattle.sample.proofs.Weighing.{along_squares_lem}
use Rattle.sample.proofs.sample.along_squares.Goals as goal

pub returns : goal.returns
returns c = along_squares_lem binary64 _ _ c.along_edges.ensures c.along_edges-2.ensures
