-- The last axis first, each with the set of those after it.
use Rattle.rules.specs.Coordinates.{outside_axes}
use Rattle.places.proofs.places.Extents3Places.outside_axes.Goals as goal

pub returns : goal.returns
unfolding outside_axes
returns c = simp (c.with_coordinate.ensures, c.with_coordinate-yz.ensures, c.with_coordinate-z.ensures)
