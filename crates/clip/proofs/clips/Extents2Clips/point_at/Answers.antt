-- Axis by axis.
use Rattle.rules.specs.OneBeam.{point_at}
use Rattle.clip.proofs.clips.Extents2Clips.point_at.Goals as goal

pub returns : goal.returns
unfolding point_at
returns c = simp (c.point_on-at_x.ensures, c.point_on-at_y.ensures)
