-- Axis by axis.
use Rattle.rules.specs.OneBeam.{clamp_point}
use Rattle.clip.proofs.clips.Extents2Clips.clamp_to_addressable_cell.Goals as goal

pub returns : goal.returns
unfolding clamp_point
returns c = simp (c.clamp_axis-x.ensures, c.clamp_axis-y.ensures)
