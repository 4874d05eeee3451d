-- Axis by axis.
use Rattle.std.proofs.Common.{refl}
use Rattle.rules.specs.OneBeam.{directions}
use Rattle.clip.proofs.clips.Extents3Clips.directions.Goals as goal

pub returns : goal.returns
unfolding directions
returns c = refl
