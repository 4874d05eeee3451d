-- Clips as the rules' values. Definitions only.
use Rattle.std.specs.Prelude.{List, Float}
use Rattle.std.specs.Prelude as Prelude
use Rattle.std.proofs.Math.Option.{Option}
use Rattle.rules.specs.OneBeam as OneBeam
use Rattle.types.specs.declared.beams.Clipped.{Clipped}
use Rattle.types.specs.declared.points.Point2.{Point2}
use Rattle.types.specs.declared.points.Point3.{Point3}
use Rattle.types.specs.Answers.{found_of}
use Rattle.types.specs.Beams.{clipped_of}
use Rattle.types.specs.Points.{point2, point3}

-- nothing for a beam that misses
abbrev pub clip_of : {P : Type 0} → (P → List Float) → Prelude.Option (Clipped P) → Option OneBeam.Clipped
clip_of point = found_of (clipped_of point)

abbrev pub clip2 : Prelude.Option (Clipped Point2) → Option OneBeam.Clipped
clip2 = clip_of point2

abbrev pub clip3 : Prelude.Option (Clipped Point3) → Option OneBeam.Clipped
clip3 = clip_of point3

-- nothing for a beam that is not finite
abbrev pub tried_of : {P : Type 0} → (P → List Float) → Prelude.Option (Prelude.Option (Clipped P)) → Option (Option OneBeam.Clipped)
tried_of point = found_of (clip_of point)

abbrev pub tried2 : Prelude.Option (Prelude.Option (Clipped Point2)) → Option (Option OneBeam.Clipped)
tried2 = tried_of point2

abbrev pub tried3 : Prelude.Option (Prelude.Option (Clipped Point3)) → Option (Option OneBeam.Clipped)
tried3 = tried_of point3
