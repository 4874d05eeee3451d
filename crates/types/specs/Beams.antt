-- Beams and clipped segments as the rules'. Definitions only.
use Rattle.std.specs.Prelude.{Bool, List, Float}
use Rattle.rules.specs.OneBeam as Beam
use Rattle.rules.specs.VerticalBeam as Vertical
use Rattle.types.specs.declared.beams.RayTermination.{RayTermination}
use Rattle.types.specs.declared.beams.ScanBeam2.{ScanBeam2}
use Rattle.types.specs.declared.beams.ScanBeam3.{ScanBeam3}
use Rattle.types.specs.declared.beams.VerticalBeam.{VerticalBeam}
use Rattle.types.specs.declared.beams.Clipped.{Clipped}
use Rattle.types.specs.declared.points.Point2.{Point2}
use Rattle.types.specs.declared.points.Point3.{Point3}
use Rattle.types.specs.Points.{point2, point3}

abbrev pub is_hit : RayTermination → Bool
is_hit t = t.0

abbrev pub beam2 : ScanBeam2 → Beam.Beam
beam2 b = record { origin = point2 b.origin; endpoint = point2 b.endpoint; hit = is_hit b.termination }

abbrev pub beam3 : ScanBeam3 → Beam.Beam
beam3 b = record { origin = point3 b.origin; endpoint = point3 b.endpoint; hit = is_hit b.termination }

abbrev pub vertical : VerticalBeam → Vertical.Vertical
vertical b = record { x = b.x; y = b.y; bottom = b.bottom; top = b.top; hit = is_hit b.termination }

-- by what its points stand for
abbrev pub clipped_of : {P : Type 0} → (P → List Float) → Clipped P → Beam.Clipped
clipped_of point c = record { entry = point c.entry; exit = point c.exit; inside = c.inside }

abbrev pub clipped2 : Clipped Point2 → Beam.Clipped
clipped2 = clipped_of point2

abbrev pub clipped3 : Clipped Point3 → Beam.Clipped
clipped3 = clipped_of point3
