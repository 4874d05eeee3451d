-- Samples as the rules'. Definitions only.
use Rattle.rules.specs.Coordinates as Coordinates
use Rattle.types.specs.declared.samples.MapSample2.{MapSample2}
use Rattle.types.specs.declared.samples.MapSample3.{MapSample3}
use Rattle.types.specs.Points.{vector2, vector3}

abbrev pub sample2 : MapSample2 → Coordinates.Sample
sample2 s = record { value = s.value; gradient = vector2 s.gradient }

abbrev pub sample3 : MapSample3 → Coordinates.Sample
sample3 s = record { value = s.value; gradient = vector3 s.gradient }
