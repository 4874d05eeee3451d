-- The heads that C sees as the rules' heads, and as the heads of the code, field by field. Definitions only.
use Rattle.rules.specs.TheGridAndItsBounds.{Head}
use Rattle.types.specs.Points.{extents2, extents3}
use Rattle.types.specs.Models.{model_of, bands_of}
use Rattle.types.specs.declared.points.Extents2.{Extents2}
use Rattle.types.specs.declared.points.Extents3.{Extents3}
use Rattle.types.specs.declared.model.Model.{Model}
use Rattle.types.specs.declared.model.Bands.{Bands}
use Rattle.grid_map.specs.declared.map.GridMap.{GridMap}
use Rattle.c_types.specs.declared.heads.CMap2.{CMap2}
use Rattle.c_types.specs.declared.heads.CMap3.{CMap3}

abbrev pub head2 : CMap2 → Head
head2 m = record { extents = extents2 m.extents; model = model_of m.model; frame = m.frame.0 }

abbrev pub head3 : CMap3 → Head
head3 m = record { extents = extents3 m.extents; model = bands_of m.extents m.bands; frame = m.frame.0 }

abbrev pub from_c2 : CMap2 → GridMap Extents2 Model
from_c2 m = record { extents = m.extents; model = m.model; frame = m.frame }

abbrev pub to_c2 : GridMap Extents2 Model → CMap2
to_c2 m = record { extents = m.extents; model = m.model; frame = m.frame }

abbrev pub from_c3 : CMap3 → GridMap Extents3 Bands
from_c3 m = record { extents = m.extents; model = m.bands; frame = m.frame }

abbrev pub to_c3 : GridMap Extents3 Bands → CMap3
to_c3 m = record { extents = m.extents; bands = m.model; frame = m.frame }
