-- The code's structs from the rules' values: a list of axes as named fields, axis 0 first. Definitions only.
use Rattle.std.specs.Prelude.{ℕ, List, [], ℤ, pos, get_or, Float}
use Rattle.rules.specs.Floats.{zero_f}
use Rattle.rules.specs.TheGridAndItsBounds as Grid
use Rattle.rules.specs.Coordinates.{Sample}
use Rattle.rules.specs.TheLine as TheLine
use Rattle.types.specs.declared.points.Vector2.{Vector2}
use Rattle.types.specs.declared.points.Vector3.{Vector3}
use Rattle.types.specs.declared.points.Cell2.{Cell2}
use Rattle.types.specs.declared.points.Cell3.{Cell3}
use Rattle.types.specs.declared.points.Extents2.{Extents2}
use Rattle.types.specs.declared.points.Extents3.{Extents3}
use Rattle.types.specs.declared.model.Model.{Model}
use Rattle.types.specs.declared.model.Pair.{Pair}
use Rattle.types.specs.declared.model.Cuts.{Cuts}
use Rattle.types.specs.declared.model.Bands.{Bands}
use Rattle.types.specs.declared.samples.MapSample2.{MapSample2}
use Rattle.types.specs.declared.samples.MapSample3.{MapSample3}
use Rattle.c_types.specs.declared.heads.CMap2.{CMap2}
use Rattle.c_types.specs.declared.heads.CMap3.{CMap3}
use Rattle.bresenham.specs.declared.axis.Axis.{Axis}
use Rattle.bresenham.specs.declared.line.BresenhamLine2.{BresenhamLine2}
use Rattle.bresenham.specs.declared.line.BresenhamLine3.{BresenhamLine3}

abbrev pub cell_of2 : List ℤ → Cell2
cell_of2 c = record { x = get_or c 0 (pos 0); y = get_or c 1 (pos 0) }

abbrev pub cell_of3 : List ℤ → Cell3
cell_of3 c = record { x = get_or c 0 (pos 0); y = get_or c 1 (pos 0); z = get_or c 2 (pos 0) }

abbrev pub extents_of2 : List ℕ → Extents2
extents_of2 e = record { x = get_or e 0 0; y = get_or e 1 0 }

abbrev pub extents_of3 : List ℕ → Extents3
extents_of3 e = record { x = get_or e 0 0; y = get_or e 1 0; z = get_or e 2 0 }

abbrev pub vector_of2 : List Float → Vector2
vector_of2 v = record { x = get_or v 0 zero_f; y = get_or v 1 zero_f }

abbrev pub vector_of3 : List Float → Vector3
vector_of3 v = record { x = get_or v 0 zero_f; y = get_or v 1 zero_f; z = get_or v 2 zero_f }

abbrev pub model_from : Grid.Model → Model
model_from m = record { occupied = m.lowest.occupied; free = m.lowest.free; ceiling = m.ceiling }

-- a band above the lowest, by how many lie between; where there is none, it has the lowest one's pair
abbrev band_from : Grid.Model → ℕ → Grid.Band
band_from m i = get_or m.above i (record { cut = 0; pair = m.lowest })

abbrev pair_from : Grid.Pair → Pair
pair_from p = record { occupied = p.occupied; free = p.free }

abbrev pub bands_from : Grid.Model → Bands
bands_from m =
    record {
      low = pair_from m.lowest;
      middle = pair_from (band_from m 0).pair;
      high = pair_from (band_from m 1).pair;
      ceiling = m.ceiling;
      cuts = record { first = (band_from m 0).cut; second = (band_from m 1).cut };
    }

abbrev pub map_of2 : Grid.Head → CMap2
map_of2 h = record { extents = extents_of2 h.extents; model = model_from h.model; frame = record { 0 = h.frame } }

abbrev pub map_of3 : Grid.Head → CMap3
map_of3 h = record { extents = extents_of3 h.extents; bands = bands_from h.model; frame = record { 0 = h.frame } }

abbrev pub cuts_from : List ℕ → Cuts
cuts_from c = record { first = get_or c 0 0; second = get_or c 1 0 }

abbrev pub sample_of2 : Sample → MapSample2
sample_of2 s = record { value = s.value; gradient = vector_of2 s.gradient }

abbrev pub sample_of3 : Sample → MapSample3
sample_of3 s = record { value = s.value; gradient = vector_of3 s.gradient }

-- the values that stand for nothing
abbrev pub no_model : Grid.Model
no_model = Grid.plain_model (record { occupied = zero_f; free = zero_f }) zero_f

abbrev pub no_map : Grid.Head
no_map = record { extents = []; model = no_model; frame = 0 }

abbrev pub no_sample : Sample
no_sample = record { value = zero_f; gradient = [] }

abbrev pub no_axis : TheLine.Axis
no_axis = record { current = zero_f; end = zero_f; increment = zero_f; step = zero_f; error = zero_f }

abbrev pub no_line : TheLine.Line
no_line = record { axes = []; primary = 0; threshold = zero_f; remaining = 0 }

abbrev pub axis_from : TheLine.Axis → Axis
axis_from a = record { current = a.current; end = a.end; increment = a.increment; step = a.step; error = a.error }

abbrev pub line_of2 : TheLine.Line → BresenhamLine2
line_of2 l =
    record {
      x = axis_from (get_or l.axes 0 no_axis);
      y = axis_from (get_or l.axes 1 no_axis);
      primary = l.primary;
      threshold = l.threshold;
      remaining = l.remaining;
    }

abbrev pub line_of3 : TheLine.Line → BresenhamLine3
line_of3 l =
    record {
      x = axis_from (get_or l.axes 0 no_axis);
      y = axis_from (get_or l.axes 1 no_axis);
      z = axis_from (get_or l.axes 2 no_axis);
      primary = l.primary;
      threshold = l.threshold;
      remaining = l.remaining;
    }
