-- The models as the rules': one pair of steps, or three bands laid on a map's extents. Definitions only.
use Rattle.std.specs.Prelude.{ℕ, List, [], ◌∷◌}
use Rattle.rules.specs.TheGridAndItsBounds as Grid
use Rattle.types.specs.Points.{extents3}
use Rattle.types.specs.declared.points.Extents3.{Extents3}
use Rattle.types.specs.declared.model.Model.{Model}
use Rattle.types.specs.declared.model.Pair.{Pair}
use Rattle.types.specs.declared.model.Cuts.{Cuts}
use Rattle.types.specs.declared.model.Bands.{Bands}

abbrev pub model_of : Model → Grid.Model
model_of m = Grid.plain_model (record { occupied = m.occupied; free = m.free }) m.ceiling

abbrev pub pair_of : Pair → Grid.Pair
pair_of p = record { occupied = p.occupied; free = p.free }

abbrev pub cuts_of : Cuts → List ℕ
cuts_of c = c.first ∷ c.second ∷ []

abbrev pub bands_of : Extents3 → Bands → Grid.Model
bands_of e b =
    record {
      lowest = pair_of b.low;
      above = record { cut = b.cuts.first; pair = pair_of b.middle } ∷ record { cut = b.cuts.second; pair = pair_of b.high } ∷ [];
      ceiling = b.ceiling;
      layer = Grid.layer_of (extents3 e);
    }
