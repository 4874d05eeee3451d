-- Each axis's cell is below its extent.
use Rattle.std.proofs.Common.{refl}
use Rattle.laws.specs.Places.{place_lt}
use Rattle.beam.proofs.Following.{on_a_map}
use Rattle.beam.proofs.beams.Extents2Beams.place_followed.Goals as goal

pub returns : goal.returns
returns c = record {
  small = (
    on_a_map _ _ c.if-cells-self.false c.requires.in_bounds.0.1,
    (on_a_map _ _ c.if-cells-self-2.false c.requires.in_bounds.0.2.1, tt),
  );
  found = c.place_within2.ensures;
  below = place_lt _ _ _ refl c.place_within2.ensures;
}
