-- Each map to the rules is injective: two values that stand for the same are the same. So a contract that fixes what an
-- answer stands for fixes the answer. Each map has a way back, and one law does the rest. Answers and refusals are in
-- `InjectiveAnswers`. Assumes nothing.
use Prim.Native.Nat.{ℕ}
use mathlib.Core.Path.{◌≡◌, refl, sym, ap, ◌∙◌}
use mathlib.Core.Bool.{Bool}
use mathlib.Core.List.{List}
use lib.IntN.{ℤ, pos}
use lib.ListN.{get_or}
use lib.Ieee.{Float, nan}
use Rattle.rules.specs.TheGridAndItsBounds as Grid
use Rattle.rules.specs.Coordinates as Coordinates
use Rattle.rules.specs.OneBeam as Beam
use Rattle.rules.specs.VerticalBeam as Vertical
use Rattle.types.specs.declared.points.Point2.{Point2}
use Rattle.types.specs.declared.points.Point3.{Point3}
use Rattle.types.specs.declared.points.Vector2.{Vector2}
use Rattle.types.specs.declared.points.Vector3.{Vector3}
use Rattle.types.specs.declared.points.Cell2.{Cell2}
use Rattle.types.specs.declared.points.Cell3.{Cell3}
use Rattle.types.specs.declared.points.Extents2.{Extents2}
use Rattle.types.specs.declared.points.Extents3.{Extents3}
use Rattle.types.specs.declared.model.Model.{Model}
use Rattle.types.specs.declared.model.Pair.{Pair}
use Rattle.types.specs.declared.model.Bands.{Bands}
use Rattle.types.specs.declared.samples.MapSample2.{MapSample2}
use Rattle.types.specs.declared.samples.MapSample3.{MapSample3}
use Rattle.types.specs.declared.beams.ScanBeam2.{ScanBeam2}
use Rattle.types.specs.declared.beams.ScanBeam3.{ScanBeam3}
use Rattle.types.specs.declared.beams.VerticalBeam.{VerticalBeam}
use Rattle.types.specs.declared.beams.Clipped.{Clipped}
use Rattle.types.specs.declared.beams.RayTermination.{RayTermination}
use Rattle.types.specs.Points.{point2, point3, vector2, vector3, cell2, cell3, extents2, extents3}
use Rattle.types.specs.Models.{model_of, bands_of}
use Rattle.types.specs.Samples.{sample2, sample3}
use Rattle.types.specs.Beams.{beam2, beam3, vertical, clipped2, clipped3}

abbrev pub Injective : {A B : Type 0} → (A → B) → Type 0
Injective {A} f = (a b : A) → f a ≡ f b → a ≡ b

-- a map with a way back is injective
pub of_back : {A B : Type 0} (f : A → B) (back : B → A) → ((a : A) → back (f a) ≡ a) → Injective f
of_back f back there a b h = sym (there a) ∙ ap back h ∙ there b

abbrev pub point2_back : List Float → Point2
point2_back xs = record { x = get_or xs 0 nan; y = get_or xs 1 nan }

pub point2_injective : Injective point2
point2_injective = of_back point2 point2_back (λ a. refl)

abbrev pub point3_back : List Float → Point3
point3_back xs = record { x = get_or xs 0 nan; y = get_or xs 1 nan; z = get_or xs 2 nan }

pub point3_injective : Injective point3
point3_injective = of_back point3 point3_back (λ a. refl)

abbrev pub vector2_back : List Float → Vector2
vector2_back xs = record { x = get_or xs 0 nan; y = get_or xs 1 nan }

pub vector2_injective : Injective vector2
vector2_injective = of_back vector2 vector2_back (λ a. refl)

abbrev pub vector3_back : List Float → Vector3
vector3_back xs = record { x = get_or xs 0 nan; y = get_or xs 1 nan; z = get_or xs 2 nan }

pub vector3_injective : Injective vector3
vector3_injective = of_back vector3 vector3_back (λ a. refl)

abbrev pub cell2_back : List ℤ → Cell2
cell2_back xs = record { x = get_or xs 0 (pos 0); y = get_or xs 1 (pos 0) }

pub cell2_injective : Injective cell2
cell2_injective = of_back cell2 cell2_back (λ a. refl)

abbrev pub cell3_back : List ℤ → Cell3
cell3_back xs = record { x = get_or xs 0 (pos 0); y = get_or xs 1 (pos 0); z = get_or xs 2 (pos 0) }

pub cell3_injective : Injective cell3
cell3_injective = of_back cell3 cell3_back (λ a. refl)

abbrev pub extents2_back : List ℕ → Extents2
extents2_back xs = record { x = get_or xs 0 0; y = get_or xs 1 0 }

pub extents2_injective : Injective extents2
extents2_injective = of_back extents2 extents2_back (λ a. refl)

abbrev pub extents3_back : List ℕ → Extents3
extents3_back xs = record { x = get_or xs 0 0; y = get_or xs 1 0; z = get_or xs 2 0 }

pub extents3_injective : Injective extents3
extents3_injective = of_back extents3 extents3_back (λ a. refl)

abbrev pub model_back : Grid.Model → Model
model_back m = record { occupied = m.lowest.occupied; free = m.lowest.free; ceiling = m.ceiling }

pub model_injective : Injective model_of
model_injective = of_back model_of model_back (λ a. refl)

-- a band above the lowest, by how many lie between
abbrev band_back : Grid.Model → ℕ → Grid.Band
band_back m i = get_or m.above i (record { cut = 0; pair = m.lowest })

abbrev pair_back : Grid.Pair → Pair
pair_back p = record { occupied = p.occupied; free = p.free }

abbrev pub bands_back : Grid.Model → Bands
bands_back m =
    record {
      low = pair_back m.lowest;
      middle = pair_back (band_back m 0).pair;
      high = pair_back (band_back m 1).pair;
      ceiling = m.ceiling;
      cuts = record { first = (band_back m 0).cut; second = (band_back m 1).cut };
    }

pub bands_injective : (e : Extents3) → Injective (bands_of e)
bands_injective e = of_back (bands_of e) bands_back (λ a. refl)

abbrev pub sample2_back : Coordinates.Sample → MapSample2
sample2_back s = record { value = s.value; gradient = vector2_back s.gradient }

pub sample2_injective : Injective sample2
sample2_injective = of_back sample2 sample2_back (λ a. refl)

abbrev pub clipped2_back : Beam.Clipped → Clipped Point2
clipped2_back c = record { entry = point2_back c.entry; exit = point2_back c.exit; inside = c.inside }

pub clipped2_injective : Injective clipped2
clipped2_injective = of_back clipped2 clipped2_back (λ a. refl)

abbrev pub sample3_back : Coordinates.Sample → MapSample3
sample3_back s = record { value = s.value; gradient = vector3_back s.gradient }

pub sample3_injective : Injective sample3
sample3_injective = of_back sample3 sample3_back (λ a. refl)

abbrev pub clipped3_back : Beam.Clipped → Clipped Point3
clipped3_back c = record { entry = point3_back c.entry; exit = point3_back c.exit; inside = c.inside }

pub clipped3_injective : Injective clipped3
clipped3_injective = of_back clipped3 clipped3_back (λ a. refl)

abbrev pub hit_back : Bool → RayTermination
hit_back hit = record { 0 = hit }

abbrev pub beam2_back : Beam.Beam → ScanBeam2
beam2_back b = record { origin = point2_back b.origin; endpoint = point2_back b.endpoint; termination = hit_back b.hit }

pub beam2_injective : Injective beam2
beam2_injective = of_back beam2 beam2_back (λ a. refl)

abbrev pub beam3_back : Beam.Beam → ScanBeam3
beam3_back b = record { origin = point3_back b.origin; endpoint = point3_back b.endpoint; termination = hit_back b.hit }

pub beam3_injective : Injective beam3
beam3_injective = of_back beam3 beam3_back (λ a. refl)

abbrev pub vertical_back : Vertical.Vertical → VerticalBeam
vertical_back b = record { x = b.x; y = b.y; bottom = b.bottom; top = b.top; termination = hit_back b.hit }

pub vertical_injective : Injective vertical
vertical_injective = of_back vertical vertical_back (λ a. refl)
