-- A map's head, and the answers that hold one, are fixed by what they stand for. Each map has a way back. Assumes
-- nothing.
use mathlib.Core.Path.{refl, ap, ap₂}
use mathlib.Core.Bool.{Bool}
use Rattle.rules.specs.TheGridAndItsBounds.{Head}
use Rattle.rules.specs.RefusalNumbers.Editions as Editions
use Rattle.types.proofs.Injective.{Injective, of_back, extents2_back, extents3_back, model_back, bands_back}
use Rattle.types.proofs.InjectiveAnswers.{answer_injective}
use Rattle.types.specs.Answers.{answer_of}
use Rattle.types.specs.declared.points.Extents2.{Extents2}
use Rattle.types.specs.declared.points.Extents3.{Extents3}
use Rattle.types.specs.declared.model.Model.{Model}
use Rattle.types.specs.declared.model.Bands.{Bands}
use Rattle.grid_map.specs.declared.map.GridMap.{GridMap}
use Rattle.grid_map.specs.Heads.{head2, head3, loaded_of}

abbrev head2_back : Head → GridMap Extents2 Model
head2_back h = record { extents = extents2_back h.extents; model = model_back h.model; frame = record { 0 = h.frame } }

abbrev head3_back : Head → GridMap Extents3 Bands
head3_back h = record { extents = extents3_back h.extents; model = bands_back h.model; frame = record { 0 = h.frame } }

pub head2_injective : Injective head2
head2_injective = of_back head2 head2_back (λ a. refl)

pub head3_injective : Injective head3
head3_injective = of_back head3 head3_back (λ a. refl)

pub loaded_injective : {M : Type 0} (head : M → Head) → Injective head → Injective (loaded_of head)
loaded_injective head i a b h = ap₂ (λ (m : _) (r : Bool). record { map = m; running = r }) (i a.map b.map (ap (λ (l : Editions.Loaded). l.head) h)) (ap (λ (l : Editions.Loaded). l.running) h)

pub map_answer2_injective : Injective (answer_of head2)
map_answer2_injective = answer_injective head2 head2_injective

pub map_answer3_injective : Injective (answer_of head3)
map_answer3_injective = answer_injective head3 head3_injective

pub load_answer2_injective : Injective (answer_of (loaded_of head2))
load_answer2_injective = answer_injective (loaded_of head2) (loaded_injective head2 head2_injective)

pub load_answer3_injective : Injective (answer_of (loaded_of head3))
load_answer3_injective = answer_injective (loaded_of head3) (loaded_injective head3 head3_injective)
