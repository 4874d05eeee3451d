-- Checks, places, clips, spans and steps, of the functions under the entries: each map to the rules has a way back.
-- Assumes nothing.
use Rattle.std.specs.Prelude.{◌≡◌, refl, Ok, Err}
use Rattle.std.proofs.Common.{ap}
use Rattle.rules.specs.OneBeam as Beam
use Rattle.rules.specs.MarksAndFrames as Marks
use Rattle.checks.specs.Checking.{check_of}
use Rattle.places.specs.Places.{place_of}
use Rattle.clip.specs.Spans.{span_of, passage_of}
use Rattle.clip.specs.Clips.{clip2, clip3, tried2, tried3}
use Rattle.marks.specs.declared.marks.Steps.{Steps}
use Rattle.marks.specs.Marking.{steps_of}
use Rattle.types.specs.Beams.{clipped2, clipped3}
use Rattle.types.proofs.Injective.{Injective, of_back, clipped2_injective, clipped3_injective}
use Rattle.types.proofs.InjectiveAnswers.{answer_injective, found_injective, refusal_injective}

pub check_of_injective : Injective check_of
check_of_injective (Ok a) (Ok b) h = refl
check_of_injective (Ok a) (Err r) h = absurd (cc)
check_of_injective (Err r) (Ok b) h = absurd (cc)
check_of_injective (Err q) (Err r) h = ap Err (refusal_injective q r (cc))

pub place_of_injective : Injective place_of
place_of_injective = answer_injective _ (λ a b h. h)

span_of_injective : Injective span_of
span_of_injective = of_back span_of (λ (s : Beam.Span). record { entry = s.entry; exit = s.exit }) (λ s. refl)

pub passage_of_injective : Injective passage_of
passage_of_injective = found_injective span_of span_of_injective

pub steps_of_injective : Injective steps_of
steps_of_injective = of_back steps_of (λ (s : Marks.Steps). record { occupied = s.occupied; free = s.free; floor = s.floor; ceiling = s.ceiling }) (λ s. refl)

pub clip2_injective : Injective clip2
clip2_injective = found_injective clipped2 clipped2_injective

pub tried2_injective : Injective tried2
tried2_injective = found_injective clip2 clip2_injective

pub clip3_injective : Injective clip3
clip3_injective = found_injective clipped3 clipped3_injective

pub tried3_injective : Injective tried3
tried3_injective = found_injective clip3 clip3_injective
