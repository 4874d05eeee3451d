-- The same of the functions under the entries: for each form that their contracts take, that it allows one answer. The
-- exceptions are in `Exceptions`. Assumes nothing.
use Rattle.std.specs.Prelude.{ℕ, ◌+◌, [], ◌≡◌, refl, Bool, List, Float, Result}
use Rattle.std.proofs.Common.{arith, sym, ap, ◌∙◌}
use Rattle.std.specs.Float.{Format}
use Rattle.rules.specs.RefusalNumbers.{Answer, given}
use Rattle.rules.specs.RefusalNumbers.Entries as Entries
use Rattle.rules.specs.RefusalNumbers.Entries.{Outcome}
use Rattle.rules.specs.RefusalNumbers.Editions as Editions
use Rattle.rules.specs.TheGridAndItsBounds as Rules
use Rattle.rules.specs.TheGridAndItsBounds.{pair_at}
use Rattle.rules.specs.MarksAndFrames as Marks
use Rattle.rules.specs.MarksAndFrames.{Mark, steps_at}
use Rattle.rules.specs.OneBeam.{Integrated}
use Rattle.types.specs.declared.frames.Frame.{Frame}
use Rattle.types.specs.declared.frames.Stamp.{Stamp}
use Rattle.types.specs.declared.model.Model.{Model}
use Rattle.types.specs.declared.model.Bands.{Bands}
use Rattle.types.specs.declared.points.Extents3.{Extents3}
use Rattle.types.specs.declared.refusal.Refusal.{Refusal}
use Rattle.types.specs.Points.{point2, point3, vector2, vector3, cell2, cell3, extents2, extents3}
use Rattle.types.specs.Models.{model_of, bands_of}
use Rattle.types.specs.Beams.{is_hit, beam2, beam3}
use Rattle.types.specs.Samples.{sample2, sample3}
use Rattle.types.specs.Refusals.{refusal_of}
use Rattle.types.specs.Answers.{answer_of, found_of, moved_of, count_answer, cell_read, sample_read2, sample_read3}
use Rattle.checks.specs.Checking.{check_of, uses_of}
use Rattle.places.specs.Places.{place_of}
use Rattle.sample.specs.Stencil.{on_axis, stencilled2, stencilled3}
use Rattle.clip.specs.Spans.{passage_of}
use Rattle.clip.specs.Clips.{clip2, clip3, tried2, tried3}
use Rattle.bresenham.specs.Axes.{axis, primary}
use Rattle.bresenham.specs.Lines.{line2, line3}
use Rattle.marks.specs.Marking.{steps_of, MarkedAt}
use Rattle.marks.specs.declared.marks.Steps.{Steps}
use Rattle.grid_map.specs.Heads.{set_outcome}
use Rattle.beam.specs.Applying.{Applied, Beamed, integrated_of}
use Rattle.types.proofs.Injective.{Injective, of_back}
use Rattle.theorems.specs.OneAnswer.Law.{OneAnswer, Fixed, one_answer, pair, plain, beside}
use Rattle.types.proofs.Injective.{point2_injective, point3_injective, vector2_injective, vector3_injective, cell2_injective, cell3_injective, extents2_injective, extents3_injective, model_injective, bands_injective, sample2_injective, sample3_injective, beam2_injective, beam3_injective, hit_back}
use Rattle.types.proofs.InjectiveAnswers.{answer_injective, found_injective, moved_injective, refusal_injective, count_answer_injective, set_answer_injective}
use Rattle.types.proofs.InjectiveAnswers.{cell_read_injective, sample_read2_injective, sample_read3_injective}
use Rattle.bresenham.proofs.Injective.{axis_injective, primary_injective, line2_injective, line3_injective}
use Rattle.sample.proofs.StencilLaws.{on_axis_injective, stencilled2_injective, stencilled3_injective}
use Rattle.theorems.proofs.OneAnswer.Under.{check_of_injective, place_of_injective, passage_of_injective, steps_of_injective, clip2_injective, clip3_injective, tried2_injective, tried3_injective}
use Rattle.theorems.proofs.OneAnswer.Grids.{grid}

-- ---- a value of the code that stands for one of the rules: `point2 r ≡ v`
pub point2-one : Fixed point2
point2-one = one_answer point2_injective

pub point3-one : Fixed point3
point3-one = one_answer point3_injective

pub vector2-one : Fixed vector2
vector2-one = one_answer vector2_injective

pub vector3-one : Fixed vector3
vector3-one = one_answer vector3_injective

pub cell2-one : Fixed cell2
cell2-one = one_answer cell2_injective

pub cell3-one : Fixed cell3
cell3-one = one_answer cell3_injective

pub extents2-one : Fixed extents2
extents2-one = one_answer extents2_injective

pub extents3-one : Fixed extents3
extents3-one = one_answer extents3_injective

pub model_of-one : Fixed model_of
model_of-one = one_answer model_injective

pub sample2-one : Fixed sample2
sample2-one = one_answer sample2_injective

pub sample3-one : Fixed sample3
sample3-one = one_answer sample3_injective

pub beam2-one : Fixed beam2
beam2-one = one_answer beam2_injective

pub beam3-one : Fixed beam3
beam3-one = one_answer beam3_injective

pub refusal_of-one : Fixed refusal_of
refusal_of-one = one_answer refusal_injective

pub is_hit-one : Fixed is_hit
is_hit-one = one_answer (of_back is_hit hit_back (λ t. refl))

-- a number with a name: `r.0 ≡ v`
pub Frame-one : Fixed (λ (k : Frame). k.0)
Frame-one = one_answer (of_back (λ (k : Frame). k.0) (λ n. record { 0 = n }) (λ k. refl))

pub Stamp-one : Fixed (λ (k : Stamp). k.0)
Stamp-one = one_answer (of_back (λ (k : Stamp). k.0) (λ n. record { 0 = n }) (λ k. refl))

-- a place that is given: `v ≡ given r`
pub given_one : (v : Answer ℕ) → OneAnswer (λ (n : ℕ). v ≡ given n)
given_one v a b p q = let same : given a ≡ given b = sym p ∙ q in cc

-- ---- lines, stencils, tests and clips
pub axis-one : Fixed axis
axis-one = one_answer axis_injective

pub primary-one : Fixed primary
primary-one = one_answer primary_injective

pub primary_answer-one : Fixed (answer_of primary)
primary_answer-one = one_answer (answer_injective primary primary_injective)

-- a model, if there is one
pub found_model-one : Fixed (found_of model_of)
found_model-one = one_answer (found_injective model_of model_injective)

-- the steps of a cell
pub steps_of_cell-one : Fixed steps_of
steps_of_cell-one = one_answer steps_of_injective

pub line2-one : Fixed line2
line2-one = one_answer line2_injective

pub line3-one : Fixed line3
line3-one = one_answer line3_injective

pub on_axis-one : Fixed on_axis
on_axis-one = one_answer on_axis_injective

pub stencilled2-one : Fixed stencilled2
stencilled2-one = one_answer stencilled2_injective

pub stencilled3-one : Fixed stencilled3
stencilled3-one = one_answer stencilled3_injective

pub check_of-one : Fixed check_of
check_of-one = one_answer check_of_injective

pub place_of-one : Fixed place_of
place_of-one = one_answer place_of_injective

pub passage_of-one : Fixed passage_of
passage_of-one = one_answer passage_of_injective

pub clip2-one : Fixed clip2
clip2-one = one_answer clip2_injective

pub clip3-one : Fixed clip3
clip3-one = one_answer clip3_injective

pub tried2-one : Fixed tried2
tried2-one = one_answer tried2_injective

pub tried3-one : Fixed tried3
tried3-one = one_answer tried3_injective

-- the steps of a model, the same at every place
pub steps_of-one : (v : ℕ → Marks.Steps) → OneAnswer (λ (s : Steps). (place : ℕ) → steps_of s ≡ v place)
steps_of-one v a b p q = steps_of_injective a b (p 0 ∙ sym (q 0))

-- bands, laid on any extents; and bytes that are the same whatever the extents are
pub bands_of-one : (v : Extents3 → Rules.Model) → OneAnswer (λ (b : Bands). (e : Extents3) → bands_of e b ≡ v e)
bands_of-one v a b p q = let e : Extents3 = record { x = 0; y = 0; z = 0 } in bands_injective e a b (p e ∙ sym (q e))

pub list_for_extents_one : (v : Extents3 → List ℕ) → OneAnswer (λ (bytes : List ℕ). (e : Extents3) → bytes ≡ v e)
list_for_extents_one v a b p q = let e : Extents3 = record { x = 0; y = 0; z = 0 } in p e ∙ sym (q e)

-- what an entry uses of a head
pub uses_of-one : Fixed uses_of
uses_of-one = one_answer (of_back uses_of (λ (u : Entries.Uses). record { model = u.model; odds = u.odds; stamps = u.stamps; frame = u.frame }) (λ u. refl))

-- the model of the band that a place lies in, by its steps
pub steps_at-one : (place : ℕ) → Fixed (λ (m : Model). steps_at (model_of m) place)
unfolding steps_at pair_at
steps_at-one place =
    one_answer (of_back (λ (m : Model). steps_at (model_of m) place)
    (λ (s : Marks.Steps). record { occupied = s.occupied; free = s.free; ceiling = s.ceiling }) (λ m. refl))

-- ---- an answer or a reading
pub count_answer-one : Fixed count_answer
count_answer-one = one_answer count_answer_injective

pub cell_read-one : Fixed cell_read
cell_read-one = one_answer cell_read_injective

pub sample_read2-one : Fixed sample_read2
sample_read2-one = one_answer sample_read2_injective

pub sample_read3-one : Fixed sample_read3
sample_read3-one = one_answer sample_read3_injective

integrated : Injective {A = Result ℕ Refusal × (List Float × List ℕ)} {B = Integrated} (λ a. integrated_of a.0 a.1.0 a.1.1)
integrated a b h =
    pair (count_answer_injective a.0 b.0 (ap (λ (i : Integrated). i.answer) h)) (grid a.1 b.1 (ap (λ (i : Integrated). i.grid) h))

pub integrated_of-one : Fixed {A = Result ℕ Refusal × (List Float × List ℕ)} (λ a. integrated_of a.0 a.1.0 a.1.1)
integrated_of-one = one_answer integrated

-- a record that was moved back to edition 1: of two axes its size alone
abbrev pub size_moved : ℕ → Editions.Moved
size_moved size = record { size = size; cuts = [] }

pub size_moved_injective : Injective size_moved
size_moved_injective a b h = ap (λ (m : Editions.Moved). m.size) h

pub moved2-one : Fixed size_moved
moved2-one = one_answer size_moved_injective

pub moved3-one : Fixed moved_of
moved3-one = one_answer moved_injective

-- a number to which another is added
pub added-one : (k : ℕ) → Fixed (λ (n : ℕ). n + k)
added-one k = one_answer (λ a b h. omega arith)

-- a cell set by the ceiling of whatever model has it
model_with : Float → Rules.Model
model_with c = Rules.plain_model (record { occupied = c; free = c }) c

pub ceiling_one : {A B : Type 0} {f : A → B} → Injective f → (c : Float) (v : Rules.Model → B)
    → OneAnswer (λ (a : A). (m : Rules.Model) → m.ceiling ≡ c → f a ≡ v m)
unfolding model_with
ceiling_one one c v a b p q = one a b (p (model_with c) refl ∙ sym (q (model_with c) refl))

pub list_by_ceiling_one : (c : Float) (v : Rules.Model → List Float) → OneAnswer (λ (odds : List Float). (m : Rules.Model) → m.ceiling ≡ c → odds ≡ v m)
list_by_ceiling_one = ceiling_one plain

pub answer_by_ceiling_one : (c : Float) (v : Rules.Model → Outcome (Unit {0}) (List Float))
    → OneAnswer (λ (a : Result (Unit {0}) Refusal × List Float). (m : Rules.Model) → m.ceiling ≡ c → set_outcome a.0 a.1 ≡ v m)
answer_by_ceiling_one = ceiling_one (beside set_answer_injective plain)

-- ---- a few equations: marks, and a beam with the room that it used up
pub MarkedAt-one : (f : Format) (occupied : Bool) (s : Marks.Steps) (frame at : ℕ) (odds : List Float) (stamps : List ℕ)
    → OneAnswer (λ (a : Bool × (List Float × List ℕ)). MarkedAt f occupied s frame at odds stamps a.0 a.1.0 a.1.1)
MarkedAt-one f occupied s frame at odds stamps a b p q =
    pair (p.answer ∙ sym q.answer) (pair (p.odds_now ∙ sym q.odds_now) (p.stamps_now ∙ sym q.stamps_now))

pub Applied-one : (f : Format) (xs : List Mark) (m : Rules.Model) (frame : ℕ) (odds : List Float) (stamps : List ℕ)
    → OneAnswer (λ (a : ℕ × (List Float × List ℕ)). Applied f xs m frame odds stamps a.0 a.1.0 a.1.1)
Applied-one f xs m frame odds stamps a b p q = pair (p.count ∙ sym q.count) (grid a.1 b.1 (p.grid ∙ sym q.grid))

pub Beamed-one : (i : Integrated) (frame : ℕ) (stamps : List ℕ)
    → OneAnswer (λ (a : Result ℕ Refusal × (List Float × List ℕ)). Beamed i frame stamps a.0 a.1.0 a.1.1)
Beamed-one i frame stamps a b p q = integrated_of-one i a b p.is q.is

-- a fact of what is handed over, and nothing answered
pub nothing_one : {Fact : Type 0} → OneAnswer (λ (t : Unit {0}). Fact)
nothing_one a b p q = refl
