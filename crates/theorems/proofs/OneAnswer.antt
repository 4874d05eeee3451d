-- TWO ANSWERS ALLOWED FOR ONE INPUT ARE EQUAL, and so is what is left in the lent lists and in a lent head. A
-- contract's `ensures` is an equation, or a few, with what the rules say of the input; here is, for each form that the
-- `ensures` of a public function takes, that it allows one answer. The law is in `Law`; docs/ENTRIES.md names each
-- function with its theorem. `v` is any value of the rules. Assumes nothing.
pub mod Under
pub mod Exceptions
pub mod Examples
pub mod Grids
pub mod Helpers
use Rattle.std.specs.Prelude.{ℕ, Bool, List, Float, Result}
use Rattle.std.proofs.Common.{sym, ap, ◌∙◌}
use Rattle.rules.specs.RefusalNumbers.{Answer}
use Rattle.rules.specs.RefusalNumbers.Entries.{Outcome}
use Rattle.rules.specs.TheGridAndItsBounds.{Head, Grid}
use Rattle.rules.specs.ManySamples.{Slots}
use Rattle.types.specs.declared.refusal.Refusal.{Refusal}
use Rattle.types.specs.declared.answers.Swept.{Swept}
use Rattle.types.specs.declared.answers.Moved.{Moved}
use Rattle.types.specs.Answers.{moved_of, set_answer, odds_answer, sample_answer2, sample_answer3, cell_answer2, cell_answer3}
use Rattle.bresenham.specs.Lines.{plotted2, plotted3, step2, step3}
use Rattle.marks.specs.Marking.{grid_of}
use Rattle.types.specs.declared.points.Extents2.{Extents2}
use Rattle.types.specs.declared.points.Extents3.{Extents3}
use Rattle.types.specs.declared.model.Model.{Model}
use Rattle.types.specs.declared.model.Bands.{Bands}
use Rattle.grid_map.specs.declared.map.GridMap.{GridMap}
use Rattle.grid_map.specs.declared.loaded.Loaded.{Loaded}
use Rattle.grid_map.specs.Heads.{head2, head3, map_outcome, load_outcome, open_outcome, set_outcome}
use Rattle.beam.specs.Applying.{mark_outcome, count_outcome}
use Rattle.lent.specs.LentHead.{Opened, opened_as}
use Rattle.record_writer.specs.Writing.{write_outcome}
use Rattle.editions.specs.Moves.{move_outcome, moved_outcome}
use Rattle.sweep_reader.specs.Reading.{sweep_outcome}
use Rattle.chart.specs.Charts.{chart_outcome}
use Rattle.season.specs.Reports.{report_outcome}
use Rattle.sample_list.specs.Slots.{slots_of, slots_outcome}
use Rattle.c_types.specs.Answers.{Told}
use Rattle.c_types.specs.Heads as CHeads
use Rattle.c_types.specs.declared.heads.CMap2.{CMap2}
use Rattle.c_types.specs.declared.heads.CMap3.{CMap3}
use Rattle.c_types.proofs.Injective as CInjective
use Rattle.types.proofs.Injective.{Injective}
use Rattle.theorems.specs.OneAnswer.Law.{OneAnswer, Fixed, one_answer, pair, plain, beside, both}
use Rattle.types.proofs.InjectiveAnswers.{answer_injective, moved_injective}
use Rattle.theorems.proofs.OneAnswer.Helpers.{size_moved, size_moved_injective}
use Rattle.types.proofs.InjectiveAnswers.{mark_answer_injective, count_answer_injective, sweep_answer_injective, move_answer_injective, set_answer_injective, cell_answer2_injective, cell_answer3_injective}
use Rattle.types.proofs.InjectiveAnswers.{odds_answer_injective, sample_answer2_injective, sample_answer3_injective}
use Rattle.bresenham.proofs.Injective.{step2_injective, step3_injective, plotted2_injective, plotted3_injective}
use Rattle.grid_map.proofs.Injective.{head2_injective, head3_injective, map_answer2_injective, map_answer3_injective, load_answer2_injective, load_answer3_injective}
use Rattle.theorems.proofs.OneAnswer.Grids.{grid, slots}

-- ---- one value, `r ≡ v`, as in C, or one list that is left, `now xs.exit ≡ v`
pub one_value : {A : Type 0} → Fixed (λ (a : A). a)
one_value = one_answer plain

-- ---- an answer alone: `cell_answer2 r ≡ v`
pub cell_answer2-one : Fixed cell_answer2
cell_answer2-one = one_answer cell_answer2_injective

pub cell_answer3-one : Fixed cell_answer3
cell_answer3-one = one_answer cell_answer3_injective

pub odds_answer-one : Fixed odds_answer
odds_answer-one = one_answer odds_answer_injective

pub sample_answer2-one : Fixed sample_answer2
sample_answer2-one = one_answer sample_answer2_injective

pub sample_answer3-one : Fixed sample_answer3
sample_answer3-one = one_answer sample_answer3_injective

pub plotted2-one : Fixed plotted2
plotted2-one = one_answer plotted2_injective

pub plotted3-one : Fixed plotted3
plotted3-one = one_answer plotted3_injective

pub step2-one : Fixed step2
step2-one = one_answer step2_injective

pub step3-one : Fixed step3
step3-one = one_answer step3_injective

-- ---- an answer beside lent lists: `count_outcome r (now odds.exit) (now stamps.exit) ≡ v`
pub map_outcome2-one : Fixed {A = Result (GridMap Extents2 Model) Refusal × (List Float × List ℕ)} (λ a. map_outcome head2 a.0 a.1.0 a.1.1)
map_outcome2-one = one_answer (beside map_answer2_injective grid)

pub map_outcome3-one : Fixed {A = Result (GridMap Extents3 Bands) Refusal × (List Float × List ℕ)} (λ a. map_outcome head3 a.0 a.1.0 a.1.1)
map_outcome3-one = one_answer (beside map_answer3_injective grid)

pub load_outcome2-one : Fixed {A = Result (Loaded (GridMap Extents2 Model)) Refusal × (List Float × List ℕ)} (λ a. load_outcome head2 a.0 a.1.0 a.1.1)
load_outcome2-one = one_answer (beside load_answer2_injective grid)

pub load_outcome3-one : Fixed {A = Result (Loaded (GridMap Extents3 Bands)) Refusal × (List Float × List ℕ)} (λ a. load_outcome head3 a.0 a.1.0 a.1.1)
load_outcome3-one = one_answer (beside load_answer3_injective grid)

pub open_outcome2-one : Fixed {A = Result (GridMap Extents2 Model) Refusal × List ℕ} (λ a. open_outcome head2 a.0 a.1)
open_outcome2-one = one_answer (beside map_answer2_injective plain)

pub open_outcome3-one : Fixed {A = Result (GridMap Extents3 Bands) Refusal × List ℕ} (λ a. open_outcome head3 a.0 a.1)
open_outcome3-one = one_answer (beside map_answer3_injective plain)

pub set_outcome-one : Fixed {A = Result (Unit {0}) Refusal × List Float} (λ a. set_outcome a.0 a.1)
set_outcome-one = one_answer (beside set_answer_injective plain)

pub mark_outcome-one : Fixed {A = Result Bool Refusal × (List Float × List ℕ)} (λ a. mark_outcome a.0 a.1.0 a.1.1)
mark_outcome-one = one_answer (beside mark_answer_injective grid)

pub count_outcome-one : Fixed {A = Result ℕ Refusal × (List Float × List ℕ)} (λ a. count_outcome a.0 a.1.0 a.1.1)
count_outcome-one = one_answer (beside count_answer_injective grid)

pub sweep_outcome-one : Fixed {A = Result Swept Refusal × (List Float × List ℕ)} (λ a. sweep_outcome a.0 a.1.0 a.1.1)
sweep_outcome-one = one_answer (beside sweep_answer_injective grid)

pub write_outcome-one : Fixed {A = Result ℕ Refusal × List ℕ} (λ a. write_outcome a.0 a.1)
write_outcome-one = one_answer (beside count_answer_injective plain)

pub move_outcome-one : Fixed {A = Result Moved Refusal × List ℕ} (λ a. move_outcome a.0 a.1)
move_outcome-one = one_answer (beside move_answer_injective plain)

-- of two axes the size alone is handed over, of three the cuts too
pub moved_outcome2-one : Fixed {A = Result ℕ Refusal × List ℕ} (λ a. moved_outcome size_moved a.0 a.1)
moved_outcome2-one = one_answer (beside (answer_injective size_moved size_moved_injective) plain)

pub moved_outcome3-one : Fixed {A = Result Moved Refusal × List ℕ} (λ a. moved_outcome moved_of a.0 a.1)
moved_outcome3-one = one_answer (beside (answer_injective moved_of moved_injective) plain)

pub chart_outcome-one : Fixed {A = Result (Unit {0}) Refusal × List ℕ} (λ a. chart_outcome a.0 a.1)
chart_outcome-one = one_answer (beside set_answer_injective plain)

pub report_outcome-one : Fixed {A = Result ℕ Refusal × List ℕ} (λ a. report_outcome a.0 a.1)
report_outcome-one = one_answer (beside count_answer_injective plain)

pub slots_outcome-one : Fixed {A = Result (Unit {0}) Refusal × (List Float × List ℕ)} (λ a. slots_outcome a.0 a.1.0 a.1.1)
slots_outcome-one = one_answer (beside set_answer_injective slots)

-- ---- an answer beside a lent head and its stamps: `opened_as head2 r map.new stamps.new ≡ v`
opened : {M : Type 0} {head : M → Head} → Injective head
    → Injective {A = Result (Unit {0}) Refusal × (M × List ℕ)} {B = Opened} (λ a. record { answer = set_answer a.0; head = head a.1.0; stamps = a.1.1 })
opened one a b h =
    pair (set_answer_injective a.0 b.0 (ap (λ (o : Opened). o.answer) h))
    (pair (one a.1.0 b.1.0 (ap (λ (o : Opened). o.head) h)) (ap (λ (o : Opened). o.stamps) h))

pub opened2-one : Fixed {A = Result (Unit {0}) Refusal × ((GridMap Extents2 Model) × List ℕ)} (λ a. opened_as head2 a.0 a.1.0 a.1.1)
opened2-one = one_answer (opened head2_injective)

pub opened3-one : Fixed {A = Result (Unit {0}) Refusal × ((GridMap Extents3 Bands) × List ℕ)} (λ a. opened_as head3 a.0 a.1.0 a.1.1)
opened3-one = one_answer (opened head3_injective)

-- ---- what is told to C, beside what is lent: `Told c_count v r (grid_of (now odds.exit) (now stamps.exit))`
told : {A L C X : Type 0} {asStruct : Answer A → C} {lent : X → L} → Injective lent → (v : Outcome A L)
    → OneAnswer (λ (a : C × X). Told asStruct v a.0 (lent a.1))
told one v a b p q = pair (p.answer ∙ sym q.answer) (one a.1 b.1 (p.lent ∙ sym q.lent))

pub Told-list_one : {A C X : Type 0} {asStruct : Answer A → C} (v : Outcome A (List X)) → OneAnswer (λ (a : C × List X). Told asStruct v a.0 a.1)
Told-list_one = told plain

pub Told-grid_one : {A C : Type 0} {asStruct : Answer A → C} (v : Outcome A Grid)
    → OneAnswer (λ (a : C × (List Float × List ℕ)). Told asStruct v a.0 (grid_of a.1.0 a.1.1))
Told-grid_one = told grid

pub Told-slots_one : {A C : Type 0} {asStruct : Answer A → C} (v : Outcome A Slots)
    → OneAnswer (λ (a : C × (List Float × List ℕ)). Told asStruct v a.0 (slots_of a.1.0 a.1.1))
Told-slots_one = told slots

pub Told-head2_one : {A C : Type 0} {asStruct : Answer A → C} (v : Outcome A (Head × List ℕ))
    → OneAnswer (λ (a : C × (CMap2 × List ℕ)). Told asStruct v a.0 (CHeads.head2 a.1.0, a.1.1))
Told-head2_one = told (both CInjective.head2_injective plain)

pub Told-head3_one : {A C : Type 0} {asStruct : Answer A → C} (v : Outcome A (Head × List ℕ))
    → OneAnswer (λ (a : C × (CMap3 × List ℕ)). Told asStruct v a.0 (CHeads.head3 a.1.0, a.1.1))
Told-head3_one = told (both CInjective.head3_injective plain)
