-- Nothing is lost on the way to C: from the struct that C sees, the entry's answer can be read back, by the refusal's
-- number, and so can a head. One law does the rest. Assumes nothing.
use Prim.Native.Nat.{ℕ}
use mathlib.Core.Path.{◌≡◌, refl}
use mathlib.Core.Bool.{cond}
use lib.Dec.{eqb}
use Rattle.std.specs.Prelude.{Result, Ok, Err, Option, Some, None}
use Rattle.rules.specs.RefusalNumbers.{Answer, given, refused}
use Rattle.rules.specs.RefusalNumbers as Paper
use Rattle.types.proofs.Injective.{Injective, of_back, extents2_back, extents3_back, model_back, bands_back}
use Rattle.types.specs.Refusals.{refusal_of}
use Rattle.types.specs.Answers.{answer_of, mark_answer, count_answer, sweep_answer, move_answer, set_answer, odds_answer, sample_answer2, sample_answer3, cell_answer2, cell_answer3}
use Rattle.types.specs.declared.refusal.Refusal as Refusal
use Rattle.types.specs.declared.refusal.Refusal.TheVariants as R
use Rattle.grid_map.specs.Heads as Heads
use Rattle.grid_map.specs.Heads.{loaded_of}
use Rattle.bresenham.specs.Lines.{plotted2, plotted3, step2, step3}
use Rattle.bresenham.specs.declared.line.BresenhamLine2.{BresenhamLine2}
use Rattle.bresenham.specs.declared.line.BresenhamLine3.{BresenhamLine3}
use Rattle.types.specs.declared.points.Cell2.{Cell2}
use Rattle.types.specs.declared.points.Cell3.{Cell3}
use Rattle.c_types.specs.declared.refusals.CRefusal.{CRefusal}
use Rattle.c_types.specs.declared.lines.CStep2.{CStep2}
use Rattle.c_types.specs.declared.lines.CStep3.{CStep3}
use Rattle.c_types.specs.Refusals.{plain, c_refusal}
use Rattle.c_types.specs.Heads.{head2, head3, from_c2, from_c3}
use Rattle.c_types.specs.Answers.{c_mark, c_count, c_sweep, c_move, c_set, c_odds, c_map2, c_map3, c_load2, c_load3, c_cell2, c_cell3, c_sample2, c_sample3}
use Rattle.c_types.specs.Lines.{c_line2, c_line3, c_step2, c_step3}

-- the refusal with a number; 7 has two cases, told apart by how many values it gives
abbrev refusal_back : CRefusal → Refusal.Refusal
refusal_back c =
    let n : ℕ = c.number in
    cond (eqb n 1) (R.DimensionTooSmall c.axis c.extent)
    (cond (eqb n 2) R.CapacityOverflow
    (cond (eqb n 3) R.Model
    (cond (eqb n 4) R.Buffer
    (cond (eqb n 5) (R.OutOfBounds c.axis c.index c.extent c.axes)
    (cond (eqb n 6) (R.NonFiniteCoordinate c.axis)
    (cond (eqb n 7) (cond (eqb c.values 0) R.Ray (R.RayInList c.place c.count))
    (cond (eqb n 8) R.Beams
    (cond (eqb n 9) R.Frame
    (cond (eqb n 10) (R.Record c.place)
    (cond (eqb n 11) (R.Room c.needed)
    (cond (eqb n 12) (R.Sweep c.place)
    (cond (eqb n 13) R.Odds
    (cond (eqb n 14) R.Lists
    (cond (eqb n 15) R.Cuts
    (cond (eqb n 16) R.Edition
    (cond (eqb n 18) R.Profile
    (cond (eqb n 17) (R.Column c.place)
    (cond (eqb n 19) R.Sizes
    (cond (eqb n 20) R.Charts R.Chart)))))))))))))))))))

-- what was asked for where the number is 0, else the refusal
abbrev read_back : {T : Type 0} → T → CRefusal → Result T Refusal.Refusal
read_back ok c = cond (eqb c.number 0) (Ok ok) (Err (refusal_back c))

refused_there : {T : Type 0} (ok : T) (r : Refusal.Refusal) → read_back ok (c_refusal (refusal_of r)) ≡ Err r
refused_there ok (R.DimensionTooSmall axis extent) = refl
refused_there ok R.CapacityOverflow = refl
refused_there ok R.Model = refl
refused_there ok R.Buffer = refl
refused_there ok (R.OutOfBounds axis index extent axes) = refl
refused_there ok (R.NonFiniteCoordinate axis) = refl
refused_there ok R.Ray = refl
refused_there ok (R.RayInList place count) = refl
refused_there ok R.Beams = refl
refused_there ok R.Frame = refl
refused_there ok (R.Record offset) = refl
refused_there ok (R.Room needed) = refl
refused_there ok (R.Sweep offset) = refl
refused_there ok R.Odds = refl
refused_there ok R.Lists = refl
refused_there ok R.Cuts = refl
refused_there ok R.Edition = refl
refused_there ok R.Profile = refl
refused_there ok (R.Column column) = refl
refused_there ok R.Sizes = refl
refused_there ok R.Charts = refl
refused_there ok R.Chart = refl

-- a struct that holds a refusal, 0 where the call was answered, and what was asked for, which can be read back then
told_there : {T A C : Type 0} (f : T → A) (asStruct : Answer A → C) (refusal : C → CRefusal) (value : C → T)
    → ((x : T) → refusal (asStruct (given (f x))) ≡ plain 0) → ((x : T) → value (asStruct (given (f x))) ≡ x)
    → ((r : Paper.Refusal) → refusal (asStruct (refused r)) ≡ c_refusal r)
    → (a : Result T Refusal.Refusal) → read_back (value (asStruct (answer_of f a))) (refusal (asStruct (answer_of f a))) ≡ a
told_there f asStruct refusal value answered there not (Ok x) = simp (answered x, there x)
told_there f asStruct refusal value answered there not (Err r) = rw (not (refusal_of r)) (refused_there _ r)

told_injective : {T A C : Type 0} (f : T → A) (asStruct : Answer A → C) (refusal : C → CRefusal) (value : C → T)
    → ((x : T) → refusal (asStruct (given (f x))) ≡ plain 0) → ((x : T) → value (asStruct (given (f x))) ≡ x)
    → ((r : Paper.Refusal) → refusal (asStruct (refused r)) ≡ c_refusal r) → Injective (λ a. asStruct (answer_of f a))
told_injective f asStruct refusal value answered there not =
    of_back (λ a. asStruct (answer_of f a)) (λ c. read_back (value c) (refusal c)) (told_there f asStruct refusal value answered there not)

pub mark_injective : Injective (λ a. c_mark (mark_answer a))
mark_injective = told_injective _ c_mark (λ c. c.refusal) (λ c. c.changed) (λ x. refl) (λ x. refl) (λ r. refl)

pub count_injective : Injective (λ a. c_count (count_answer a))
count_injective = told_injective _ c_count (λ c. c.refusal) (λ c. c.count) (λ x. refl) (λ x. refl) (λ r. refl)

pub sweep_injective : Injective (λ a. c_sweep (sweep_answer a))
sweep_injective = told_injective _ c_sweep (λ c. c.refusal) (λ c. record { station = c.station; count = c.count }) (λ x. refl) (λ x. refl) (λ r. refl)

pub move_injective : Injective (λ a. c_move (move_answer a))
move_injective = told_injective _ c_move (λ c. c.refusal) (λ c. record { size = c.count; cuts = c.cuts }) (λ x. refl) (λ x. refl) (λ r. refl)

pub set_injective : Injective (λ a. c_set (set_answer a))
set_injective = told_injective _ c_set (λ c. c) (λ c. tt) (λ x. refl) (λ x. refl) (λ r. refl)

pub odds_injective : Injective (λ a. c_odds (odds_answer a))
odds_injective =
    told_injective _ c_odds (λ c. c.refusal) (λ c. cond c.found (Some c.odds) None)
    (elim [ Some x ↦ refl | None ↦ refl ]) (elim [ Some x ↦ refl | None ↦ refl ]) (λ r. refl)

pub map2_injective : Injective (λ a. c_map2 (answer_of Heads.head2 a))
map2_injective = told_injective Heads.head2 c_map2 (λ c. c.refusal) (λ c. from_c2 c.map) (λ x. refl) (λ x. refl) (λ r. refl)

pub load2_injective : Injective (λ a. c_load2 (answer_of (loaded_of Heads.head2) a))
load2_injective = told_injective (loaded_of Heads.head2) c_load2 (λ c. c.refusal) (λ c. record { map = from_c2 c.map; running = c.running }) (λ x. refl) (λ x. refl) (λ r. refl)

pub cell2_injective : Injective (λ a. c_cell2 (cell_answer2 a))
cell2_injective = told_injective _ c_cell2 (λ c. c.refusal) (λ c. c.cell) (λ x. refl) (λ x. refl) (λ r. refl)

pub sample2_injective : Injective (λ a. c_sample2 (sample_answer2 a))
sample2_injective =
    told_injective _ c_sample2 (λ c. c.refusal) (λ c. cond c.found (Some c.sample) None)
    (elim [ Some x ↦ refl | None ↦ refl ]) (elim [ Some x ↦ refl | None ↦ refl ]) (λ r. refl)

pub line2_injective : Injective (λ a. c_line2 (plotted2 a))
line2_injective = told_injective _ c_line2 (λ c. c.refusal) (λ c. c.line) (λ x. refl) (λ x. refl) (λ r. refl)

abbrev step2_back : CStep2 → Option (Cell2 × BresenhamLine2)
step2_back c = cond c.found (Some (c.cell, c.line)) None

step2_there : (l : BresenhamLine2) (s : Option (Cell2 × BresenhamLine2)) → step2_back (c_step2 l (step2 s)) ≡ s
step2_there l (Some (c, rest)) = refl
step2_there l None = refl

pub step2_injective : (l : BresenhamLine2) → Injective (λ s. c_step2 l (step2 s))
step2_injective l = of_back (λ s. c_step2 l (step2 s)) step2_back (step2_there l)

pub head2_injective : Injective head2
head2_injective = of_back head2 (λ h. record { extents = extents2_back h.extents; model = model_back h.model; frame = record { 0 = h.frame } }) (λ m. refl)

pub map3_injective : Injective (λ a. c_map3 (answer_of Heads.head3 a))
map3_injective = told_injective Heads.head3 c_map3 (λ c. c.refusal) (λ c. from_c3 c.map) (λ x. refl) (λ x. refl) (λ r. refl)

pub load3_injective : Injective (λ a. c_load3 (answer_of (loaded_of Heads.head3) a))
load3_injective = told_injective (loaded_of Heads.head3) c_load3 (λ c. c.refusal) (λ c. record { map = from_c3 c.map; running = c.running }) (λ x. refl) (λ x. refl) (λ r. refl)

pub cell3_injective : Injective (λ a. c_cell3 (cell_answer3 a))
cell3_injective = told_injective _ c_cell3 (λ c. c.refusal) (λ c. c.cell) (λ x. refl) (λ x. refl) (λ r. refl)

pub sample3_injective : Injective (λ a. c_sample3 (sample_answer3 a))
sample3_injective =
    told_injective _ c_sample3 (λ c. c.refusal) (λ c. cond c.found (Some c.sample) None)
    (elim [ Some x ↦ refl | None ↦ refl ]) (elim [ Some x ↦ refl | None ↦ refl ]) (λ r. refl)

pub line3_injective : Injective (λ a. c_line3 (plotted3 a))
line3_injective = told_injective _ c_line3 (λ c. c.refusal) (λ c. c.line) (λ x. refl) (λ x. refl) (λ r. refl)

abbrev step3_back : CStep3 → Option (Cell3 × BresenhamLine3)
step3_back c = cond c.found (Some (c.cell, c.line)) None

step3_there : (l : BresenhamLine3) (s : Option (Cell3 × BresenhamLine3)) → step3_back (c_step3 l (step3 s)) ≡ s
step3_there l (Some (c, rest)) = refl
step3_there l None = refl

pub step3_injective : (l : BresenhamLine3) → Injective (λ s. c_step3 l (step3 s))
step3_injective l = of_back (λ s. c_step3 l (step3 s)) step3_back (step3_there l)

pub head3_injective : Injective head3
head3_injective = of_back head3 (λ h. record { extents = extents3_back h.extents; bands = bands_back h.model; frame = record { 0 = h.frame } }) (λ m. refl)
