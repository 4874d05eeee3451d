-- The maps of refusals and answers to the rules are injective. Assumes nothing.
use Prim.Native.Nat.{ℕ}
use mathlib.Core.Path.{◌≡◌, refl, ap}
use mathlib.Core.Bool.{cond}
use lib.IntN.{pos, nat_abs}
use lib.Dec.{eqb}
use lib.ListN.{get_or, length}
use Rattle.rules.specs.RefusalNumbers as Paper
use Rattle.rules.specs.RefusalNumbers.{Answer, given, refused}
use Rattle.types.specs.declared.refusal.Refusal as Refusal
use Rattle.types.specs.declared.refusal.Refusal.TheVariants as R
use Rattle.types.specs.Points.{cell2, cell3}
use Rattle.types.specs.Samples.{sample2, sample3}
use Rattle.types.specs.Refusals.{refusal_of}
use Rattle.types.specs.Answers.{answer_of, found_of, mark_answer, count_answer, sweep_answer, swept_of, move_answer, moved_of, set_answer}
use Rattle.types.specs.Answers.{cell_read, odds_answer, sample_read2, sample_read3, sample_answer2, sample_answer3, cell_answer2, cell_answer3}
use Rattle.types.proofs.Injective.{Injective, of_back, cell2_injective, cell3_injective, sample2_injective, sample3_injective}
use Rattle.std.specs.Prelude.{Result, Ok, Err, Some, None}
use Rattle.std.specs.Prelude as Prelude
use Rattle.std.proofs.Math.Option.{Option, some, none}

-- a refusal from its number and values; 7 has two cases, told apart by how many values it gives
pub value : Paper.Refusal → ℕ → ℕ
value r i = nat_abs (get_or r.values i (pos 0))

abbrev pub refusal_back : Paper.Refusal → Refusal.Refusal
unfolding value
refusal_back r =
    let n : ℕ = r.number in
    cond (eqb n 1) (R.DimensionTooSmall (value r 0) (value r 1))
    (cond (eqb n 2) R.CapacityOverflow
    (cond (eqb n 3) R.Model
    (cond (eqb n 4) R.Buffer
    (cond (eqb n 5) (R.OutOfBounds (value r 0) (get_or r.values 1 (pos 0)) (value r 2) (value r 3))
    (cond (eqb n 6) (R.NonFiniteCoordinate (value r 0))
    (cond (eqb n 7) (cond (eqb (length r.values) 0) R.Ray (R.RayInList (value r 0) (value r 1)))
    (cond (eqb n 8) R.Beams
    (cond (eqb n 9) R.Frame
    (cond (eqb n 10) (R.Record (value r 0))
    (cond (eqb n 11) (R.Room (value r 0))
    (cond (eqb n 12) (R.Sweep (value r 0))
    (cond (eqb n 13) R.Odds
    (cond (eqb n 14) R.Lists
    (cond (eqb n 15) R.Cuts
    (cond (eqb n 16) R.Edition
    (cond (eqb n 18) R.Profile
    (cond (eqb n 17) (R.Column (value r 0))
    (cond (eqb n 19) R.Sizes
    (cond (eqb n 20) R.Charts R.Chart)))))))))))))))))))

pub refusal_there : (r : Refusal.Refusal) → refusal_back (refusal_of r) ≡ r
unfolding refusal_back value
refusal_there (R.DimensionTooSmall axis extent) = refl
refusal_there R.CapacityOverflow = refl
refusal_there R.Model = refl
refusal_there R.Buffer = refl
refusal_there (R.OutOfBounds axis index extent axes) = refl
refusal_there (R.NonFiniteCoordinate axis) = refl
refusal_there R.Ray = refl
refusal_there (R.RayInList place count) = refl
refusal_there R.Beams = refl
refusal_there R.Frame = refl
refusal_there (R.Record offset) = refl
refusal_there (R.Room needed) = refl
refusal_there (R.Sweep offset) = refl
refusal_there R.Odds = refl
refusal_there R.Lists = refl
refusal_there R.Cuts = refl
refusal_there R.Edition = refl
refusal_there R.Profile = refl
refusal_there (R.Column column) = refl
refusal_there R.Sizes = refl
refusal_there R.Charts = refl
refusal_there R.Chart = refl

pub refusal_injective : Injective refusal_of
refusal_injective = of_back refusal_of refusal_back refusal_there

-- the way back from an answer, by that of what was asked for, and from what may be missing
abbrev pub answer_back : {T A : Type 0} → (A → T) → Answer A → Result T Refusal.Refusal
answer_back back (given x) = Ok (back x)
answer_back back (refused r) = Err (refusal_back r)

pub answer_there : {T A : Type 0} (f : T → A) (back : A → T) → ((x : T) → back (f x) ≡ x)
    → (a : Result T Refusal.Refusal) → answer_back back (answer_of f a) ≡ a
answer_there f back there (Ok x) = ap Ok (there x)
answer_there f back there (Err r) = ap Err (refusal_there r)

abbrev pub found_back : {T A : Type 0} → (A → T) → Option A → Prelude.Option T
found_back back (some x) = Some (back x)
found_back back none = None

pub found_there : {T A : Type 0} (f : T → A) (back : A → T) → ((x : T) → back (f x) ≡ x)
    → (a : Prelude.Option T) → found_back back (found_of f a) ≡ a
found_there f back there (Some x) = ap Some (there x)
found_there f back there None = refl

-- an answer's map is injective where that of what was asked for is, and so is the map of what may be missing
pub answer_injective : {T A : Type 0} (f : T → A) → Injective f → Injective (answer_of f)
answer_injective f i (Ok a) (Ok b) h = ap Ok (i a b (cc h))
answer_injective f i (Ok a) (Err r) h = absurd (cc h)
answer_injective f i (Err r) (Ok b) h = absurd (cc h)
answer_injective f i (Err q) (Err r) h = ap Err (refusal_injective q r (cc h))

pub found_injective : {T A : Type 0} (f : T → A) → Injective f → Injective (found_of f)
found_injective f i (Some a) (Some b) h = ap Some (i a b (cc h))
found_injective f i (Some a) None h = absurd (cc h)
found_injective f i None (Some b) h = absurd (cc h)
found_injective f i None None h = refl

pub mark_answer_injective : Injective mark_answer
mark_answer_injective = answer_injective _ (λ a b h. h)

pub count_answer_injective : Injective count_answer
count_answer_injective = answer_injective _ (λ a b h. h)

pub swept_injective : Injective swept_of
swept_injective = of_back swept_of (λ s. record { station = s.station; count = s.count }) (λ a. refl)

pub sweep_answer_injective : Injective sweep_answer
sweep_answer_injective = answer_injective swept_of swept_injective

pub moved_injective : Injective moved_of
moved_injective = of_back moved_of (λ m. record { size = m.size; cuts = record { first = get_or m.cuts 0 0; second = get_or m.cuts 1 0 } }) (λ a. refl)

pub move_answer_injective : Injective move_answer
move_answer_injective = answer_injective moved_of moved_injective

pub set_answer_injective : Injective set_answer
set_answer_injective = answer_injective _ (λ a b h. refl)

pub cell_answer2_injective : Injective cell_answer2
cell_answer2_injective = answer_injective cell2 cell2_injective

pub cell_answer3_injective : Injective cell_answer3
cell_answer3_injective = answer_injective cell3 cell3_injective

pub cell_read_injective : Injective cell_read
cell_read_injective = found_injective _ (λ a b h. h)

pub odds_answer_injective : Injective odds_answer
odds_answer_injective = answer_injective cell_read cell_read_injective

pub sample_read2_injective : Injective sample_read2
sample_read2_injective = found_injective sample2 sample2_injective

pub sample_answer2_injective : Injective sample_answer2
sample_answer2_injective = answer_injective sample_read2 sample_read2_injective

pub sample_read3_injective : Injective sample_read3
sample_read3_injective = found_injective sample3 sample3_injective

pub sample_answer3_injective : Injective sample_answer3
sample_answer3_injective = answer_injective sample_read3 sample_read3_injective
