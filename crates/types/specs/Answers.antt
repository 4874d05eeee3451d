-- Each entry's answer as the rules' answer: what was asked for, or the refusal with its number and values. Definitions
-- only.
use Rattle.std.specs.Prelude.{ℕ, Bool, List, ℤ, Float, Result, Ok, Err, Some, None}
use Rattle.std.specs.Prelude as Prelude
use Rattle.std.proofs.Math.Option.{Option, some, none}
use Rattle.rules.specs.RefusalNumbers.{Answer, given, refused}
use Rattle.rules.specs.Coordinates.{Sample}
use Rattle.rules.specs.RefusalNumbers.Editions as Editions
use Rattle.rules.specs.SweepFile as SweepFile
use Rattle.types.specs.declared.refusal.Refusal.{Refusal}
use Rattle.types.specs.declared.answers.Swept.{Swept}
use Rattle.types.specs.declared.answers.Moved.{Moved}
use Rattle.types.specs.declared.points.Cell2.{Cell2}
use Rattle.types.specs.declared.points.Cell3.{Cell3}
use Rattle.types.specs.declared.samples.MapSample2.{MapSample2}
use Rattle.types.specs.declared.samples.MapSample3.{MapSample3}
use Rattle.types.specs.Models.{cuts_of}
use Rattle.types.specs.Points.{cell2, cell3}
use Rattle.types.specs.Samples.{sample2, sample3}
use Rattle.types.specs.Refusals.{refusal_of}

-- by what the thing that was asked for stands for
abbrev pub answer_of : {T A : Type 0} → (T → A) → Result T Refusal → Answer A
answer_of f (Ok x) = given (f x)
answer_of f (Err r) = refused (refusal_of r)

-- what may be missing
abbrev pub found_of : {T A : Type 0} → (T → A) → Prelude.Option T → Option A
found_of f (Some x) = some (f x)
found_of f None = none

abbrev pub mark_answer : Result Bool Refusal → Answer Bool
mark_answer = answer_of (λ b. b)

abbrev pub count_answer : Result ℕ Refusal → Answer ℕ
count_answer = answer_of (λ n. n)

-- a place in the lent lists
abbrev pub place_of : Result ℕ Refusal → Answer ℕ
place_of = answer_of (λ n. n)

abbrev pub swept_of : Swept → SweepFile.Swept
swept_of s = record { station = s.station; count = s.count }

abbrev pub sweep_answer : Result Swept Refusal → Answer SweepFile.Swept
sweep_answer = answer_of swept_of

abbrev pub moved_of : Moved → Editions.Moved
moved_of m = record { size = m.size; cuts = cuts_of m.cuts }

abbrev pub move_answer : Result Moved Refusal → Answer Editions.Moved
move_answer = answer_of moved_of

abbrev pub set_answer : Result (Unit {0}) Refusal → Answer (Unit {0})
set_answer = answer_of (λ t. tt)

abbrev pub cell_read : Prelude.Option Float → Option Float
cell_read = found_of (λ o. o)

abbrev pub odds_answer : Result (Prelude.Option Float) Refusal → Answer (Option Float)
odds_answer = answer_of cell_read

abbrev pub sample_read2 : Prelude.Option MapSample2 → Option Sample
sample_read2 = found_of sample2

abbrev pub sample_read3 : Prelude.Option MapSample3 → Option Sample
sample_read3 = found_of sample3

abbrev pub sample_answer2 : Result (Prelude.Option MapSample2) Refusal → Answer (Option Sample)
sample_answer2 = answer_of sample_read2

abbrev pub sample_answer3 : Result (Prelude.Option MapSample3) Refusal → Answer (Option Sample)
sample_answer3 = answer_of sample_read3

abbrev pub cell_answer2 : Result Cell2 Refusal → Answer (List ℤ)
cell_answer2 = answer_of cell2

abbrev pub cell_answer3 : Result Cell3 Refusal → Answer (List ℤ)
cell_answer3 = answer_of cell3
