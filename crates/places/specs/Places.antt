-- One axis tested alone, a place in the lists, and the cell of a coordinate, as the rules' values. Definitions only.
use Rattle.std.specs.Prelude.{ℕ, ℤ, Result}
use Rattle.rules.specs.RefusalNumbers.{Answer}
use Rattle.types.specs.declared.refusal.Refusal.{Refusal}
use Rattle.types.specs.Answers.{answer_of}
pub use Rattle.types.specs.Answers.{place_of}

abbrev pub along_of : Result ℕ Refusal → Answer ℕ
along_of = answer_of (λ n. n)

abbrev pub containing_of : Result ℤ Refusal → Answer ℤ
containing_of = answer_of (λ i. i)
