-- What a move answers, with the bytes as they stand afterwards. Definitions only.
use Rattle.std.specs.Prelude.{ℕ, List, Result}
use Rattle.rules.specs.RefusalNumbers.{given, and_then}
use Rattle.rules.specs.RefusalNumbers.Entries.{Outcome}
use Rattle.rules.specs.RefusalNumbers.Editions as Editions
use Rattle.types.specs.Answers.{answer_of, moved_of}
use Rattle.types.specs.declared.answers.Moved.{Moved}
use Rattle.types.specs.declared.refusal.Refusal.{Refusal}

-- by what is handed over on the way back
abbrev pub moved_outcome : {M : Type 0} → (M → Editions.Moved) → Result M Refusal → List ℕ → Outcome Editions.Moved (List ℕ)
moved_outcome moved r out = record { answer = answer_of moved r; lent = out }

abbrev pub move_outcome : Result Moved Refusal → List ℕ → Outcome Editions.Moved (List ℕ)
move_outcome = moved_outcome moved_of

-- of two axes there are no cuts to hand over
abbrev pub size_alone : Outcome Editions.Moved (List ℕ) → Outcome ℕ (List ℕ)
size_alone o = record { answer = and_then o.answer (λ m. given m.size); lent = o.lent }
