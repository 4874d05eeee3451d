-- A head lent by reference: what opening a sweep answers, and the head and the stamps as they stand afterwards.
-- Definitions only.
use Rattle.std.specs.Prelude.{ℕ, List, Result}
use Rattle.rules.specs.RefusalNumbers.{Answer, given, refused}
use Rattle.rules.specs.RefusalNumbers.Entries.{Outcome}
use Rattle.rules.specs.TheGridAndItsBounds.{Head}
use Rattle.types.specs.Answers.{set_answer}
use Rattle.types.specs.declared.refusal.Refusal.{Refusal}

pub record Opened : Type 0 where
  pub answer : Answer (Unit {0})
  pub head : Head
  pub stamps : List ℕ

abbrev pub done : Answer Head → Answer (Unit {0})
done (given h) = given tt
done (refused r) = refused r

abbrev pub head_after : Head → Answer Head → Head
head_after was (given h) = h
head_after was (refused r) = was

-- By value the head is the answer; lent, it stands where it was. A refused call leaves it as it was.
abbrev pub left_in : Head → Outcome Head (List ℕ) → Opened
left_in was out = record { answer = done out.answer; head = head_after was out.answer; stamps = out.lent }

-- the same in the form of an entry's outcome, with the head beside the stamps among what is lent
abbrev pub in_place : Opened → Outcome (Unit {0}) (Head × List ℕ)
in_place o = record { answer = o.answer; lent = (o.head, o.stamps) }

-- an answer with the head, by what it stands for, and the stamps as they stand afterwards
abbrev pub opened_as : {M : Type 0} → (M → Head) → Result (Unit {0}) Refusal → M → List ℕ → Opened
opened_as head r map stamps = record { answer = set_answer r; head = head map; stamps = stamps }
