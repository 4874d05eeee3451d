-- A report's answer with its list as it stands afterwards; the store of one night in one column; and numbers that
-- cannot wrap. Definitions only.
use Rattle.std.specs.Prelude.{ℕ, ◌+◌, ◌*◌, ◌<◌, List, get_or, set, Result}
use Rattle.rules.specs.RefusalNumbers.Entries.{Outcome}
use Rattle.rules.specs.SeasonReport.{differs}
use Rattle.types.specs.Answers.{count_answer}
use Rattle.types.specs.declared.refusal.Refusal.{Refusal}

abbrev pub report_outcome : Result ℕ Refusal → List ℕ → Outcome ℕ (List ℕ)
report_outcome r report = record { answer = count_answer r; lent = report }

-- four of the twelve numbers from this place on are raised: the count of the total, whether the rules differ, and the
-- two sums
abbrev pub added_column : List ℕ → ℕ → ℕ → ℕ → List ℕ
added_column l at total random =
    set
    (set (set (set l (at + total) (get_or l (at + total) 0 + 1)) (at + 9) (get_or l (at + 9) 0 + differs total random)) (at + 10) (get_or l (at + 10) 0 + 64 * total))
    (at + 11) (get_or l (at + 11) 0 + random)

-- a night adds at most 512 to a number: from this place on, a u32 holds the sum
abbrev pub Roomy : List ℕ → ℕ → Type 0
Roomy l at = (i : ℕ) → get_or l (at + i) 0 + 512 < 4294967296

-- and number by number
abbrev pub RoomyWith : List ℕ → List ℕ → Type 0
RoomyWith l other = (i : ℕ) → get_or l i 0 + get_or other i 0 < 4294967296
