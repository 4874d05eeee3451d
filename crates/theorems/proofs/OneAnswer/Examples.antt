-- A contract that is met, so that the law has something to say: a count of 3 beside two lists. Nothing else meets the
-- same contract; and a contract that says less allows two. By computation, and by the law.
use Rattle.std.specs.Prelude.{ℕ, ◌<◌, ◌≡◌, refl, List, [], ◌∷◌, Float, Result, Ok}
use Rattle.std.proofs.Common.{arith}
use Rattle.rules.specs.RefusalNumbers.{given}
use Rattle.rules.specs.Floats.{zero_f, one_f}
use Rattle.types.specs.declared.refusal.Refusal.{Refusal}
use Rattle.beam.specs.Applying.{count_outcome}
use Rattle.theorems.proofs.OneAnswer.{count_outcome-one}
use Rattle.theorems.specs.OneAnswer.Law.{OneAnswer}

abbrev odds : List Float
odds = zero_f ∷ one_f ∷ []

abbrev stamps : List ℕ
stamps = 4 ∷ 5 ∷ []

pub allowed : count_outcome (Ok 3) odds stamps ≡ record { answer = given 3; lent = record { odds = odds; stamps = stamps } }
allowed = refl

pub nothing_else : (a : Result ℕ Refusal × (List Float × List ℕ))
    → count_outcome a.0 a.1.0 a.1.1 ≡ record { answer = given 3; lent = record { odds = odds; stamps = stamps } }
    → a ≡ (Ok 3, (odds, stamps))
nothing_else a met = count_outcome-one _ a (Ok 3, (odds, stamps)) met allowed

-- "fewer than 5 marks" would be no contract to fix a count
pub too_little : OneAnswer (λ (n : ℕ). n < 5) → ⊥
too_little one = let same : ◌≡◌ {A = ℕ} 3 4 = one 3 4 (omega arith) (omega arith) in omega arith
