-- The slots and marks lent to a call, and its answer with them; and the store of one sample. Definitions only.
use Rattle.std.specs.Prelude.{ℕ, List, ◌∷◌, Float, Result}
use Rattle.std.proofs.Math.Option.{Option, some, none}
use Rattle.std.proofs.lemmas.List.Edits.{sets}
use Rattle.rules.specs.RefusalNumbers.Entries.{Outcome}
use Rattle.rules.specs.Coordinates.{Sample}
use Rattle.rules.specs.ManySamples.{Slots}
use Rattle.types.specs.Answers.{set_answer}
use Rattle.types.specs.declared.refusal.Refusal.{Refusal}

abbrev pub slots_of : List Float → List ℕ → Slots
slots_of samples found = record { samples = samples; found = found }

-- an answer with the lists as they stand afterwards
abbrev pub slots_outcome : Result (Unit {0}) Refusal → List Float → List ℕ → Outcome (Unit {0}) Slots
slots_outcome r samples found = record { answer = set_answer r; lent = slots_of samples found }

-- a sample's numbers from this place on, the value first; nothing changes nothing
abbrev pub stored : ℕ → Option Sample → List Float → List Float
stored at (some s) samples = sets samples at (s.value ∷ s.gradient)
stored at none samples = samples
