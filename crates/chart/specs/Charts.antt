-- The cuts as the rules'; and a chart's answer with the list as it stands afterwards. Definitions only.
use Rattle.std.specs.Prelude.{ℕ, List, Result}
use Rattle.rules.specs.RefusalNumbers.Entries.{Outcome}
use Rattle.rules.specs.LayerChart as Rule
use Rattle.types.specs.Answers.{set_answer}
use Rattle.types.specs.declared.refusal.Refusal.{Refusal}
use Rattle.types.specs.declared.model.Cuts.{Cuts}

abbrev pub cuts_of : Cuts → Rule.Cuts
cuts_of c = record { first = c.first; second = c.second }

abbrev pub chart_outcome : Result (Unit {0}) Refusal → List ℕ → Outcome (Unit {0}) (List ℕ)
chart_outcome r chart = record { answer = set_answer r; lent = chart }
