-- Heads, and the answers that hold a head, as the rules' values. Definitions only.
use Rattle.std.specs.Prelude.{ℕ, List, Float, Result}
use Rattle.rules.specs.RefusalNumbers.Entries.{Outcome}
use Rattle.rules.specs.RefusalNumbers.Editions as Editions
use Rattle.rules.specs.TheGridAndItsBounds as Grid
use Rattle.rules.specs.TheGridAndItsBounds.{Head, Grid}
use Rattle.types.specs.Points.{extents2, extents3}
use Rattle.types.specs.Models.{model_of, bands_of}
use Rattle.types.specs.declared.points.Extents2.{Extents2}
use Rattle.types.specs.declared.points.Extents3.{Extents3}
use Rattle.types.specs.declared.model.Model.{Model}
use Rattle.types.specs.declared.model.Bands.{Bands}
use Rattle.types.specs.declared.refusal.Refusal.{Refusal}
use Rattle.types.specs.Answers.{answer_of, set_answer}
use Rattle.marks.specs.Marking.{grid_of}
use Rattle.grid_map.specs.declared.map.GridMap.{GridMap}
use Rattle.grid_map.specs.declared.loaded.Loaded.{Loaded}

-- by what its extents and the model laid on them stand for
abbrev pub head_of : {E M : Type 0} → (E → List ℕ) → (E → M → Grid.Model) → GridMap E M → Head
head_of extents model m = record { extents = extents m.extents; model = model m.extents m.model; frame = m.frame.0 }

abbrev pub head2 : GridMap Extents2 Model → Head
head2 = head_of extents2 (λ e m. model_of m)

abbrev pub head3 : GridMap Extents3 Bands → Head
head3 = head_of extents3 bands_of

-- a record of edition 2, by what its map's head stands for
abbrev pub loaded_of : {M : Type 0} → (M → Head) → Loaded M → Editions.Loaded
loaded_of head l = record { head = head l.map; running = l.running }

-- an answer with the lists as they stand afterwards
abbrev pub map_outcome : {M : Type 0} → (M → Head) → Result M Refusal → List Float → List ℕ → Outcome Head Grid
map_outcome head r odds stamps = record { answer = answer_of head r; lent = grid_of odds stamps }

abbrev pub load_outcome : {M : Type 0} → (M → Head) → Result (Loaded M) Refusal → List Float → List ℕ → Outcome Editions.Loaded Grid
load_outcome head r odds stamps = record { answer = answer_of (loaded_of head) r; lent = grid_of odds stamps }

abbrev pub open_outcome : {M : Type 0} → (M → Head) → Result M Refusal → List ℕ → Outcome Head (List ℕ)
open_outcome head r stamps = record { answer = answer_of head r; lent = stamps }

abbrev pub set_outcome : Result (Unit {0}) Refusal → List Float → Outcome (Unit {0}) (List Float)
set_outcome r odds = record { answer = set_answer r; lent = odds }
