-- The rows passed are sound, so what is left decides.
use Prim.Native.Nat.{◌-◌}
use mathlib.Core.Path.{◌≡◌}
use lib.ListN.{drop}
use Rattle.types.specs.Models.{model_of}
use Rattle.open_rows.specs.OpenRows.{open_refusal}
use Rattle.open_rows.proofs.reading.open_rows_check.Given as goal

abbrev pub invariant-loop : goal.invariant-loop
invariant-loop l =
    open_refusal (model_of l.model) l.frame.0 l.width l.count l.at (drop l.at l.bytes)
    ≡ open_refusal (model_of l.model) l.frame.0 l.width (l.count - l.counter) l.here (drop l.here l.bytes)
