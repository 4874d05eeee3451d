-- The rows passed are sound, so what is left decides.
use Prim.Native.Nat.{◌-◌}
use mathlib.Core.Path.{◌≡◌}
use lib.ListN.{drop}
use Rattle.types.specs.Models.{model_of}
use Rattle.rows.specs.Rows.{rows_refusal}
use Rattle.rows.proofs.reading.rows_check.Given as goal

abbrev pub invariant-loop : goal.invariant-loop
invariant-loop l =
    rows_refusal (model_of l.model) l.width l.count l.at (drop l.at l.bytes)
    ≡ rows_refusal (model_of l.model) l.width (l.count - l.counter) l.here (drop l.here l.bytes)
