-- The rows passed are within the bounds, so what is left decides.
use Prim.Native.Nat.{◌+◌, ◌-◌, ◌*◌, ◌^◌, ◌≤◌, ◌<◌}
use mathlib.Core.Path.{◌≡◌}
use lib.ListN.{length, drop}
use Rattle.rules.specs.Fields.{field_size}
use Rattle.rules.specs.MapRecord.{row_length, rows_checked}
use Rattle.types.specs.Models.{model_of}
use Rattle.rows.specs.Rows.{refusal_in}
use Rattle.rows.proofs.writing.rows_writable.Given as goal

abbrev pub invariant-loop : goal.invariant-loop
invariant-loop l = record {
  all_there : l.place + (l.count - l.counter) * l.width ≤ length l.odds;
  countable : l.here + (l.count - l.counter) * field_size (row_length l.width) < 2 ^ 64;
  left : refusal_in (rows_checked (model_of l.model) l.width l.count l.at l.odds)
      ≡ refusal_in (rows_checked (model_of l.model) l.width (l.count - l.counter) l.here (drop l.place l.odds));
}
