-- What is left to write completes the rows.
use Prim.Native.Nat.{◌+◌, ◌-◌, ◌*◌, ◌≤◌}
use mathlib.Core.Path.{◌≡◌}
use lib.ListN.{length, drop}
use lib.Seq.{sets}
use Rattle.rules.specs.Fields.{field_size}
use Rattle.rules.specs.MapRecord.{row_length, rows_bytes}
use Rattle.rows.proofs.writing.write_rows.Given as goal

abbrev pub invariant-loop : goal.invariant-loop
invariant-loop l = record {
  room : l.here + (l.count - l.counter) * field_size (row_length l.width) ≤ length l.initial.out;
  all_there : l.place + (l.count - l.counter) * l.width ≤ length l.odds;
  kept : length l.out ≡ length l.initial.out;
  left : sets l.initial.out l.at (rows_bytes l.width l.count l.odds) ≡ sets l.out l.here (rows_bytes l.width (l.count - l.counter) (drop l.place l.odds));
}
