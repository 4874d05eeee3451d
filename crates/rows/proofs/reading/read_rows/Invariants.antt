-- What is left to read completes the odds.
use Prim.Native.Nat.{◌+◌, ◌-◌, ◌*◌, ◌≤◌}
use mathlib.Core.Path.{◌≡◌}
use lib.ListN.{length, drop}
use lib.Seq.{sets}
use Rattle.rules.specs.Fields.{field_size}
use Rattle.rules.specs.MapRecord.{row_length}
use Rattle.rows.specs.Rows.{odds_at}
use Rattle.rows.proofs.reading.read_rows.Given as goal

abbrev pub invariant-loop : goal.invariant-loop
invariant-loop l = record {
  whole : l.here + (l.count - l.counter) * field_size (row_length l.width) ≤ length l.bytes;
  room : l.place + (l.count - l.counter) * l.width ≤ length l.initial.odds;
  kept : length l.odds ≡ length l.initial.odds;
  left : sets l.initial.odds 0 (odds_at l.width l.count (drop l.at l.bytes)) ≡ sets l.odds l.place (odds_at l.width (l.count - l.counter) (drop l.here l.bytes));
}
