-- What is left to write completes the rows.
use Prim.Native.Nat.{◌+◌, ◌-◌, ◌*◌, ◌≤◌}
use mathlib.Core.Bool.{true}
use mathlib.Core.Path.{◌≡◌}
use lib.ListN.{length, drop}
use lib.Seq.{sets}
use Rattle.rules.specs.EditionTwo.{row_size, grid_bytes}
use Rattle.marks.specs.Marking.{grid_of}
use Rattle.open_rows.proofs.writing.write_open_rows.Given as goal

abbrev pub invariant-loop : goal.invariant-loop
invariant-loop l = record {
  room : l.here + (l.count - l.counter) * row_size true l.width ≤ length l.initial.out;
  all_odds : l.place + (l.count - l.counter) * l.width ≤ length l.odds;
  all_stamps : l.place + (l.count - l.counter) * l.width ≤ length l.stamps;
  kept : length l.out ≡ length l.initial.out;
  left : sets l.initial.out l.at (grid_bytes true l.width l.count (grid_of l.odds l.stamps))
      ≡ sets l.out l.here (grid_bytes true l.width (l.count - l.counter) (grid_of (drop l.place l.odds) (drop l.place l.stamps)));
}
