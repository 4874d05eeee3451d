-- What is left to read completes the lists.
use Prim.Native.Nat.{◌+◌, ◌-◌, ◌*◌, ◌≤◌}
use mathlib.Core.Bool.{true}
use mathlib.Core.Path.{◌≡◌}
use lib.ListN.{length, drop}
use lib.Seq.{sets}
use Rattle.rules.specs.EditionTwo.{row_size}
use Rattle.open_rows.specs.OpenRows.{open_odds, open_stamps}
use Rattle.open_rows.proofs.reading.read_open_rows.Given as goal

abbrev pub invariant-loop : goal.invariant-loop
invariant-loop l = record {
  whole : l.here + (l.count - l.counter) * row_size true l.width ≤ length l.bytes;
  odds_room : l.place + (l.count - l.counter) * l.width ≤ length l.initial.odds;
  stamps_room : l.place + (l.count - l.counter) * l.width ≤ length l.initial.stamps;
  odds_kept : length l.odds ≡ length l.initial.odds;
  stamps_kept : length l.stamps ≡ length l.initial.stamps;
  odds_left : sets l.initial.odds 0 (open_odds l.width l.count (drop l.at l.bytes)) ≡ sets l.odds l.place (open_odds l.width (l.count - l.counter) (drop l.here l.bytes));
  stamps_left : sets l.initial.stamps 0 (open_stamps l.width l.count (drop l.at l.bytes)) ≡ sets l.stamps l.place (open_stamps l.width (l.count - l.counter) (drop l.here l.bytes));
}
