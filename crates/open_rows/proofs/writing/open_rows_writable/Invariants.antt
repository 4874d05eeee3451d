-- The rows passed can be written, so what is left decides.
use Prim.Native.Nat.{◌+◌, ◌-◌, ◌*◌, ◌^◌, ◌≤◌, ◌<◌}
use mathlib.Core.Bool.{true}
use mathlib.Core.Path.{◌≡◌}
use lib.ListN.{length, drop}
use Rattle.rules.specs.EditionTwo.{row_size, grid_tried}
use Rattle.types.specs.Models.{model_of}
use Rattle.marks.specs.Marking.{grid_of}
use Rattle.rows.specs.Rows.{refusal_in}
use Rattle.open_rows.proofs.writing.open_rows_writable.Given as goal

abbrev pub invariant-loop : goal.invariant-loop
invariant-loop l = record {
  all_odds : l.place + (l.count - l.counter) * l.width ≤ length l.odds;
  all_stamps : l.place + (l.count - l.counter) * l.width ≤ length l.stamps;
  countable : l.here + (l.count - l.counter) * row_size true l.width < 2 ^ 64;
  left : refusal_in (grid_tried true (model_of l.model) l.frame.0 l.width l.count l.at (grid_of l.odds l.stamps))
      ≡ refusal_in (grid_tried true (model_of l.model) l.frame.0 l.width (l.count - l.counter) l.here (grid_of (drop l.place l.odds) (drop l.place l.stamps)));
}
