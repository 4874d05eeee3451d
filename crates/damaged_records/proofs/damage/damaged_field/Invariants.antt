-- The run begins before the byte that comes next.
use Rattle.std.proofs.Common.{◌<◌}
use Rattle.damaged_records.proofs.damage.damaged_field.Given as goal

abbrev pub invariant-loop-at : goal.invariant-loop-at
invariant-loop-at g l = l.since < l.at
