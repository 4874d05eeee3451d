-- Between two marks the place is that of a cell of the column, and one layer further on is the next.
use Prim.Native.Nat.{◌-◌}
use lib.Ieee.{binary64}
use Rattle.grid_map.specs.Heads.{head3}
use Rattle.vertical.proofs.Climbing.{Climbing}
use Rattle.vertical.proofs.column.mark_column.Given as goal

abbrev pub invariant-loop : goal.invariant-loop
invariant-loop l = Climbing binary64 (head3 l.map) l.fn.beam.x l.fn.beam.y l.occupied l.fn.beam.bottom l.above
    l.initial.odds l.initial.stamps l.at (l.above - l.counter) l.count l.odds l.stamps
