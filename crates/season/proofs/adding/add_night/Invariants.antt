-- Column by column, each with its own totals.
use Prim.Native.Nat.{◌*◌}
use lib.ListN.{drop}
use Rattle.season.proofs.Night.{Added}
use Rattle.season.proofs.adding.add_night.Given as goal

abbrev pub invariant-loop-n : goal.invariant-loop-n
invariant-loop-n l = Added l.initial.report (drop (5 * l.from) l.run) l.n l.report
