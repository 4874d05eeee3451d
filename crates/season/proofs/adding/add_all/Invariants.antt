-- The numbers before one are sums; the rest stands as it was.
use Rattle.season.proofs.Joining.{Joined}
use Rattle.season.proofs.adding.add_all.Given as goal

abbrev pub invariant-loop-i : goal.invariant-loop-i
invariant-loop-i l = Joined l.initial.report l.other l.i l.report
