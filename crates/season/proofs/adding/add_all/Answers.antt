-- The numbers before one are sums; the rest stands as it was.
use mathlib.Core.Path.{refl}
use Rattle.rules.specs.SeasonReport.{plus}
use Rattle.season.proofs.Joining.{one_more}
use Rattle.season.proofs.adding.add_all.Goals as goal

pub loop-i-init : goal.loop-i-init
unfolding plus
loop-i-init c = refl

pub loop-i-preserved : goal.loop-i-preserved
loop-i-preserved c = one_more c.args.report.now c.args.other.now c.loop-i.i _ c.loop-i.invariant c.loop-i-test.true c.requires.as_long
