-- Column by column, each with its own totals.
use Prim.Native.Nat.{◌+◌, ◌*◌}
use mathlib.Core.Path.{refl}
use native.Mathlib.Omega.{arith}
use lib.ListN.{drop}
use Rattle.rules.specs.SeasonReport.{night, plus}
use Rattle.season.proofs.Night.{still_roomy, one_more, in_run, totals_most}
use Rattle.season.proofs.adding.add_night.Goals as goal

pub loop-n-init : goal.loop-n-init
unfolding plus night
loop-n-init c = refl

pub add_column-requires-clause-total_most : goal.add_column-requires-clause-total_most
add_column-requires-clause-total_most c = (totals_most c.args.run.now _ _ c.requires.all_good (omega (arith, c.loop-n-test.true))).0

pub add_column-requires-clause-random_most : goal.add_column-requires-clause-random_most
add_column-requires-clause-random_most c = (totals_most c.args.run.now _ _ c.requires.all_good (omega (arith, c.loop-n-test.true))).1

pub add_column-requires-clause-roomy : goal.add_column-requires-clause-roomy
add_column-requires-clause-roomy c = let a = c.args in
    still_roomy a.report.now (drop (5 * a.from) a.run.now) c.loop-n.n _ c.loop-n.invariant (omega (arith, c.loop-n-test.true, c.requires.twelve_each)) c.requires.roomy

pub loop-n-preserved : goal.loop-n-preserved
loop-n-preserved c = let a = c.args in
    let n = c.loop-n.n in
    let more = c.loop-n-test.true in
    let most = totals_most a.run.now (a.from + a.columns) (a.from + n) c.requires.all_good (omega arith) in
    let again = one_more a.report.now (drop (5 * a.from) a.run.now) n _ c.loop-n.invariant
    (omega (arith, more, c.requires.twelve_each)) (rw (in_run a.run.now a.from n 3) at most.0) in
    rw (c.add_column.ensures, in_run a.run.now a.from n 3, in_run a.run.now a.from n 4) again
