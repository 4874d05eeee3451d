-- Night by night: the report is the first one with the nights so far.
use mathlib.Core.Path.{◌∙◌}
use Rattle.season.proofs.Running.{Tried, no_nights, good_so_far, room, next_night}
use Rattle.season.proofs.adding.add_run.Goals as goal
use Rattle.season.proofs.adding.add_run.Goals.{In-loop-n}

tried : (c : In-loop-n) → let a = c.args in Tried a.charts a.report.now a.columns a.count a.run.now
tried c =
    record {
      report_size = c.requires.twelve_each;
      run_size = c.requires.five_each;
      few = c.requires.few;
      run_good = rw c.requires.run_good tt;
      report_good = rw c.requires.report_good tt;
    }

pub loop-n-init : goal.loop-n-init
loop-n-init c = let a = c.args in
    no_nights a.charts a.report.now a.columns a.count a.run.now c.requires.twelve_each

pub add_night-requires-clause-all_good : goal.add_night-requires-clause-all_good
add_night-requires-clause-all_good c = let at = (goal.at.add_night-requires-clause-all_good c).In-loop-n in
    good_so_far _ _ _ _ _ (tried at) _ c.loop-n-test.true

pub add_night-requires-clause-roomy : goal.add_night-requires-clause-roomy
add_night-requires-clause-roomy c = let at = (goal.at.add_night-requires-clause-roomy c).In-loop-n in
    rw c.loop-n.invariant (room _ _ _ _ _ (tried at) _ c.loop-n-test.true)

pub loop-n-preserved : goal.loop-n-preserved
loop-n-preserved c = let at = (goal.at.loop-n-preserved c).In-loop-n in
    c.add_night.ensures ∙ rw c.loop-n.invariant (next_night _ _ _ _ _ (tried at) _ c.loop-n-test.true)
