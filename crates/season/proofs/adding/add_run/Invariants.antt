-- Night by night: the report is the first one with the nights so far.
use mathlib.Core.Path.{◌≡◌}
use Rattle.rules.specs.SeasonReport.{plus, run_report}
use Rattle.season.proofs.adding.add_run.Given as goal

abbrev pub invariant-loop-n : goal.invariant-loop-n
invariant-loop-n l = l.report ≡ plus l.initial.report (run_report l.columns l.n l.run)
