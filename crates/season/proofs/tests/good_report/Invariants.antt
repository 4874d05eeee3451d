-- From the last column to the first: those passed are good, so the rest decides.
use mathlib.Core.Path.{◌≡◌}
use Rattle.rules.specs.SeasonReport.{good_report}
use Rattle.season.proofs.tests.good_report.Given as goal

abbrev pub invariant-loop-n : goal.invariant-loop-n
invariant-loop-n l = good_report l.charts l.report l.columns ≡ good_report l.charts l.report l.n
