-- From the last column to the first: those passed are good, so the rest decides.
use mathlib.Core.Path.{◌≡◌}
use Rattle.rules.specs.SeasonReport.{good_columns}
use Rattle.season.proofs.tests.good_columns.Given as goal

abbrev pub invariant-loop-n : goal.invariant-loop-n
invariant-loop-n l = good_columns l.chart l.columns ≡ good_columns l.chart l.n
