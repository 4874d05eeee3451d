-- From the ground up: no cell passed is NaN, so the rest decides.
use mathlib.Core.Path.{◌≡◌}
use Rattle.rules.specs.LayerChart.{any_nan, cells_between}
use Rattle.chart.proofs.columns.holds_nan.Given as goal

abbrev pub invariant-loop-z : goal.invariant-loop-z
invariant-loop-z l = any_nan (cells_between l.columns l.odds l.column 0 l.layers) ≡ any_nan (cells_between l.columns l.odds l.column l.z l.layers)
