-- No column passed holds NaN, so the first of the rest is the first of all.
use Prim.Native.Nat.{◌-◌}
use mathlib.Core.Path.{◌≡◌}
use Rattle.rules.specs.LayerChart.{first_nan}
use Rattle.chart.proofs.columns.nan_check.Given as goal

abbrev pub invariant-loop-column : goal.invariant-loop-column
invariant-loop-column l = first_nan l.columns l.layers l.odds l.columns 0 ≡ first_nan l.columns l.layers l.odds (l.columns - l.column) l.column
