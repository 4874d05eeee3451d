-- Each column's numbers are put behind those of the columns before it.
use Rattle.chart.proofs.Filling.{Written}
use Rattle.chart.proofs.columns.fill.Given as goal

abbrev pub invariant-loop-column : goal.invariant-loop-column
invariant-loop-column l = Written l.columns l.layers l.ceiling (record { first = l.first; second = l.second }) l.odds l.initial.chart l.column l.chart
