-- From the top down: the cells passed have the cover so far.
use Prim.Native.Nat.{◌≤◌}
use mathlib.Core.Path.{◌≡◌}
use Rattle.rules.specs.LayerChart.{band_cover, cells_between}
use Rattle.chart.proofs.grades.band_cover.Given as goal

abbrev pub invariant-loop-z : goal.invariant-loop-z
invariant-loop-z l = record { above : l.from ≤ l.z; cover : l.most ≡ band_cover l.ceiling (cells_between l.columns l.odds l.column l.z l.to) }
