-- The head is checked, and then there is the chart; what it requires is what the check has shown.
use mathlib.Core.Bool.{Bool, true, false, ◌&&◌}
use mathlib.Core.Path.{◌≡◌, sym}
use Rattle.std.proofs.Common.{rules}
use lib.Ieee.Bits.{is_true}
use lib.Dec.{T, ltb}
use Rattle.rules.specs.LayerChart.{good_cuts, layer_chart_entry}
use Rattle.rules.specs.TheGridAndItsBounds.{last_extent, rising, cuts_below, cuts_in_bounds}
use Rattle.types.specs.Points.{extents3}
use Rattle.types.specs.Models.{bands_of}
use Rattle.types.specs.declared.points.Extents3.{Extents3}
use Rattle.types.specs.declared.model.Bands.{Bands}
use Rattle.laws.specs.Checks.{passed}
use Rattle.chart.specs.Charts.{cuts_of}
use Rattle.chart.proofs.entry.layer_chart3.Goals as goal

joined : (a b c : Bool) → T (a && (b && c)) → T (a && b && c)
joined true b c t = t
joined false b c t = t

-- the head's cuts are good ones of its layers
cuts-good : (e : Extents3) (b : Bands) → T (cuts_in_bounds (extents3 e) (bands_of e b)) → good_cuts (cuts_of b.cuts) (last_extent (extents3 e)) ≡ true
unfolding good_cuts rising cuts_below cuts_in_bounds
cuts-good e b t =
    let z = last_extent (extents3 e) in
    is_true (good_cuts (cuts_of b.cuts) z) (joined (ltb 0 b.cuts.first) (ltb b.cuts.first b.cuts.second) (ltb b.cuts.second z) t)

pub chart_of-requires : goal.chart_of-requires
chart_of-requires c = let m = c.args.map in
    let known = passed _ _ _ _ (sym c.in_ok-check.ensures) in
    record { in_bounds = known.extents; cuts_good = cuts-good m.extents m.model (known.cuts tt); one_per_cell = known.odds_count tt }

pub returns-in_err-check : goal.returns-in_err-check
unfolding layer_chart_entry
returns-in_err-check c = rw (← c.in_err-check.ensures) (search rules)

pub returns : goal.returns
unfolding layer_chart_entry
returns c = rw (← c.in_ok-check.ensures) c.chart_of.ensures
