-- Each column's numbers are put behind those of the columns before it.
use Rattle.std.proofs.Common.{◌≡◌, ℕ, ◌≤◌, List, refl, arith}
use native.Mathlib.Nat.{mul-le-mul_right}
use lib.Ieee.{Float}
use Rattle.rules.specs.LayerChart.{band_cover, column_chart, chart_of}
use Rattle.chart.proofs.Bounds.{cover_most, cuts_apart}
use Rattle.chart.specs.Charts.{cuts_of}
use Rattle.chart.proofs.Filling.{one_more}
use Rattle.chart.proofs.columns.fill.Goals as goal

covered : (r : ℕ) (ceiling : Float) (xs : List Float) → r ≡ band_cover ceiling xs → r ≤ 8
covered r ceiling xs e = rw e (cover_most ceiling xs)

pub loop-column-init : goal.loop-column-init
unfolding chart_of
loop-column-init c = refl

pub band_cover-low-requires-clause-layers_in_odds : goal.band_cover-low-requires-clause-layers_in_odds
band_cover-low-requires-clause-layers_in_odds c = let a = c.args in
    let cut = cuts_apart (cuts_of a.cuts) a.layers (rw c.requires.cuts_good tt) in
    omega (arith, c.requires.layers_in_odds, mul-le-mul_right {m = a.cuts.first} {n = a.layers} a.columns (omega arith))

pub band_cover-middle-requires : goal.band_cover-middle-requires
band_cover-middle-requires c = let a = c.args in
    let cut = cuts_apart (cuts_of a.cuts) a.layers (rw c.requires.cuts_good tt) in
    let most = mul-le-mul_right {m = a.cuts.second} {n = a.layers} a.columns (omega arith) in
    record { within = c.loop-column-test.true; upwards = omega arith; layers_in_odds = omega (arith, c.requires.layers_in_odds) }

pub band_cover-high-requires-clause-upwards : goal.band_cover-high-requires-clause-upwards
band_cover-high-requires-clause-upwards c = let cut = cuts_apart (cuts_of c.args.cuts) c.args.layers (rw c.requires.cuts_good tt) in omega arith

pub put_column-requires-clause-low_most : goal.put_column-requires-clause-low_most
put_column-requires-clause-low_most c = covered _ _ _ c.band_cover-low.ensures

pub put_column-requires-clause-middle_most : goal.put_column-requires-clause-middle_most
put_column-requires-clause-middle_most c = covered _ _ _ c.band_cover-middle.ensures

pub put_column-requires-clause-high_most : goal.put_column-requires-clause-high_most
put_column-requires-clause-high_most c = covered _ _ _ c.band_cover-high.ensures

pub loop-column-preserved : goal.loop-column-preserved
unfolding column_chart
loop-column-preserved c = let a = c.args in
    let size = c.requires.room in
    let more = c.loop-column-test.true in
    let again = one_more a.columns a.layers a.ceiling _ a.odds.now a.chart.now c.loop-column.column _ c.loop-column.invariant (omega arith) in
    rw (c.put_column.ensures, c.band_cover-low.ensures, c.band_cover-middle.ensures, c.band_cover-high.ensures) again
