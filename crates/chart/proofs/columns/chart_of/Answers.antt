-- The room, the columns for NaN, and then the chart; the extents' products are the rule's columns.
use Rattle.std.proofs.Common.{◌*◌, length, refl, arith, rules}
use borrow.Author.Tests.{le-leb, lt-leb}
use Rattle.rules.specs.LayerChart.{chart_refusal, charted}
use Rattle.chart.proofs.Sizes.{columns_is, layers_is, cells_by_layer}
use Rattle.chart.proofs.columns.chart_of.Goals as goal

pub returns-then-chart-needed : goal.returns-then-chart-needed
unfolding charted chart_refusal
returns-then-chart-needed c = let a = c.args in
    let e = a.extents in
    rw (columns_is e.x e.y e.z, lt-leb (5 * (e.x * e.y)) (length a.chart.now) c.if-chart-needed.true) refl

pub nan_check-requires : goal.nan_check-requires
nan_check-requires c = let e = c.args.extents in
    omega (arith, c.requires.one_per_cell, cells_by_layer e.x e.y e.z)

pub fill-requires-clause-cuts_good : goal.fill-requires-clause-cuts_good
fill-requires-clause-cuts_good c = let e = c.args.extents in
    rw (layers_is e.x e.y e.z) at c.requires.cuts_good

pub fill-requires-clause-layers_in_odds : goal.fill-requires-clause-layers_in_odds
fill-requires-clause-layers_in_odds c = let e = c.args.extents in
    omega (arith, c.requires.one_per_cell, cells_by_layer e.x e.y e.z)

pub returns-in_err-nan_check : goal.returns-in_err-nan_check
unfolding charted chart_refusal
returns-in_err-nan_check c = let a = c.args in
    let e = a.extents in
    rw (
      columns_is e.x e.y e.z,
      layers_is e.x e.y e.z,
      le-leb (5 * (e.x * e.y)) (length a.chart.now) c.if-chart-needed.false,
      ← c.in_err-nan_check.ensures,
    ) (search rules)

pub returns : goal.returns
unfolding charted chart_refusal
returns c = let a = c.args in
    let e = a.extents in
    rw (
      columns_is e.x e.y e.z,
      layers_is e.x e.y e.z,
      le-leb (5 * (e.x * e.y)) (length a.chart.now) c.if-chart-needed.false,
      ← c.in_ok-nan_check.ensures,
      c.fill.ensures,
    ) refl
