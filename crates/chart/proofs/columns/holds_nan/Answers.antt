-- From the ground up: no cell passed is NaN, so the rest decides.
use Rattle.std.proofs.Common.{◌≡◌, sym, ap, ◌∙◌, arith}
use Rattle.rules.specs.LayerChart.{any_nan, cells_between}
use Rattle.laws.specs.Floats.Nans.{unlike_itself}
use Rattle.chart.proofs.Stack.{lowest, none_left}
use Rattle.chart.proofs.columns.holds_nan.Goals as goal

pub returns-then-x : goal.returns-then-x
unfolding any_nan
returns-then-x c = let a = c.args in
    let cells = lowest a.columns a.column a.odds.now c.loop-z.z a.layers c.loop-z-test.true in
    sym (c.loop-z.invariant ∙ ap any_nan cells ∙ simp (unlike_itself, c.if-x.true))

pub loop-z-preserved : goal.loop-z-preserved
unfolding any_nan
loop-z-preserved c = let a = c.args in
    let cells = lowest a.columns a.column a.odds.now c.loop-z.z a.layers c.loop-z-test.true in
    c.loop-z.invariant ∙ ap any_nan cells ∙ simp (unlike_itself, c.if-x.false)

pub returns : goal.returns
unfolding any_nan
returns c = let a = c.args in
    let e : c.loop-z.z ≡ a.layers = omega (arith, c.loop-z-test.false, c.loop-z.auto.z-end) in
    sym (c.loop-z.invariant ∙ ap (λ z. any_nan (cells_between a.columns a.odds.now a.column z a.layers)) e
    ∙ ap any_nan (none_left a.columns a.column a.odds.now a.layers))
