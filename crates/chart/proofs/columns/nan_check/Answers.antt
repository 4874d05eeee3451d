-- No column passed holds NaN, so the first of the rest is the first of all.
use Prim.Native.Nat.{suc}
use Rattle.std.proofs.Common.{◌≡◌, ◌+◌, ◌-◌, sym, ap, ◌∙◌, add-one, arith}
use Rattle.rules.specs.LayerChart.{first_nan}
use Rattle.chart.proofs.columns.nan_check.Goals as goal

pub returns-then-holds_nan : goal.returns-then-holds_nan
unfolding first_nan
returns-then-holds_nan c = let a = c.args in
    let column = c.loop-column.column in
    let left : a.columns - column ≡ suc (a.columns - (column + 1)) = omega (arith, c.loop-column-test.true) in
    sym (c.loop-column.invariant ∙ ap (λ n. first_nan a.columns a.layers a.odds.now n column) left ∙ simp (sym c.if-holds_nan.ensures))

pub loop-column-preserved : goal.loop-column-preserved
unfolding first_nan
loop-column-preserved c = let a = c.args in
    let column = c.loop-column.column in
    let left : a.columns - column ≡ suc (a.columns - (column + 1)) = omega (arith, c.loop-column-test.true) in
    c.loop-column.invariant ∙ ap (λ n. first_nan a.columns a.layers a.odds.now n column) left
    ∙ rw (sym c.if-holds_nan.ensures) (ap (first_nan a.columns a.layers a.odds.now (a.columns - (column + 1))) (sym (add-one column)))

pub returns : goal.returns
unfolding first_nan
returns c = let a = c.args in
    let none_left : a.columns - c.loop-column.column ≡ 0 = omega (arith, c.loop-column-test.false, c.loop-column.auto.column-end) in
    sym (c.loop-column.invariant ∙ ap (λ n. first_nan a.columns a.layers a.odds.now n c.loop-column.column) none_left)
