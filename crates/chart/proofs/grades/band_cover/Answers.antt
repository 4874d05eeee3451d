-- From the top down: the cells passed have the cover so far.
use Rattle.std.proofs.Common.{◌≡◌, ℕ, ◌-◌, ◌*◌, ◌+◌, ◌∷◌, max, get_or, refl, sym, ap, ◌∙◌, arith, rules}
use lib.Ieee.{nan}
use Rattle.rules.specs.LayerChart.{larger, band_cover, cells_between}
use Rattle.chart.proofs.Stack.{lowest, none_left}
use Rattle.chart.proofs.grades.band_cover.Goals as goal

larger-max : (a b : ℕ) → max a b ≡ larger a b
larger-max a b = search rules

pub loop-z-init : goal.loop-z-init
unfolding band_cover
loop-z-init c = let a = c.args in
    record { above = c.requires.upwards; cover = rw (none_left a.columns a.column a.odds.now a.to) refl }

pub loop-z-preserved : goal.loop-z-preserved
unfolding band_cover
loop-z-preserved c = let a = c.args in
    let z = c.loop-z.z in
    let more = c.loop-z-test.true in
    let top = c.loop-z.auto.z in
    let back : z - 1 + 1 ≡ z = omega arith in
    let cells = lowest a.columns a.column a.odds.now (z - 1) a.to (omega arith)
    ∙ ap (λ k. get_or a.odds.now (a.column + (z - 1) * a.columns) nan ∷ cells_between a.columns a.odds.now a.column k a.to) back in
    record { above = omega arith; cover = rw (cells, c.max-most.ensures, larger-max, c.cell_eighths-cell.ensures, sym c.loop-z.invariant.cover) refl }

pub returns : goal.returns
returns c = let a = c.args in
    let e : c.loop-z.z ≡ a.from = omega (arith, c.loop-z-test.false, c.loop-z.invariant.above) in
    rw (sym e) c.loop-z.invariant.cover
