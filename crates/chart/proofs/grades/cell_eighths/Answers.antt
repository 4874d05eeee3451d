-- The ceiling's test, and then a test for each limit; the literals are the rule's limits.
use mathlib.Core.Path.{refl, sym, ap}
use native.Mathlib.Nat.{add-zero}
use Rattle.rules.specs.LayerChart.{reached, eighths}
use Rattle.chart.proofs.Limits.{limits_are}
use Rattle.chart.proofs.grades.cell_eighths.Goals as goal

pub returns-then-odds-ceiling : goal.returns-then-odds-ceiling
unfolding eighths
returns-then-odds-ceiling c = rw c.if-odds-ceiling.true refl

pub returns : goal.returns
unfolding eighths reached
returns c = let x = c.args.odds in
    rw c.if-odds-ceiling.false
    (rw (
      c.at_limit-7.ensures,
      c.at_limit-6.ensures,
      c.at_limit-5.ensures,
      c.at_limit-4.ensures,
      c.at_limit-3.ensures,
      c.at_limit-2.ensures,
      c.at_limit.ensures,
    ) (rw add-zero at (sym (ap (reached x) limits_are))))
