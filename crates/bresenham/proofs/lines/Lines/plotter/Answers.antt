-- A refusal goes through, and a line is the one along the axis that was chosen.
use Rattle.std.proofs.Common.{rules, ap, ◌∙◌}
use Rattle.rules.specs.RefusalNumbers.{given}
use Rattle.bresenham.proofs.Laws.{draws}
use Rattle.bresenham.proofs.lines.Lines.plotter.Goals as goal

pub returns-in_err-best : goal.returns-in_err-best
returns-in_err-best g c = rw (← draws _ _ _ _ c.in_err-best.ensures) (search rules)

pub returns : goal.returns
returns g c = ap given c.between.ensures ∙ draws _ _ _ _ c.in_ok-best.ensures
