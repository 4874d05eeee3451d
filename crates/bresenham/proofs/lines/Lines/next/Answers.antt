-- Each way out is one of the ways of a line of any number of axes.
use Rattle.std.proofs.Common.{sym, ◌∙◌}
use lib.Ieee.{binary64}
use Rattle.rules.specs.TheLine.{last_step, earlier_step}
use Rattle.bresenham.proofs.Laws.{over, strange, ends, goes}
use Rattle.bresenham.proofs.lines.Lines.next.Goals as goal

pub returns-then-remaining-eq0 : goal.returns-then-remaining-eq0
returns-then-remaining-eq0 g c = over binary64 _ (sym c.remaining-remaining.ensures ∙ c.if-remaining-eq0.true)

pub returns-then-lacks_primary : goal.returns-then-lacks_primary
returns-then-lacks_primary g c = strange binary64 _ (rw c.remaining-remaining.ensures at c.if-remaining-eq0.false) (sym c.if-lacks_primary.ensures)

pub returns-then-remaining-eq1 : goal.returns-then-remaining-eq1
unfolding last_step
returns-then-remaining-eq1 g c =
    rw (c.last_cell.ensures, c.ended.ensures)
    (ends binary64 _ (sym c.if-lacks_primary.ensures) (sym c.remaining-remaining.ensures ∙ c.if-remaining-eq1.true))

pub returns : goal.returns
unfolding earlier_step
returns g c =
    let r = c.remaining-remaining.ensures in
    rw (c.current_cell.ensures, c.moved.ensures)
    (goes binary64 _ (sym c.if-lacks_primary.ensures) (rw r at c.if-remaining-eq0.false) (rw r at c.if-remaining-eq1.false))
