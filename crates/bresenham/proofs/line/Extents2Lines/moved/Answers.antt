-- Each axis is a call's.
use Rattle.rules.specs.TheLine.{axes_after}
use Rattle.bresenham.proofs.line.Extents2Lines.moved.Goals as goal

pub returns : goal.returns
unfolding axes_after
returns c = simp (c.axis_after.ensures, c.axis_after-2.ensures)
