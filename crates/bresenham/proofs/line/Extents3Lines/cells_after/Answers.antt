-- Each axis is a call's.
use Rattle.rules.specs.TheLine.{axes_after}
use Rattle.bresenham.proofs.line.Extents3Lines.cells_after.Goals as goal

pub returns : goal.returns
unfolding axes_after
returns c = (c.cell_after.ensures, (c.cell_after-2.ensures, (c.cell_after-3.ensures, tt)))
