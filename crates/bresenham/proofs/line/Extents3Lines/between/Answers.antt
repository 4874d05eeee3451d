-- Field by field what the calls ensure.
use lib.Ieee.{binary64}
use Rattle.rules.specs.TheLine.{line_between, axes_of}
use Rattle.laws.specs.Literals.{threshold3_is}
use Rattle.bresenham.proofs.line.Extents3Lines.between.Goals as goal

pub returns : goal.returns
unfolding line_between axes_of
returns c = simp (c.axis_of.ensures, c.axis_of-2.ensures, c.axis_of-3.ensures, c.cells_yielded.ensures, threshold3_is binary64)
