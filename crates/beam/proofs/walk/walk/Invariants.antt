-- Between two steps the rest of the line does to the lists what the whole line did to them as they were.
use lib.Ieee.{binary64}
use Rattle.grid_map.specs.Heads.{head_of}
use Rattle.beam.specs.Walking.{Walked}
use Rattle.beam.proofs.walk.walk.Given as goal

abbrev pub invariant-loop-cell : goal.invariant-loop-cell
invariant-loop-cell g l = Walked binary64 (head_of g.E.Axes.extents g.E.Axes.model_of l.map) l.occupied (g.E.Lines.line_of l.initial.rest) l.initial.odds l.initial.stamps
    (g.E.Lines.line_of l.rest) l.odds l.stamps l.count (g.E.Lines.line_of l.rest).remaining

abbrev pub decreases-loop-cell : goal.decreases-loop-cell
decreases-loop-cell g l = (g.E.Lines.line_of l.rest).remaining
