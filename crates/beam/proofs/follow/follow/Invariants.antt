-- Between two steps each axis's cell is its coordinate's, so the cell that is marked is the line's.
use lib.Ieee.{binary64}
use Rattle.grid_map.specs.Heads.{head_of}
use Rattle.beam.proofs.Following.{Along}
use Rattle.beam.proofs.follow.follow.Given as goal

abbrev pub invariant-loop-remaining : goal.invariant-loop-remaining
invariant-loop-remaining g l = Along binary64 (head_of g.E.Axes.extents g.E.Axes.model_of l.map) (g.E.Lines.line_of l.initial.rest) l.initial.odds l.initial.stamps
    (g.E.Lines.cells l.cells) (g.E.Lines.line_of l.rest) l.odds l.stamps l.count l.remaining

abbrev pub decreases-loop-remaining : goal.decreases-loop-remaining
decreases-loop-remaining g l = l.remaining
