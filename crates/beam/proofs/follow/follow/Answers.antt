-- Between two steps each axis's cell is its coordinate's, so the cell that is marked is the line's.
use Rattle.std.proofs.Common.{false}
use Rattle.beam.proofs.Following.{follows}
use Rattle.beam.proofs.Walking.{still_counts}
use Rattle.beam.proofs.follow.follow.Goals as goal

pub overflow_add-count : goal.overflow_add-count
overflow_add-count g c = still_counts _ _ _ _ _ _ _ c.requires.ready (c.loop-remaining.invariant.begun.walked false).used c.mark_counted-count.ensures.used

pub loop-remaining-preserved : goal.loop-remaining-preserved
loop-remaining-preserved g c = rw c.remaining-remaining-in-loop-remaining.ensures
    (follows _ _ _ _ _ _ _ _ _ _ _ c.loop-remaining.invariant _ _ _ c.mark_counted-count.result _ _ c.loop-remaining-test.true
    c.in-Some.ensures.small c.in-Some.ensures.found c.mark_counted-count.ensures c.moved-rest.ensures c.cells_after-cells.ensures)
