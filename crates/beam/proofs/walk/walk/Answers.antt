-- Between two steps the rest of the line does to the lists what the whole line did to them as they were.
use Rattle.std.proofs.Common.{arith, sym, ◌∙◌}
use Rattle.laws.specs.LineSteps.{stepped}
use Rattle.beam.proofs.Walking.{one_step, stopped, still_counts}
use Rattle.beam.proofs.walk.walk.Goals as goal

pub overflow_add-count : goal.overflow_add-count
overflow_add-count g c = still_counts _ _ _ _ _ _ _ c.requires c.loop-cell.invariant.used c.mark_cell-count.ensures.used

pub loop-cell-smaller : goal.loop-cell-smaller
loop-cell-smaller g c = let s = (stepped _ _ _ _ (sym c.in-Some.ensures)).one_less in omega arith

pub loop-cell-preserved : goal.loop-cell-preserved
loop-cell-preserved g c = one_step _ _ _ _ _ _ _ _ _ _ _ c.loop-cell.invariant _ _ _ c.mark_cell-count.result _ _ (sym c.in-Some.ensures)
    (c.ends_occupied.ensures ∙ rw c.remaining-remaining.ensures) c.mark_cell-count.ensures

pub returns : goal.returns
returns g c = stopped _ _ _ _ _ _ _ _ _ _ _ c.loop-cell.invariant (sym c.in_default.ensures)
