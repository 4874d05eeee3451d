-- The part that was followed, and then the last cell, or what is left step by step.
use Rattle.std.proofs.Common.{false, sym, ◌∙◌}
use Rattle.beam.proofs.Walking.{goes_last, still_counts}
use Rattle.beam.proofs.walk.walk_drawn.Goals as goal

pub overflow_add-result : goal.overflow_add-result
overflow_add-result g c = still_counts _ _ _ _ _ _ _ c.requires.ready (c.follow-part.ensures.walked false).used c.mark_cell.ensures.used

pub returns-then-remaining-eq1 : goal.returns-then-remaining-eq1
returns-then-remaining-eq1 g c = goes_last _ _ _ _ _ _ _ _ _ c.follow-part.ensures c.args.occupied c.mark_cell.result _ _
    (sym c.remaining.ensures ∙ c.if-remaining-eq1.true) (rw c.last_cell.ensures at c.mark_cell.ensures)

pub overflow_add-result-2 : goal.overflow_add-result-2
overflow_add-result-2 g c = still_counts _ _ _ _ _ _ _ c.requires.ready (c.follow-part.ensures.walked false).used c.walk.ensures.used

pub returns : goal.returns
returns g c = (c.follow-part.ensures.walked c.args.occupied).whole _ _ _ c.walk.ensures
