-- The mark's answer is the count.
use Rattle.std.proofs.Common.{Bool, cond, sym, ap}
use Rattle.beam.proofs.Applying.{one_applied}
use Rattle.beam.proofs.marking.mark_counted_by.Goals as goal

pub returns-then-mark_place : goal.returns-then-mark_place
returns-then-mark_place c =
    one_applied _ _ _ c.args.occupied c.args.at _ _ _ _ c.mark_place.result 1 c.requires.in_stamps
    (rw (c.steps_of.ensures c.args.at) at c.mark_place.ensures) (sym (ap (λ (b : Bool). cond b 1 0) c.if-mark_place.true))

pub returns : goal.returns
returns c =
    one_applied _ _ _ c.args.occupied c.args.at _ _ _ _ c.mark_place.result 0 c.requires.in_stamps
    (rw (c.steps_of.ensures c.args.at) at c.mark_place.ensures) (sym (ap (λ (b : Bool). cond b 1 0) c.if-mark_place.false))
