-- The model of the cell's band has the cell's steps.
use Rattle.std.proofs.Common.{ℕ, ◌<◌, sym, ◌∙◌, subst}
use Rattle.beam.proofs.Applying.{by_the_steps}
use Rattle.beam.proofs.marking.mark_counted.Goals as goal

pub mark_counted_by-requires-clause-in_stamps : goal.mark_counted_by-requires-clause-in_stamps
mark_counted_by-requires-clause-in_stamps g c =
    subst (λ (k : ℕ). c.args.at < k) (c.requires.ready.odds_count ∙ sym c.requires.ready.stamps_count) c.requires.in_lists

pub returns : goal.returns
returns g c = by_the_steps _ _ _ c.args.occupied c.args.at _ _ _ _ _ _ c.model_at-model.ensures c.mark_counted_by.ensures
