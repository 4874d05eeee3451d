-- The limit that a model's ceiling gives.
use Rattle.marks.proofs.Marking.{set_by_ceiling}
use Rattle.marks.proofs.cells.set_log_odds_at.Goals as goal

pub returns : goal.returns
returns c = λ m e. rw c.clamp.ensures (set_by_ceiling m _ _ _ _ e)
