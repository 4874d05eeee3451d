-- The place, then the test that only NaN passes, then the plain set.
use Rattle.std.proofs.Common.{ap}
use Rattle.laws.specs.Floats.Nans.{unlike_itself}
use Rattle.types.specs.Answers.{place_of}
use Rattle.marks.proofs.cells.set_checked_at.Goals as goal

pub returns-then-x : goal.returns-then-x
returns-then-x c = λ m e. rw (ap place_of c.in_ok-at.was) (simp (unlike_itself c.args.x, c.if-x.true))

pub set_log_odds_at-requires : goal.set_log_odds_at-requires
set_log_odds_at-requires c = c.requires c.in_ok-at.at (ap place_of c.in_ok-at.was)

pub returns : goal.returns
returns c = λ m e.
    let number = c.if-x.false in
    rw (ap place_of c.in_ok-at.was)
    (simp (unlike_itself c.args.x, number, c.set_log_odds_at.ensures m e))
