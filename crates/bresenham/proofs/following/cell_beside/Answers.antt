-- Up where the step is one, down where it is minus one; below cell 0 nothing is said.
use native.Mathlib.Omega.{arith}
use lib.Ieee.{binary64}
use Rattle.laws.specs.Literals.{zero_is}
use Rattle.laws.specs.Following.{followed_up, followed_down}
use Rattle.bresenham.proofs.following.cell_beside.Goals as goal

pub returns-then-step : goal.returns-then-step
returns-then-step c = followed_up binary64 c.args.cell c.args.current c.args.step c.requires.on_a_map c.requires.inside c.requires.whole_step (rw (← zero_is binary64) c.if-step.true)

pub returns-then-cell-eq0 : goal.returns-then-cell-eq0
returns-then-cell-eq0 c = λ h. absurd (omega arith)

pub returns : goal.returns
returns c = followed_down binary64 c.args.cell c.args.current c.args.step c.requires.on_a_map c.requires.inside c.requires.whole_step (rw (← zero_is binary64) c.if-step.false) c.if-cell-eq0.false
