-- By the stamp, and then by the floor.
use mathlib.Core.Path.{sym, ◌∙◌}
use lib.Ieee.{binary64}
use Rattle.marks.proofs.Marking.{on_the_floor, taken_back_lem, nothing_back}
use Rattle.marks.proofs.marks.occupied_step.Goals as goal

pub returns-then-odds-s : goal.returns-then-odds-s
returns-then-odds-s c = on_the_floor binary64 _ _ _ _ (c.number-2.ensures ∙ c.of.ensures)
    (sym c.number.ensures ∙ c.if-number.true) c.if-odds-s.true

pub returns-then-number : goal.returns-then-number
returns-then-number c = taken_back_lem binary64 _ _ _ _ (c.number-2.ensures ∙ c.of.ensures)
    (sym c.number.ensures ∙ c.if-number.true) c.if-odds-s.false

pub returns : goal.returns
returns c = nothing_back binary64 _ _ _ _ (c.number-2.ensures ∙ c.of.ensures) (λ e. c.if-number.false (c.number.ensures ∙ e))
