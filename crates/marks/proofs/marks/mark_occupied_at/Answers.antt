-- An occupied stamp of this frame leaves the cell; any other is replaced and the occupied step taken.
use mathlib.Core.Path.{◌∙◌}
use lib.Ieee.{binary64}
use Rattle.marks.specs.Marking.{steps_of}
use Rattle.marks.proofs.Marking.{occupied_left, occupied_moved}
use Rattle.marks.proofs.marks.mark_occupied_at.Goals as goal

pub returns-then-number-mark : goal.returns-then-number-mark
returns-then-number-mark c = let a = c.args in
    let stamp = c.number.ensures ∙ c.read-stamp.ensures in
    occupied_left binary64 (steps_of a.s) a.frame.0 a.at a.odds.now a.stamps.now (rw stamp at c.if-number-mark.true)
    (c.number-mark.ensures ∙ c.of.ensures)

pub returns : goal.returns
returns c = let a = c.args in
    let read = c.read-stamp.ensures in
    let stamp = c.number.ensures ∙ read in
    occupied_moved binary64 (steps_of a.s) a.frame.0 a.at a.odds.now a.stamps.now
    (rw stamp at c.if-number-mark.false) (rw read at c.occupied_step-step.ensures) c.occupy.ensures (c.number-mark.ensures ∙ c.of.ensures)
