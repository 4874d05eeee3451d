-- A stamp of this frame leaves the cell; any other is replaced and the free step taken.
use mathlib.Core.Path.{◌∙◌}
use lib.Ieee.{binary64}
use Rattle.marks.specs.Marking.{steps_of}
use Rattle.marks.proofs.Marking.{free_left, free_moved}
use Rattle.marks.proofs.marks.mark_free_at.Goals as goal

pub returns-then-number-frame : goal.returns-then-number-frame
returns-then-number-frame c = let a = c.args in
    let stamp = c.number.ensures ∙ c.read-stamp.ensures in
    free_left binary64 (steps_of a.s) a.frame.0 a.at a.odds.now a.stamps.now (rw stamp at c.if-number-frame.true)

pub returns : goal.returns
returns c = let a = c.args in
    let stamp = c.number.ensures ∙ c.read-stamp.ensures in
    free_moved binary64 (steps_of a.s) a.frame.0 a.at a.odds.now a.stamps.now
    (rw stamp at c.if-number-frame.false) c.freed.ensures (c.number-2.ensures ∙ c.of.ensures)
