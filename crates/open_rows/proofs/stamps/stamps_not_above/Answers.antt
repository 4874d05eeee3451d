-- The marks seen and the stamps that are left decide together.
use mathlib.Core.Bool.{◌&&◌}
use mathlib.Core.Path.{refl, sym, ◌∙◌}
use native.Mathlib.Omega.{arith}
use lib.Dec.{ltb}
use Rattle.std.proofs.lemmas.List.{at_drop_all}
use Rattle.rules.specs.EditionTwo.{none_above}
use Rattle.open_rows.proofs.Steps.{highest, lent_seen, all_seen}
use Rattle.open_rows.proofs.stamps.stamps_not_above.Goals as goal

pub loop-n-preserved : goal.loop-n-preserved
loop-n-preserved c = let a = c.args in
    let l = c.loop-n in
    l.invariant ∙ lent_seen a.frame.0 l.marks l.n-index a.row.now c.loop-n-test.true ∙ rw c.mark_of-marks.ensures refl

pub returns : goal.returns
returns c = let a = c.args in
    let l = c.loop-n in
    sym (l.invariant ∙ at_drop_all (λ ss. ltb l.marks highest && none_above a.frame.0 ss) a.row.now l.n-index (omega arith) ∙ all_seen a.frame.0 l.marks)
