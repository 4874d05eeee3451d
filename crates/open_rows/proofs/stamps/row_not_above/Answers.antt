-- The marks seen and the stamps that are left decide together.
use Prim.Native.Nat.{◌+◌, ◌-◌, ◌*◌}
use mathlib.Core.Bool.{◌&&◌}
use mathlib.Core.Path.{◌≡◌, refl, sym, ap, ◌∙◌}
use native.Mathlib.Omega.{arith}
use lib.Dec.{ltb}
use lib.ListN.{drop}
use Rattle.rules.specs.EditionTwo.{stamps_in, none_above}
use Rattle.open_rows.proofs.Steps.{highest, stored_seen, all_seen}
use Rattle.open_rows.proofs.stamps.row_not_above.Goals as goal

pub loop-i-preserved : goal.loop-i-preserved
loop-i-preserved c = let a = c.args in
    let l = c.loop-i in
    l.invariant ∙ stored_seen a.frame.0 l.marks a.width l.i a.at a.bytes.now c.loop-i-test.true ∙ rw (c.mark_of-marks.ensures, c.u32_at.ensures) refl

pub returns : goal.returns
unfolding stamps_in
returns c = let a = c.args in
    let l = c.loop-i in
    let none : a.width - l.i ≡ 0 = omega arith in
    sym (l.invariant ∙ ap (λ n. ltb l.marks highest && none_above a.frame.0 (stamps_in n (drop (a.at + 4 * l.i) a.bytes.now))) none ∙ all_seen a.frame.0 l.marks)
