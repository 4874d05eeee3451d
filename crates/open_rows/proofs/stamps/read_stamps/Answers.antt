-- What is left to store completes the row.
use Prim.Native.Nat.{◌+◌, ◌-◌, ◌*◌}
use mathlib.Core.Path.{◌≡◌, refl, sym, ap, ◌∙◌}
use native.Mathlib.Omega.{arith}
use native.Mathlib.Numerals.{add-one}
use lib.ListN.{length, drop}
use lib.Seq.{sets}
use Rattle.rules.specs.EditionTwo.{stamps_in}
use Rattle.rows.proofs.Odds.{sets-whole}
use Rattle.open_rows.proofs.Steps.{stamps_step, length-stamps}
use Rattle.open_rows.proofs.stamps.read_stamps.Goals as goal

pub loop-i-preserved : goal.loop-i-preserved
loop-i-preserved c = let a = c.args in
    let l = c.loop-i in
    l.invariant ∙ ap (sets l.row l.i) (stamps_step (length a.row.now) l.i a.at a.bytes.now c.loop-i-test.true) ∙ rw (c.u32_at.ensures, add-one) refl

pub returns : goal.returns
unfolding stamps_in
returns c = let a = c.args in
    let l = c.loop-i in
    let n = length a.row.now in
    let none : n - l.i ≡ 0 = omega arith in
    sym (sym (sets-whole (stamps_in n (drop a.at a.bytes.now)) a.row.now (length-stamps n _))
    ∙ l.invariant ∙ ap (λ k. sets l.row l.i (stamps_in k (drop (a.at + 4 * l.i) a.bytes.now))) none)
