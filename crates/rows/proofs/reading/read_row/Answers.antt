-- What is left to store completes the row.
use Prim.Native.Nat.{◌+◌, ◌-◌, ◌*◌}
use mathlib.Core.Path.{◌≡◌, refl, sym, ap, ◌∙◌}
use native.Mathlib.Omega.{arith}
use native.Mathlib.Numerals.{add-one}
use lib.ListN.{length, drop}
use lib.Seq.{sets}
use Rattle.rules.specs.Fields.{floats_in}
use Rattle.rows.proofs.Odds.{floats_step, length_floats, sets-whole}
use Rattle.rows.proofs.reading.read_row.Goals as goal

pub loop-i-preserved : goal.loop-i-preserved
loop-i-preserved c = let a = c.args in
    let l = c.loop-i in
    l.invariant ∙ ap (sets l.row l.i) (floats_step (length a.row.now) l.i a.at a.bytes.now c.loop-i-test.true) ∙ rw (c.f64_at.ensures, add-one) refl

pub returns : goal.returns
unfolding floats_in
returns c = let a = c.args in
    let l = c.loop-i in
    let n = length a.row.now in
    let none : n - l.i ≡ 0 = omega arith in
    sym (sym (sets-whole (floats_in n (drop a.at a.bytes.now)) a.row.now (length_floats n _))
    ∙ l.invariant ∙ ap (λ k. sets l.row l.i (floats_in k (drop (a.at + 8 * l.i) a.bytes.now))) none)
