-- What is left to copy completes the run.
use Prim.Native.Nat.{ℕ, ◌+◌, ◌-◌}
use mathlib.Core.Path.{◌≡◌, refl, sym, ap, ◌∙◌}
use native.Mathlib.Omega.{arith}
use lib.ListN.{length-set, take, drop}
use lib.Seq.{sets}
use Rattle.editions.proofs.Runs.{run_step}
use Rattle.editions.proofs.copying.copy_bytes.Goals as goal

pub loop-i-init : goal.loop-i-init
loop-i-init c = let a = c.args in
    let place : a.at + 0 ≡ a.at = omega arith in
    let left : a.count - 0 ≡ a.count = omega arith in
    let here : a.from + 0 ≡ a.from = omega arith in
    (refl, rw (place, left, here) refl)

pub loop-i-preserved : goal.loop-i-preserved
loop-i-preserved c = let a = c.args in
    let l = c.loop-i in
    (simp length-set l.invariant.0, l.invariant.1 ∙ run_step a.count l.i a.at a.from l.out a.bytes.now c.loop-i-test.true c.requires.all_there)

pub returns : goal.returns
returns c = let a = c.args in
    let l = c.loop-i in
    let none : a.count - l.i ≡ 0 = omega arith in
    sym (l.invariant.1 ∙ ap (λ (n : ℕ). sets l.out (a.at + l.i) (take n (drop (a.from + l.i) a.bytes.now))) none)
