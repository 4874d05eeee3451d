-- Dividing tells, and cannot wrap; of nothing each there is nothing.
use Prim.Native.Nat.{ℕ, ◌*◌, ◌<◌}
use mathlib.Core.Path.{sym, ap, ◌∙◌}
use native.Mathlib.Nat.{zero-mul}
use native.Mathlib.Omega.{arith}
use lib.Dec.{eqb}
use Rattle.checks.proofs.Dividing.{quotient_decides, left_over}
use Rattle.checks.proofs.counts.so_many_each.Goals as goal

pub returns-then-size-eq0 : goal.returns-then-size-eq0
returns-then-size-eq0 c = let a = c.args in
    ap (eqb a.numbers) (sym (ap (λ (n : ℕ). n * a.count) c.if-size-eq0.true ∙ zero-mul a.count))

pub returns-then-numbers-size-eq0 : goal.returns-then-numbers-size-eq0
returns-then-numbers-size-eq0 c = let a = c.args in
    let some : 0 < a.size = let n = c.if-size-eq0.false in omega arith in
    quotient_decides a.numbers a.size a.count some c.if-numbers-size-eq0.true

pub returns : goal.returns
returns c = let a = c.args in sym (left_over a.numbers a.size a.count c.if-numbers-size-eq0.false)
