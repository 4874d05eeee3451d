-- The marks seen and the floats that are left decide together.
use Prim.Native.Nat.{◌+◌, ◌-◌, ◌*◌, ◌≤◌}
use mathlib.Core.Bool.{◌&&◌}
use mathlib.Core.Path.{◌≡◌, sym, ap, ◌∙◌}
use native.Mathlib.Omega.{arith}
use lib.Dec.{ltb}
use lib.ListN.{drop}
use Rattle.std.proofs.Common.{rules}
use Rattle.rules.specs.Fields.{floats_in}
use Rattle.rules.specs.MapRecord.{odds_in_bounds}
use Rattle.types.specs.Models.{model_of}
use Rattle.rows.specs.Marks.{highest}
use Rattle.rows.proofs.Marked.{first_small, pattern_seen, all_seen}
use Rattle.rows.proofs.reading.row_in_bounds.Goals as goal

pub overflow_sub-marks : goal.overflow_sub-marks
overflow_sub-marks c = let small : c.first_above-above.result ≤ highest = rw c.first_above-above.ensures (first_small c.args.model.ceiling) in omega arith

pub loop-i-preserved : goal.loop-i-preserved
loop-i-preserved c = let a = c.args in
    let l = c.loop-i in
    l.invariant
    ∙ pattern_seen (model_of a.model) l.marks a.width l.i a.at a.bytes.now _ c.u64_at.result (search rules) c.first_above-above.ensures c.u64_at.ensures c.loop-i-test.true

pub returns : goal.returns
unfolding floats_in
returns c = let a = c.args in
    let l = c.loop-i in
    let m = model_of a.model in
    let none : a.width - l.i ≡ 0 = omega arith in
    sym (l.invariant ∙ ap (λ n. ltb l.marks highest && odds_in_bounds m (floats_in n (drop (a.at + 8 * l.i) a.bytes.now))) none ∙ all_seen m l.marks)
