-- The floats that are left to write complete the run.
use Prim.Native.Nat.{◌+◌}
use mathlib.Core.Path.{sym, ◌∙◌}
use native.Mathlib.Omega.{arith}
use lib.Ieee.{nan, binary64, to_bits}
use lib.ListN.{get_or, drop}
use lib.Seq.{sets}
use Rattle.std.proofs.lemmas.List.{at_drop_more, at_drop_all}
use Rattle.rules.specs.Fields.{little_endian, float_bytes}
use Rattle.fields.proofs.Bytes.{length_little}
use Rattle.fields.proofs.Stores.{run_on}
use Rattle.fields.proofs.writing.put_floats.Goals as goal

pub loop-x-preserved : goal.loop-x-preserved
unfolding float_bytes
loop-x-preserved c = let a = c.args in
    let l = c.loop-x in
    let bytes = little_endian 8 (to_bits binary64 (get_or a.numbers.now l.x-index nan)) in
    let rest = float_bytes (drop (l.x-index + 1) a.numbers.now) in
    record {
      place = omega arith;
      kept = c.put_f64.auto.out ∙ l.invariant.kept;
      left = l.invariant.left ∙ at_drop_more (λ xs. sets l.out l.here (float_bytes xs)) a.numbers.now l.x-index nan c.loop-x-test.true
          ∙ run_on bytes rest l.out _ l.here 8 (length_little 8 _) c.put_f64.ensures;
    }

pub returns : goal.returns
unfolding float_bytes
returns c = let l = c.loop-x in
    sym (l.invariant.left ∙ at_drop_all (λ xs. sets l.out l.here (float_bytes xs)) c.args.numbers.now l.x-index (omega arith))
