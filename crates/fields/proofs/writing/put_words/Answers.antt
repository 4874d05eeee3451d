-- The numbers that are left to write complete the run.
use Prim.Native.Nat.{◌+◌}
use mathlib.Core.Path.{sym, ◌∙◌}
use native.Mathlib.Omega.{arith}
use lib.ListN.{get_or, drop}
use lib.Seq.{sets}
use Rattle.std.proofs.lemmas.List.{at_drop_more, at_drop_all}
use Rattle.rules.specs.Fields.{little_endian}
use Rattle.rules.specs.EditionTwo.{stamp_bytes}
use Rattle.fields.proofs.Bytes.{length_little}
use Rattle.fields.proofs.Stores.{run_on}
use Rattle.fields.proofs.writing.put_words.Goals as goal

pub loop-n-preserved : goal.loop-n-preserved
unfolding stamp_bytes
loop-n-preserved c = let a = c.args in
    let l = c.loop-n in
    let bytes = little_endian 4 (get_or a.numbers.now l.n-index 0) in
    let rest = stamp_bytes (drop (l.n-index + 1) a.numbers.now) in
    record {
      place = omega arith;
      kept = c.put_u32.auto.out ∙ l.invariant.kept;
      left = l.invariant.left ∙ at_drop_more (λ ns. sets l.out l.here (stamp_bytes ns)) a.numbers.now l.n-index 0 c.loop-n-test.true
          ∙ run_on bytes rest l.out _ l.here 4 (length_little 4 _) c.put_u32.ensures;
    }

pub returns : goal.returns
unfolding stamp_bytes
returns c = let l = c.loop-n in
    sym (l.invariant.left ∙ at_drop_all (λ ns. sets l.out l.here (stamp_bytes ns)) c.args.numbers.now l.n-index (omega arith))
