-- Three runs, the last of them all that is left.
use Prim.Native.Nat.{◌+◌}
use mathlib.Core.Path.{ap, ◌∙◌}
use native.Mathlib.Omega.{arith}
use lib.ListN.{take, drop}
use lib.Seq.{sets}
use Rattle.rules.specs.Fields.{field_size}
use Rattle.rules.specs.MapRecord.{frame_length}
use Rattle.rules.specs.EditionTwo.{byte_length}
use Rattle.editions.proofs.Runs.{rest_taken, length_run, three_runs}
use Rattle.editions.proofs.copying.put_back.Goals as goal

pub returns : goal.returns
returns c = let a = c.args in
    let bs = a.bytes.now in
    let first = take a.size (drop (field_size byte_length) bs) in
    let frame = take (field_size frame_length) (drop a.frame bs) in
    let rows = drop (a.frame + field_size frame_length + field_size byte_length) bs in
    let long = length_run a.size (field_size byte_length) bs (omega arith) in
    let short = length_run (field_size frame_length) a.frame bs (omega arith) in
    three_runs first frame rows a.out.now _ _ _ 0 a.size (a.size + field_size frame_length)
    c.copy_bytes.ensures c.copy_bytes-2.ensures (c.copy_bytes-3.ensures ∙ ap (sets _ (a.size + field_size frame_length)) (rest_taken (a.frame + field_size frame_length + field_size byte_length) bs)) (omega arith) (omega arith)
