-- Three runs, the last of them all that is left.
use Prim.Native.Nat.{◌+◌}
use mathlib.Core.List.{[], ◌∷◌}
use mathlib.Core.Path.{ap, ◌∙◌}
use native.Mathlib.Omega.{arith}
use lib.ListN.{take, drop}
use lib.Seq.{sets}
use Rattle.rules.specs.Fields.{little_endian, field, field_size}
use Rattle.rules.specs.MapRecord.{frame_length}
use Rattle.rules.specs.EditionTwo.{byte_length, open_tag}
use Rattle.editions.proofs.Runs.{rest_taken, length_run, three_runs}
use Rattle.editions.proofs.copying.put_rest.Goals as goal

pub returns : goal.returns
unfolding field little_endian
returns c = let a = c.args in
    let bs = a.bytes.now in
    let frame = take (field_size frame_length) (drop a.frame bs) in
    let rows = drop (a.frame + field_size frame_length) bs in
    let long = length_run (field_size frame_length) a.frame bs c.requires.all_there in
    three_runs frame (field open_tag (0 ∷ [])) rows a.out.now _ _ _ a.at (a.at + field_size frame_length) (a.at + field_size frame_length + field_size byte_length)
    c.copy_bytes.ensures c.put_mark.ensures (c.copy_bytes-2.ensures ∙ ap (sets _ (a.at + field_size frame_length + field_size byte_length)) (rest_taken (a.frame + field_size frame_length) bs)) (omega arith) (omega arith)
