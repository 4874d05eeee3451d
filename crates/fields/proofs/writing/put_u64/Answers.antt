-- The number's bytes in the place of a part.
use mathlib.Core.Path.{ap, ◌∙◌}
use lib.ListN.{length}
use lib.Seq.{sets}
use Rattle.fields.proofs.Bytes.{length_little, little_is}
use Rattle.fields.proofs.Stores.{put_part}
use Rattle.fields.proofs.writing.put_u64.Goals as goal

pub returns : goal.returns
returns c = let a = c.args in
    let bytes = c.copy_from_slice.ensures.after ∙ c.to_le_bytes.ensures ∙ little_is 8 a.n in
    put_part _ a.out.now a.at 8 (ap length bytes ∙ length_little 8 a.n) c.requires ∙ ap (sets a.out.now a.at) bytes
