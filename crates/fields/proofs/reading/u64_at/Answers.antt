-- The eight bytes, one by one.
use Prim.Native.Nat.{◌+◌, ◌-◌}
use mathlib.Core.Path.{◌∙◌}
use lib.ListN.{take, drop}
use Rattle.fields.proofs.Bytes.{from_8, from_part}
use Rattle.fields.proofs.reading.u64_at.Goals as goal

pub returns : goal.returns
returns c = let a = c.args in
    from_8 _ 0 (take (a.at + 8 - a.at) (drop a.at a.bytes.now)) c.from_le_bytes.ensures ∙ from_part 8 a.at a.bytes.now
