-- The four bytes, one by one.
use Rattle.fields.proofs.Bytes.{from_4}
use Rattle.fields.proofs.reading.u32_at.Goals as goal

pub returns : goal.returns
returns c = from_4 _ c.args.at c.args.bytes.now c.from_le_bytes.ensures
