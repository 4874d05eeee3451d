-- The two bytes, one by one.
use Rattle.fields.proofs.Bytes.{from_2}
use Rattle.fields.proofs.reading.u16_at.Goals as goal

pub returns : goal.returns
returns c = from_2 _ c.args.at c.args.bytes.now c.from_le_bytes.ensures
