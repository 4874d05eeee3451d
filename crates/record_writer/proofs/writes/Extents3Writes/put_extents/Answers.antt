-- The head of the field, and three numbers.
use Rattle.record_writer.proofs.Fields.{extents3_written}
use Rattle.record_writer.proofs.writes.Extents3Writes.put_extents.Goals as goal

pub returns : goal.returns
returns c = extents3_written _ _ _ _ _ _ _ _ _ c.put_field.ensures c.put_u16.ensures c.put_u16-2.ensures c.put_u16-3.ensures
