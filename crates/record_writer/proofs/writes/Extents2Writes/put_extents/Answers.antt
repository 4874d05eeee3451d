-- The head of the field, and two numbers.
use Rattle.record_writer.proofs.Fields.{extents2_written}
use Rattle.record_writer.proofs.writes.Extents2Writes.put_extents.Goals as goal

pub returns : goal.returns
returns c = extents2_written _ _ _ _ _ _ _ c.put_field.ensures c.put_u16.ensures c.put_u16-2.ensures
