-- The head of the field, and the number.
use Rattle.record_writer.proofs.Fields.{frame_written_lem}
use Rattle.record_writer.proofs.parts.put_frame.Goals as goal

pub returns : goal.returns
returns c = let a = c.args in
    frame_written_lem a.at a.out.now a.frame.0 _ _ c.put_field.ensures c.put_u32.ensures
