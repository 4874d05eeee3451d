-- One pair is equal to itself alone.
use Rattle.std.proofs.Common.{refl}
use Rattle.rules.specs.MapRecord.{equal_pairs}
use Rattle.record_writer.specs.Writing.{one_model}
use Rattle.record_writer.proofs.writes.Extents2Writes.one_model.Goals as goal

pub returns : goal.returns
unfolding one_model equal_pairs
returns c = refl
