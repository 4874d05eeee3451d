-- The head of the field, and three floats.
use Rattle.types.specs.Models.{model_of}
use Rattle.record_writer.proofs.Fields.{model_written_lem}
use Rattle.record_writer.proofs.parts.put_model.Goals as goal

pub returns : goal.returns
returns c = let a = c.args in
    let head = c.put_field.ensures in
    let occupied = c.put_f64.ensures in
    let free = c.put_f64-2.ensures in
    model_written_lem a.at a.out.now (model_of a.model) _ _ _ _ head occupied free c.put_f64-3.ensures
