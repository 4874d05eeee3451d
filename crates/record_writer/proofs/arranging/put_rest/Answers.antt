-- Field after field.
use Rattle.types.specs.Models.{model_of}
use Rattle.record_writer.proofs.Fields.{rest_written}
use Rattle.record_writer.proofs.arranging.put_rest.Goals as goal

pub returns : goal.returns
returns c = let a = c.args in
    let there = c.requires.all_there in
    let model = c.put_model.ensures in
    let frame = c.put_frame.ensures in
    let rows = c.write_rows.ensures in
    let end = c.put_end.ensures in
    rest_written (model_of a.model) a.frame.0 a.width a.count a.odds.now there a.at a.out.now _ _ _ _ model frame rows end
