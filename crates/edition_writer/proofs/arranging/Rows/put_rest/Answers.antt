-- Field after field.
use Rattle.edition_writer.proofs.Fields.{rest_written}
use Rattle.edition_writer.proofs.arranging.Rows.put_rest.Goals as goal

pub returns : goal.returns
returns c = let a = c.args.self in
    rest_written a.running a.frame.0 a.width a.count a.odds.now a.stamps.now a.all_there a.marked c.args.at _ c.args.out.now _ _ _ _
    c.row_size.ensures c.put_frame.ensures c.put_mark.ensures c.put.ensures c.put_end.ensures
