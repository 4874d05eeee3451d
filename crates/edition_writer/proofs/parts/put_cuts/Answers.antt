-- The head of the field, and two numbers.
use Rattle.edition_writer.proofs.Fields.{cuts_written}
use Rattle.edition_writer.proofs.parts.put_cuts.Goals as goal

pub returns : goal.returns
returns c = let a = c.args in
    let head = c.put_field.ensures in
    let first = c.put_u16.ensures in
    cuts_written a.at a.cuts.first a.cuts.second a.out.now _ _ _ head first c.put_u16-2.ensures
