-- The rows of a closed record are edition 1's.
use Rattle.std.proofs.Common.{sym, ap, ◌∙◌}
use Rattle.types.specs.Models.{model_of}
use Rattle.rows.specs.Rows.{refusal_in}
use Rattle.edition_writer.proofs.Rows.{closed_tried}
use Rattle.edition_writer.proofs.arranging.Rows.check.Goals as goal

pub returns : goal.returns
returns c = let a = c.args.self in
    let same = closed_tried (model_of c.args.model) a.frame.0 a.width a.count c.args.at a.odds.now a.stamps.now in
    rw c.if-self.false (c.rows_writable.ensures ∙ ap refusal_in (sym same))
