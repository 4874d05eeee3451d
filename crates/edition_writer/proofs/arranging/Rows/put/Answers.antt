-- The rows of a closed record are edition 1's.
use Rattle.std.proofs.Common.{sym, ap, ◌∙◌}
use Rattle.std.proofs.lemmas.List.Edits.{sets}
use Rattle.edition_writer.proofs.Rows.{closed_bytes}
use Rattle.edition_writer.proofs.arranging.Rows.put.Goals as goal

pub returns-else-self : goal.returns-else-self
returns-else-self c = let a = c.args.self in
    let same = closed_bytes a.width a.count a.odds.now a.stamps.now in
    rw c.if-self.false (c.write_rows.ensures ∙ ap (sets c.args.out.now c.args.at) (sym same))
