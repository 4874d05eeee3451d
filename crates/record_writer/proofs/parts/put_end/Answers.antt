-- A field without data is its head.
use mathlib.Core.Path.{sym, ap, ◌∙◌}
use lib.Seq.{sets}
use Rattle.record_writer.proofs.Fields.{end_is}
use Rattle.record_writer.proofs.parts.put_end.Goals as goal

pub returns : goal.returns
returns c = let a = c.args in
    c.put_field.ensures ∙ ap (sets a.out.now a.at) (sym end_is)
