-- Four bytes behind the field's head.
use mathlib.Core.Path.{sym, ap, ◌∙◌}
use lib.Seq.{drop-drop}
use Rattle.rules.specs.Fields.{from_little_endian, word_size, head_size}
use Rattle.record_reader.proofs.parts.frame_field_at.Goals as goal

pub returns : goal.returns
returns c = let a = c.args in
    c.u32_at.ensures ∙ ap (from_little_endian word_size) (sym (drop-drop head_size a.at a.bytes.now))
