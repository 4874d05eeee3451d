-- The field first, then what it holds.
use mathlib.Core.Path.{sym, ap, ◌∙◌}
use native.Mathlib.Omega.{arith}
use Rattle.rules.specs.MarksAndFrames.{open_frame}
use Rattle.rules.specs.MapRecord.{frame_tag, frame_length}
use Rattle.fields.proofs.Bytes.{whole-at}
use Rattle.record_reader.proofs.parts.frame_sound.Goals as goal

pub frame_field_at-requires : goal.frame_field_at-requires
frame_field_at-requires c = let a = c.args in
    let w = whole-at frame_tag frame_length a.at a.bytes.now (sym c.field_here.ensures ∙ c.if-field_here.true) in
    record { whole = omega arith }

pub returns-then-field_here : goal.returns-then-field_here
returns-then-field_here c = rw (sym c.field_here.ensures ∙ c.if-field_here.true)
    (c.is_open.ensures ∙ ap open_frame c.frame_field_at.ensures)

pub returns-else-field_here : goal.returns-else-field_here
returns-else-field_here c = rw (sym c.field_here.ensures ∙ c.if-field_here.false) c.if-field_here.false
