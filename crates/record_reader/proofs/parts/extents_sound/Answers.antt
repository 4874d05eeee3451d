-- The field first, then what it holds.
use Rattle.std.proofs.Common.{arith, sym, ◌∙◌}
use Rattle.rules.specs.MapRecord.{extents_tag, extents_length}
use Rattle.fields.proofs.Bytes.{whole-at}
use Rattle.record_reader.proofs.Sound.{field_tried}
use Rattle.record_reader.proofs.parts.extents_sound.Goals as goal

pub extents_field_at-requires : goal.extents_field_at-requires
extents_field_at-requires g c =
    let here = rw c.extents_length.ensures at (sym c.field_here.ensures ∙ c.if-field_here.true) in
    let w = whole-at extents_tag (extents_length g.E.Axes.AXES) c.args.at c.args.bytes.now here in
    record { whole = omega arith }

pub returns-then-field_here : goal.returns-then-field_here
returns-then-field_here g c =
    let here = rw c.extents_length.ensures at (sym c.field_here.ensures ∙ c.if-field_here.true) in
    c.is_ok.ensures.value ∙ field_tried _ _ here _ c.extents_field_at.ensures _ c.extents_check.ensures

pub returns-else-field_here : goal.returns-else-field_here
returns-else-field_here g c =
    let here = rw c.extents_length.ensures at (sym c.field_here.ensures ∙ c.if-field_here.false) in
    rw here c.if-field_here.false
