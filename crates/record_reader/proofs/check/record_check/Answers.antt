-- The extents' field, and then the rest.
use Rattle.std.proofs.Common.{arith, sym, ap, ◌∙◌}
use mathlib.Core.Option.{some}
use Rattle.rules.specs.MapRecord.{extents_tag, extents_length}
use Rattle.fields.proofs.Bytes.{whole, both_l}
use Rattle.rows.proofs.Shapes.{shape_of, width_short}
use Rattle.record_reader.proofs.Sound.{in_bounds}
use Rattle.record_reader.proofs.Taken.{extents_off, extents_held}
use Rattle.record_reader.proofs.check.record_check.Goals as goal

pub returns-then-not-extents_sound : goal.returns-then-not-extents_sound
returns-then-not-extents_sound g c = ap some c.record_broken.ensures ∙ sym (extents_off _ _ (sym c.extents_sound.ensures ∙ c.if-not-extents_sound.true))

pub extents_field_at-extents-requires : goal.extents_field_at-extents-requires
extents_field_at-extents-requires g c =
    let w = whole extents_tag (extents_length g.E.Axes.AXES) c.args.bytes.now (both_l _ _ (sym c.extents_sound.ensures ∙ c.if-not-extents_sound.false)) in
    record { whole = omega arith }

pub row_count-requires : goal.row_count-requires
row_count-requires g c =
    record { in_bounds = in_bounds g.E.Axes.AXES c.args.bytes.now _ c.extents_field_at-extents.ensures (sym c.extents_sound.ensures ∙ c.if-not-extents_sound.false) }

pub after_extents-requires : goal.after_extents-requires
after_extents-requires g c =
    let held = in_bounds g.E.Axes.AXES c.args.bytes.now _ c.extents_field_at-extents.ensures (sym c.extents_sound.ensures ∙ c.if-not-extents_sound.false) in
    record { short = rw c.row_width.ensures (width_short _ held.0) }

pub returns : goal.returns
returns g c =
    let held = sym c.extents_sound.ensures ∙ c.if-not-extents_sound.false in
    let shape = shape_of c.extents_field_at-extents.ensures (g.met.E.Shaped.by_rows _) c.row_width.ensures c.row_count.ensures in
    rw c.extents_size.ensures at c.after_extents.ensures ∙ sym (extents_held _ _ _ _ shape held)
