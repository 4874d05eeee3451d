-- The edition, the extents, the bands, and then the rest.
use Rattle.std.proofs.Common.{rules, arith, refl, sym, ap, ◌∙◌}
use mathlib.Core.Option.{some}
use Rattle.rules.specs.Fields.{field_size}
use Rattle.rules.specs.MapRecord.{extents_tag, extents_length}
use Rattle.rules.specs.EditionTwo.{byte_length, cuts_for}
use Rattle.fields.proofs.Bytes.{whole-at, both_l}
use Rattle.rows.proofs.Shapes.{shape_of, width_short}
use Rattle.record_reader.proofs.Sound.{in_bounds}
use Rattle.edition_reader.proofs.Steps.{edition_off, extents_off, extents_held, bands_some, bands_fit, bands_off, bands_next}
use Rattle.edition_reader.proofs.check.edition_check.Goals as goal

pub returns-then-not-edition_sound : goal.returns-then-not-edition_sound
returns-then-not-edition_sound g c = ap some c.record_broken.ensures ∙ sym (edition_off _ _ (sym c.edition_sound.ensures ∙ c.if-not-edition_sound.true))

pub returns-then-not-extents_sound : goal.returns-then-not-extents_sound
returns-then-not-extents_sound g c =
    ap some c.record_broken-then-not-extents_sound.ensures
    ∙ sym (extents_off _ _ (sym c.edition_sound.ensures ∙ c.if-not-edition_sound.false) (sym c.extents_sound.ensures ∙ c.if-not-extents_sound.true))

pub extents_field_at-extents-requires : goal.extents_field_at-extents-requires
extents_field_at-extents-requires g c =
    let held = sym c.extents_sound.ensures ∙ c.if-not-extents_sound.false in
    let w = whole-at extents_tag (extents_length g.E.Axes.AXES) (field_size byte_length) c.args.bytes.now (both_l _ _ held) in
    record { whole = omega arith }

pub returns-in_err-bands_check : goal.returns-in_err-bands_check
returns-in_err-bands_check g c =
    let first = sym c.edition_sound.ensures ∙ c.if-not-edition_sound.false in
    let second = sym c.extents_sound.ensures ∙ c.if-not-extents_sound.false in
    let held = extents_held _ _ _ c.extents_size-bands.ensures _ c.extents_field_at-extents.ensures first second in
    rw (held, ← bands_off _ _ _ _ _ c.in_err-bands_check.ensures) (search rules)

pub overflow_add-bands-2 : goal.overflow_add-bands-2
overflow_add-bands-2 g c =
    let fits = bands_fit _ _ c.args.bytes.now _ c.in_ok-bands_check.ensures in
    omega (arith, fits, c.bands_size.ensures)

pub row_count-requires : goal.row_count-requires
row_count-requires g c = record { in_bounds = in_bounds g.E.Axes.AXES _ _ c.extents_field_at-extents.ensures (sym c.extents_sound.ensures ∙ c.if-not-extents_sound.false) }

pub model_field_at-requires : goal.model_field_at-requires
model_field_at-requires g c =
    let fits = bands_fit _ _ c.args.bytes.now _ c.in_ok-bands_check.ensures in
    record { whole = omega (arith, fits, bands_some (cuts_for g.E.Axes.AXES)) }

pub after_bands-requires : goal.after_bands-requires
after_bands-requires g c =
    let held = in_bounds g.E.Axes.AXES _ _ c.extents_field_at-extents.ensures (sym c.extents_sound.ensures ∙ c.if-not-extents_sound.false) in
    record { short = rw c.row_width.ensures (width_short _ held.0) }

pub returns : goal.returns
returns g c =
    let first = sym c.edition_sound.ensures ∙ c.if-not-edition_sound.false in
    let second = sym c.extents_sound.ensures ∙ c.if-not-extents_sound.false in
    let held = extents_held _ _ _ c.extents_size-bands.ensures _ c.extents_field_at-extents.ensures first second in
    let shape = shape_of refl (g.met.E.Shaped.by_rows _) c.row_width.ensures c.row_count.ensures in
    rw c.bands_size.ensures at c.after_bands.ensures ∙ bands_next _ _ _ _ _ _ shape _ c.model_field_at.ensures c.in_ok-bands_check.ensures ∙ sym held
