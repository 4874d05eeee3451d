-- The frame, and then the rest.
use Rattle.std.proofs.Common.{arith, sym, ap, ◌∙◌}
use mathlib.Core.Option.{some}
use Rattle.rules.specs.MapRecord.{frame_tag, frame_length}
use Rattle.fields.proofs.Bytes.{whole-at, both_l}
use Rattle.edition_reader.proofs.Steps.{frame_off, mark_next}
use Rattle.edition_reader.proofs.check.after_bands.Goals as goal

pub returns-then-not-frame_sound : goal.returns-then-not-frame_sound
returns-then-not-frame_sound c = ap some c.record_broken.ensures ∙ sym (frame_off _ _ _ _ _ (sym c.frame_sound.ensures ∙ c.if-not-frame_sound.true))

pub frame_field_at-frame-requires : goal.frame_field_at-frame-requires
frame_field_at-frame-requires c =
    let w = whole-at frame_tag frame_length c.args.at c.args.bytes.now (both_l _ _ (sym c.frame_sound.ensures ∙ c.if-not-frame_sound.false)) in
    record { whole = omega arith }

pub overflow_add-at : goal.overflow_add-at
overflow_add-at c =
    let w = whole-at frame_tag frame_length c.args.at c.args.bytes.now (both_l _ _ (sym c.frame_sound.ensures ∙ c.if-not-frame_sound.false)) in
    omega arith

pub returns : goal.returns
returns c =
    let sound = sym c.frame_sound.ensures ∙ c.if-not-frame_sound.false in
    c.after_frame.ensures ∙ sym (mark_next _ _ _ _ _ _ c.frame_field_at-frame.ensures sound)
