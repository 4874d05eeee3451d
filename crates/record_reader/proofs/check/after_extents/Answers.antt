-- Each field is tried where the one before it ends.
use Prim.Native.Nat.{◌+◌}
use mathlib.Core.Option.{some}
use mathlib.Core.Path.{sym, ap, ◌∙◌}
use native.Mathlib.Omega.{arith}
use Rattle.rules.specs.Fields.{field_size}
use Rattle.rules.specs.MapRecord.{model_tag, model_length, frame_tag, frame_length}
use Rattle.fields.proofs.Bytes.{whole-at, both_l}
use Rattle.record_reader.proofs.Taken.{model_off, frame_off, rows_next}
use Rattle.record_reader.proofs.check.after_extents.Goals as goal

pub returns-then-not-model_sound : goal.returns-then-not-model_sound
returns-then-not-model_sound c = ap some c.record_broken.ensures ∙ sym (model_off _ _ _ _ (sym c.model_sound.ensures ∙ c.if-not-model_sound.true))

pub model_field_at-model-requires : goal.model_field_at-model-requires
model_field_at-model-requires c = let a = c.args in
    let w = whole-at model_tag model_length a.at a.bytes.now (both_l _ _ (sym c.model_sound.ensures ∙ c.if-not-model_sound.false)) in
    record { whole = omega arith }

pub overflow_add-frame : goal.overflow_add-frame
overflow_add-frame c = let a = c.args in
    let w = whole-at model_tag model_length a.at a.bytes.now (both_l _ _ (sym c.model_sound.ensures ∙ c.if-not-model_sound.false)) in
    omega arith

pub returns-then-not-frame_sound : goal.returns-then-not-frame_sound
returns-then-not-frame_sound c =
    ap some c.record_broken-then-not-frame_sound.ensures
    ∙ sym (frame_off _ _ _ _ (sym c.model_sound.ensures ∙ c.if-not-model_sound.false) (sym c.frame_sound.ensures ∙ c.if-not-frame_sound.true))

pub overflow_add-frame-2 : goal.overflow_add-frame-2
overflow_add-frame-2 c = let a = c.args in
    let w = whole-at frame_tag frame_length (a.at + field_size model_length) a.bytes.now (both_l _ _ (sym c.frame_sound.ensures ∙ c.if-not-frame_sound.false)) in
    omega arith

pub returns : goal.returns
returns c =
    let model = sym c.model_sound.ensures ∙ c.if-not-model_sound.false in
    let frame = sym c.frame_sound.ensures ∙ c.if-not-frame_sound.false in
    c.rows_and_end.ensures ∙ sym (rows_next _ _ _ _ _ c.model_field_at-model.ensures model frame)
