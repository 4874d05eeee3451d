-- The mark decides which rows follow.
use Rattle.std.proofs.Common.{arith, sym, ap, ◌∙◌}
use mathlib.Core.Option.{some}
use Rattle.rules.specs.EditionTwo.{open_tag, byte_length}
use Rattle.fields.proofs.Bytes.{whole-at, both_l}
use Rattle.edition_reader.proofs.Steps.{mark_off, open_next, closed_next}
use Rattle.edition_reader.proofs.check.after_frame.Goals as goal

pub returns-then-not-mark_sound : goal.returns-then-not-mark_sound
returns-then-not-mark_sound c = ap some c.record_broken.ensures ∙ sym (mark_off _ _ _ _ _ _ (sym c.mark_sound.ensures ∙ c.if-not-mark_sound.true))

pub is_open_at-requires : goal.is_open_at-requires
is_open_at-requires c =
    let w = whole-at open_tag byte_length c.args.at c.args.bytes.now (both_l _ _ (sym c.mark_sound.ensures ∙ c.if-not-mark_sound.false)) in
    record { whole = omega arith }

pub overflow_add-at : goal.overflow_add-at
overflow_add-at c =
    let w = whole-at open_tag byte_length c.args.at c.args.bytes.now (both_l _ _ (sym c.mark_sound.ensures ∙ c.if-not-mark_sound.false)) in
    omega arith

pub returns-then-is_open_at : goal.returns-then-is_open_at
returns-then-is_open_at c =
    let sound = sym c.mark_sound.ensures ∙ c.if-not-mark_sound.false in
    c.open_and_end.ensures ∙ sym (open_next _ _ _ _ _ _ sound (sym c.is_open_at.ensures ∙ c.if-is_open_at.true))

pub overflow_add-at-2 : goal.overflow_add-at-2
overflow_add-at-2 c =
    let w = whole-at open_tag byte_length c.args.at c.args.bytes.now (both_l _ _ (sym c.mark_sound.ensures ∙ c.if-not-mark_sound.false)) in
    omega arith

pub returns : goal.returns
returns c =
    let sound = sym c.mark_sound.ensures ∙ c.if-not-mark_sound.false in
    c.rows_and_end.ensures ∙ sym (closed_next _ c.args.frame.0 _ _ _ _ sound (sym c.is_open_at.ensures ∙ c.if-is_open_at.false))
