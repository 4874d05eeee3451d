-- By the tests: the field, and how many bytes are left.
use mathlib.Core.Path.{sym, ap, ◌∙◌}
use mathlib.Core.Option.{some}
use native.Mathlib.Omega.{arith}
use Rattle.rules.specs.MapRecord.{end_tag, end_length}
use Rattle.fields.proofs.Bytes.{whole-at}
use Rattle.record_reader.proofs.Sound.{end_absent, end_followed, end_sound}
use Rattle.record_reader.proofs.parts.end_check.Goals as goal

pub returns-then-not-field_here : goal.returns-then-not-field_here
returns-then-not-field_here c = ap some c.record_broken.ensures ∙ sym (end_absent _ _ (sym c.field_here.ensures ∙ c.if-not-field_here.true))

pub overflow_sub-bytes : goal.overflow_sub-bytes
overflow_sub-bytes c = let w = whole-at end_tag end_length c.args.at c.args.bytes.now (sym c.field_here.ensures ∙ c.if-not-field_here.false) in
    omega arith

pub returns-then-bytes-at-eq-END_SIZE : goal.returns-then-bytes-at-eq-END_SIZE
returns-then-bytes-at-eq-END_SIZE c = sym (end_sound _ _ (sym c.field_here.ensures ∙ c.if-not-field_here.false) c.if-bytes-at-eq-END_SIZE.true)

pub overflow_add-at : goal.overflow_add-at
overflow_add-at c = let w = whole-at end_tag end_length c.args.at c.args.bytes.now (sym c.field_here.ensures ∙ c.if-not-field_here.false) in
    omega arith

pub returns : goal.returns
returns c =
    ap some c.record_broken-2.ensures ∙ sym (end_followed _ _ (sym c.field_here.ensures ∙ c.if-not-field_here.false) c.if-bytes-at-eq-END_SIZE.false)
