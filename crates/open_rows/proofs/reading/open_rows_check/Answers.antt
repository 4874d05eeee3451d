-- The rows passed are sound, so what is left decides.
use Prim.Native.Nat.{◌+◌, ◌-◌}
use mathlib.Core.Option.{some}
use mathlib.Core.Path.{◌≡◌, refl, sym, ap, ◌∙◌}
use native.Mathlib.Omega.{arith}
use lib.ListN.{drop}
use Rattle.rules.specs.Fields.{field_size}
use Rattle.rules.specs.MapRecord.{row_tag, row_length}
use Rattle.rules.specs.EditionTwo.{stamps_tag, stamps_length}
use Rattle.types.specs.Models.{model_of}
use Rattle.open_rows.specs.OpenRows.{open_refusal}
use Rattle.fields.proofs.Bytes.{whole-at, both_l}
use Rattle.open_rows.proofs.Rows.{open_left}
use Rattle.open_rows.proofs.reading.open_rows_check.Goals as goal

pub returns-then-not-row_sound : goal.returns-then-not-row_sound
returns-then-not-row_sound c = let a = c.args in
    let l = c.loop in
    ap some c.record_broken.ensures
    ∙ sym (l.invariant ∙ open_left (model_of a.model) a.frame.0 a.width a.count l.counter l.here a.bytes.now c.loop-test.true
    ∙ rw (sym c.row_sound.ensures ∙ c.if-not-row_sound.true) refl)

pub overflow_add-stamps-in-loop : goal.overflow_add-stamps-in-loop
overflow_add-stamps-in-loop c = let a = c.args in
    let w = whole-at row_tag (row_length a.width) c.loop.here a.bytes.now (both_l _ _ (sym c.row_sound.ensures ∙ c.if-not-row_sound.false)) in
    omega arith

pub returns-then-not-stamps_sound : goal.returns-then-not-stamps_sound
returns-then-not-stamps_sound c = let a = c.args in
    let l = c.loop in
    ap some c.record_broken-then-not-stamps_sound.ensures
    ∙ sym (l.invariant ∙ open_left (model_of a.model) a.frame.0 a.width a.count l.counter l.here a.bytes.now c.loop-test.true
    ∙ rw (sym c.row_sound.ensures ∙ c.if-not-row_sound.false, sym c.stamps_sound.ensures ∙ c.if-not-stamps_sound.true) refl)

pub overflow_add-here-in-loop : goal.overflow_add-here-in-loop
overflow_add-here-in-loop c = let a = c.args in
    let at = c.loop.here + field_size (row_length a.width) in
    let w = whole-at stamps_tag (stamps_length a.width) at a.bytes.now (both_l _ _ (sym c.stamps_sound.ensures ∙ c.if-not-stamps_sound.false)) in
    omega arith

pub loop-preserved : goal.loop-preserved
loop-preserved c = let a = c.args in
    let l = c.loop in
    l.invariant ∙ open_left (model_of a.model) a.frame.0 a.width a.count l.counter l.here a.bytes.now c.loop-test.true
    ∙ rw (sym c.row_sound.ensures ∙ c.if-not-row_sound.false, sym c.stamps_sound.ensures ∙ c.if-not-stamps_sound.false) refl

pub returns : goal.returns
unfolding open_refusal
returns c = let a = c.args in
    let l = c.loop in
    let none : a.count - l.counter ≡ 0 = omega arith in
    sym (l.invariant ∙ ap (λ n. open_refusal (model_of a.model) a.frame.0 a.width n l.here (drop l.here a.bytes.now)) none)
