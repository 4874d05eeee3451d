-- The rows passed are sound, so what is left decides.
use Prim.Native.Nat.{◌-◌}
use mathlib.Core.Option.{some}
use mathlib.Core.Path.{◌≡◌, refl, sym, ap, ◌∙◌}
use native.Mathlib.Omega.{arith}
use lib.ListN.{drop}
use Rattle.rules.specs.MapRecord.{row_tag, row_length}
use Rattle.types.specs.Models.{model_of}
use Rattle.rows.specs.Rows.{rows_refusal}
use Rattle.fields.proofs.Bytes.{whole-at, both_l}
use Rattle.rows.proofs.Tried.{rows_left}
use Rattle.rows.proofs.reading.rows_check.Goals as goal

pub returns-then-not-row_sound : goal.returns-then-not-row_sound
returns-then-not-row_sound c = let a = c.args in
    let l = c.loop in
    ap some c.record_broken.ensures
    ∙ sym (l.invariant ∙ rows_left (model_of a.model) a.width a.count l.counter l.here a.bytes.now c.loop-test.true
    ∙ rw (sym c.row_sound.ensures ∙ c.if-not-row_sound.true) refl)

pub overflow_add-here-in-loop : goal.overflow_add-here-in-loop
overflow_add-here-in-loop c = let a = c.args in
    let w = whole-at row_tag (row_length a.width) c.loop.here a.bytes.now (both_l _ _ (sym c.row_sound.ensures ∙ c.if-not-row_sound.false)) in
    omega arith

pub loop-preserved : goal.loop-preserved
loop-preserved c = let a = c.args in
    let l = c.loop in
    l.invariant ∙ rows_left (model_of a.model) a.width a.count l.counter l.here a.bytes.now c.loop-test.true
    ∙ rw (sym c.row_sound.ensures ∙ c.if-not-row_sound.false) refl

pub returns : goal.returns
unfolding rows_refusal
returns c = let a = c.args in
    let l = c.loop in
    let none : a.count - l.counter ≡ 0 = omega arith in
    sym (l.invariant ∙ ap (λ n. rows_refusal (model_of a.model) a.width n l.here (drop l.here a.bytes.now)) none)
