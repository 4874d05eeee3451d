-- The rows passed are within the bounds, so what is left decides.
use Prim.Native.Nat.{◌-◌}
use mathlib.Core.Option.{some}
use mathlib.Core.Path.{◌≡◌, refl, sym, ap, ◌∙◌}
use native.Mathlib.Omega.{arith}
use lib.ListN.{drop}
use Rattle.rules.specs.Fields.{field_size, rows_tried}
use Rattle.rules.specs.MapRecord.{row_length, rows_checked}
use Rattle.types.specs.Models.{model_of}
use Rattle.rows.specs.Rows.{refusal_in}
use Rattle.fields.proofs.Floats.{one_left}
use Rattle.rows.proofs.Written.{checked_step}
use Rattle.rows.proofs.writing.rows_writable.Goals as goal

pub returns-then-not-odds_in_bounds : goal.returns-then-not-odds_in_bounds
returns-then-not-odds_in_bounds c = let a = c.args in
    let l = c.loop in
    ap some c.record_broken.ensures
    ∙ sym (l.invariant.left ∙ checked_step a.width (model_of a.model) a.count l.counter l.here l.place a.odds.now c.loop-test.true
    ∙ rw (sym c.odds_in_bounds.ensures ∙ c.if-not-odds_in_bounds.true) refl)

pub loop-preserved : goal.loop-preserved
loop-preserved c = let a = c.args in
    let l = c.loop in
    let more = c.loop-test.true in
    let one = one_left a.count l.counter (field_size (row_length a.width)) more in
    let two = one_left a.count l.counter a.width more in
    record {
      all_there = omega arith;
      countable = omega arith;
      left = l.invariant.left ∙ checked_step a.width (model_of a.model) a.count l.counter l.here l.place a.odds.now more
          ∙ rw (sym c.odds_in_bounds.ensures ∙ c.if-not-odds_in_bounds.false) refl;
    }

pub returns : goal.returns
unfolding rows_checked rows_tried
returns c = let a = c.args in
    let l = c.loop in
    let none : a.count - l.counter ≡ 0 = omega arith in
    sym (l.invariant.left ∙ ap (λ n. refusal_in (rows_checked (model_of a.model) a.width n l.here (drop l.place a.odds.now))) none)
