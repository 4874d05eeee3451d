-- The rows passed can be written, so what is left decides.
use Prim.Native.Nat.{◌-◌}
use mathlib.Core.Bool.{true}
use mathlib.Core.Option.{some}
use mathlib.Core.Path.{◌≡◌, refl, sym, ap, ◌∙◌}
use native.Mathlib.Omega.{arith}
use lib.ListN.{drop}
use Rattle.rules.specs.Fields.{rows_tried}
use Rattle.rules.specs.EditionTwo.{row_size, grid_tried}
use Rattle.types.specs.Models.{model_of}
use Rattle.marks.specs.Marking.{grid_of}
use Rattle.rows.specs.Rows.{refusal_in}
use Rattle.fields.proofs.Floats.{one_left}
use Rattle.open_rows.proofs.Rows.{tried-left}
use Rattle.open_rows.proofs.writing.open_rows_writable.Goals as goal

pub returns-then-not-odds_in_bounds : goal.returns-then-not-odds_in_bounds
returns-then-not-odds_in_bounds c = let a = c.args in
    let l = c.loop in
    ap some c.record_broken.ensures
    ∙ sym (l.invariant.left ∙ tried-left a.width (model_of a.model) a.frame.0 a.count l.counter l.here l.place a.odds.now a.stamps.now c.loop-test.true
    ∙ rw (sym c.odds_in_bounds.ensures ∙ c.if-not-odds_in_bounds.true) refl)

pub returns-then-not-stamps_not_above : goal.returns-then-not-stamps_not_above
returns-then-not-stamps_not_above c = let a = c.args in
    let l = c.loop in
    ap some c.record_broken-then-not-stamps_not_above.ensures
    ∙ sym (l.invariant.left ∙ tried-left a.width (model_of a.model) a.frame.0 a.count l.counter l.here l.place a.odds.now a.stamps.now c.loop-test.true
    ∙ rw (sym c.odds_in_bounds.ensures ∙ c.if-not-odds_in_bounds.false, sym c.stamps_not_above.ensures ∙ c.if-not-stamps_not_above.true) refl)

pub loop-preserved : goal.loop-preserved
loop-preserved c = let a = c.args in
    let l = c.loop in
    let more = c.loop-test.true in
    let one = one_left a.count l.counter (row_size true a.width) more in
    let two = one_left a.count l.counter a.width more in
    record {
      all_odds = omega arith;
      all_stamps = omega arith;
      countable = omega arith;
      left = l.invariant.left ∙ tried-left a.width (model_of a.model) a.frame.0 a.count l.counter l.here l.place a.odds.now a.stamps.now more
          ∙ rw (sym c.odds_in_bounds.ensures ∙ c.if-not-odds_in_bounds.false, sym c.stamps_not_above.ensures ∙ c.if-not-stamps_not_above.false)
          refl;
    }

pub returns : goal.returns
unfolding grid_tried rows_tried
returns c = let a = c.args in
    let l = c.loop in
    let none : a.count - l.counter ≡ 0 = omega arith in
    sym (l.invariant.left ∙ ap (λ n. refusal_in (grid_tried true (model_of a.model) a.frame.0 a.width n l.here (grid_of (drop l.place a.odds.now) (drop l.place a.stamps.now)))) none)
