-- The rows are tried first; behind rows that are passed stands the end.
use Rattle.std.proofs.Common.{rules, arith, sym, ◌∙◌}
use lib.ListN.{length-drop}
use Rattle.rows.proofs.Tried.{rows_room}
use Rattle.record_reader.proofs.Taken.{rows_off, end_next}
use Rattle.record_reader.proofs.check.rows_and_end.Goals as goal

pub overflow_mul-count : goal.overflow_mul-count
overflow_mul-count c =
    let room = rows_room _ _ _ _ _ (sym c.in_ok-rows_check.ensures) in
    omega (arith, room, length-drop c.args.at c.args.bytes.now)

pub overflow_add-at : goal.overflow_add-at
overflow_add-at c =
    let room = rows_room _ _ _ _ _ (sym c.in_ok-rows_check.ensures) in
    omega (arith, room, length-drop c.args.at c.args.bytes.now)

pub returns-in_err-rows_check : goal.returns-in_err-rows_check
returns-in_err-rows_check c = rw (← rows_off _ _ _ _ _ _ c.in_err-rows_check.ensures) (search rules)

pub returns : goal.returns
returns c = c.end_check.ensures ∙ end_next _ _ _ _ _ c.in_ok-rows_check.ensures
