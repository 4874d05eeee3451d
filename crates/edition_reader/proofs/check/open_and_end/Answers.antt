-- The rows are tried first; behind rows that are passed stands the end.
use Rattle.std.proofs.Common.{rules, arith, sym, ◌∙◌}
use lib.ListN.{length-drop}
use Rattle.edition_reader.proofs.Grids.{open_room}
use Rattle.edition_reader.proofs.Steps.{open_off, open_end}
use Rattle.edition_reader.proofs.check.open_and_end.Goals as goal

pub returns-in_err-open_rows_check : goal.returns-in_err-open_rows_check
returns-in_err-open_rows_check c = rw (← open_off _ _ _ _ _ _ _ c.in_err-open_rows_check.ensures) (search rules)

pub overflow_mul-count : goal.overflow_mul-count
overflow_mul-count c =
    let room = open_room _ _ _ _ _ _ (sym c.in_ok-open_rows_check.ensures) in
    omega (arith, room, length-drop c.args.at c.args.bytes.now)

pub overflow_add-at : goal.overflow_add-at
overflow_add-at c =
    let room = open_room _ _ _ _ _ _ (sym c.in_ok-open_rows_check.ensures) in
    omega (arith, room, length-drop c.args.at c.args.bytes.now)

pub returns : goal.returns
returns c = c.end_check.ensures ∙ open_end _ _ _ _ _ _ c.in_ok-open_rows_check.ensures
