-- The rows are tried first, then the room.
use Rattle.std.proofs.Common.{rules, arith, refl, sym}
use borrow.Author.Tests.{le-leb, lt-leb}
use Rattle.rows.proofs.Answers.{refused_as, given_as}
use Rattle.record_writer.specs.Writing.{writable_rows}
use Rattle.record_writer.proofs.arranging.size_if_writable.Goals as goal

pub overflow_mul-size : goal.overflow_mul-size
overflow_mul-size c = let short = c.requires.short in omega arith

pub overflow_add-size : goal.overflow_add-size
overflow_add-size c = let short = c.requires.short in omega arith

pub returns-then-size-room : goal.returns-then-size-room
unfolding writable_rows
returns-then-size-room c = rw (given_as _ (sym c.in_ok-rows_writable.ensures), le-leb _ _ c.if-size-room.true) refl

pub returns-in_err-rows_writable : goal.returns-in_err-rows_writable
unfolding writable_rows
returns-in_err-rows_writable c = rw (refused_as _ _ (sym c.in_err-rows_writable.ensures)) (search rules)

pub returns : goal.returns
unfolding writable_rows
returns c = rw (given_as _ (sym c.in_ok-rows_writable.ensures), lt-leb _ _ c.if-size-room.false) refl
