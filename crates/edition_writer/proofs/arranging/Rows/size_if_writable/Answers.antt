-- The rows are tried first, then the room.
use Rattle.std.proofs.Common.{rules, refl, sym, ◌≤◌, ◌<◌}
use borrow.Author.Tests.{le-leb, lt-leb}
use Rattle.rows.proofs.Answers.{refused_as, given_as}
use Rattle.edition_writer.specs.Writing.{size_of, writable_grid}
use Rattle.edition_writer.proofs.arranging.Rows.size_if_writable.Goals as goal

pub returns-in_err-check : goal.returns-in_err-check
unfolding writable_grid
returns-in_err-check c = rw (refused_as _ _ (sym c.in_err-check.ensures)) (search rules)

pub returns-then-size-room : goal.returns-then-size-room
unfolding writable_grid
returns-then-size-room c = let a = c.args.self in
    let fits : size_of a.running c.args.at a.width a.count ≤ c.args.room = rw c.row_size.ensures at c.if-size-room.true in
    rw (c.row_size.ensures, given_as _ (sym c.in_ok-check.ensures), le-leb _ _ fits) refl

pub returns : goal.returns
unfolding writable_grid
returns c = let a = c.args.self in
    let short : c.args.room < size_of a.running c.args.at a.width a.count = rw c.row_size.ensures at c.if-size-room.false in
    rw (c.row_size.ensures, given_as _ (sym c.in_ok-check.ensures), lt-leb _ _ short) refl
