-- The mark decides which rows there are.
use Rattle.std.proofs.Common.{sym, ◌∙◌}
use Rattle.edition_reader.proofs.Taken.{open_read, closed_read}
use Rattle.edition_reader.proofs.reading.read_grid.Goals as goal

pub returns-then-is_open_at-clause-lists : goal.returns-then-is_open_at-clause-lists
returns-then-is_open_at-clause-lists c =
    open_read _ _ c.args.at c.args.bytes.now c.args.odds.now c.args.stamps.now c.requires.each_odds c.requires.each_stamp _ _
    (sym c.is_open_at.ensures ∙ c.if-is_open_at.true) c.read_open_rows.ensures.odds c.read_open_rows.ensures.stamps

pub returns-clause-lists : goal.returns-clause-lists
returns-clause-lists c =
    closed_read _ _ c.args.at c.args.bytes.now c.args.odds.now c.args.stamps.now c.requires.each_odds c.requires.each_stamp _ _
    (sym c.is_open_at.ensures ∙ c.if-is_open_at.false) c.read_rows.ensures c.clear_stamps.ensures
