-- A cell off the grid has no mark; one on it has its place, below the number of cells.
use Rattle.std.proofs.Common.{sym}
use Rattle.laws.specs.Places.{place_lt}
use Rattle.beam.proofs.Applying.{none_applied}
use Rattle.beam.proofs.marking.mark_cell.Goals as goal

pub mark_counted-requires-clause-in_lists : goal.mark_counted-requires-clause-in_lists
mark_counted-requires-clause-in_lists g c = rw c.requires.odds_count (place_lt _ _ _ (g.E.Axes.index_each _ _) (sym c.in-Ok.ensures))

pub returns-in-Err : goal.returns-in-Err
returns-in-Err g c = rw (← c.in-Err.ensures) (none_applied _ _ _ _ _)

pub returns-in-Ok : goal.returns-in-Ok
returns-in-Ok g c = rw (← c.in-Ok.ensures) c.mark_counted.ensures
