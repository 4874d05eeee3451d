-- The check, and then the point.
use Rattle.std.proofs.Common.{rules}
use Rattle.rules.specs.RefusalNumbers.Entries.{cell_containing_entry}
use Rattle.grid_map.proofs.map.GridMap+E+E+Model.cell_containing.Goals as goal

pub returns-in_err-check : goal.returns-in_err-check
unfolding cell_containing_entry
returns-in_err-check g c = rw (← c.in_err-check.ensures) (search rules)

pub returns : goal.returns
unfolding cell_containing_entry
returns g c = rw (← c.in_ok-check.ensures) c.cell_containing.ensures
