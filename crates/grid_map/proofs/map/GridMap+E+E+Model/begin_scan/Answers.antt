-- A refused check leaves the stamps; a passed one opens them and the frame.
use Rattle.std.proofs.Common.{rules}
use Rattle.rules.specs.RefusalNumbers.Entries.{begin_scan_entry}
use Rattle.grid_map.proofs.map.GridMap+E+E+Model.begin_scan.Goals as goal

pub returns-in_err-check : goal.returns-in_err-check
unfolding begin_scan_entry
returns-in_err-check g c = rw (← c.in_err-check.ensures) (search rules)

pub returns : goal.returns
unfolding begin_scan_entry
returns g c = rw (← c.in_ok-check.ensures) (simp (c.opened.ensures, c.open_stamps.ensures))
