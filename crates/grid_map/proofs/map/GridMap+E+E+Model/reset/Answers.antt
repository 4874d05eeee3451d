-- A refused check leaves the lists; a passed one has them cleared, one number per cell.
use Rattle.std.proofs.Common.{rules, sym}
use Rattle.rules.specs.RefusalNumbers.Entries.{reset_entry}
use Rattle.laws.specs.Checks.{passed}
use Rattle.grid_map.proofs.Fresh.{cleared}
use Rattle.grid_map.proofs.map.GridMap+E+E+Model.reset.Goals as goal

pub returns-in_err-check : goal.returns-in_err-check
unfolding reset_entry
returns-in_err-check g c = rw (← c.in_err-check.ensures) (search rules)

pub returns : goal.returns
unfolding reset_entry
returns g c = let fine = sym c.in_ok-check.ensures in
    let known = passed _ _ _ _ fine in
    rw fine (cleared _ _ c.args.odds.now _ c.args.stamps.now _ c.clear_odds.ensures c.clear_stamps.ensures (known.odds_count tt) (known.stamps_count tt))
