-- The check, and then the point; what the sample requires is what the check has shown.
use Rattle.std.proofs.Common.{rules, sym}
use Rattle.rules.specs.RefusalNumbers.Entries.{sample_log_odds_entry}
use Rattle.laws.specs.Checks.{passed, none_too_small}
use Rattle.grid_map.proofs.map.GridMap+E+E+Model.sample_log_odds.Goals as goal

pub returns-in_err-check : goal.returns-in_err-check
unfolding sample_log_odds_entry
returns-in_err-check g c = rw (← c.in_err-check.ensures) (search rules)

pub sample_log_odds-requires : goal.sample_log_odds-requires
sample_log_odds-requires g c = let known = passed _ _ _ _ (sym c.in_ok-check.ensures) in
    record { two_cells = none_too_small _ known.extents.0; one_per_cell = known.odds_count tt }

pub returns : goal.returns
unfolding sample_log_odds_entry
returns g c = rw (← c.in_ok-check.ensures) (simp c.sample_log_odds.ensures)
