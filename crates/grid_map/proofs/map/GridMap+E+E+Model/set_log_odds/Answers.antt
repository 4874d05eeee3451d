-- The check, the cell, and then the odds; a place that was found is below the number of cells, and so in the list.
use Rattle.std.proofs.Common.{rules, sym}
use Rattle.rules.specs.RefusalNumbers.Entries.{set_log_odds_entry}
use Rattle.laws.specs.Checks.{passed}
use Rattle.laws.specs.Places.{place_lt}
use Rattle.grid_map.proofs.map.GridMap+E+E+Model.set_log_odds.Goals as goal

pub returns-in_err-check : goal.returns-in_err-check
unfolding set_log_odds_entry
returns-in_err-check g c = rw (← c.in_err-check.ensures) (search rules)

pub translate_to_index-requires : goal.translate_to_index-requires
translate_to_index-requires g c = record { in_bounds = (passed _ _ _ _ (sym c.in_ok-check.ensures)).extents }

pub returns-in_err-at : goal.returns-in_err-at
unfolding set_log_odds_entry
returns-in_err-at g c = rw (← c.in_ok-check.ensures, ← c.in_err-at.ensures) (search rules)

pub set_log_odds_at-requires : goal.set_log_odds_at-requires
set_log_odds_at-requires g c = rw ((passed _ _ _ _ (sym c.in_ok-check.ensures)).odds_count tt) (place_lt _ _ _ (g.E.Axes.index_each _ _) (sym c.in_ok-at.ensures))

pub returns : goal.returns
unfolding set_log_odds_entry
returns g c = rw (← c.in_ok-check.ensures) (simp (sym c.in_ok-at.ensures, c.set_log_odds_at.ensures (g.E.Axes.model_of c.args.self.extents c.args.self.model) (sym c.ceiling.ensures)))
