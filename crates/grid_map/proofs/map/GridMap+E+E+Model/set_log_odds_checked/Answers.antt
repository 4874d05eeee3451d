-- The check, and then the cell; a place that was found is below the number of cells, and so in the list.
use Rattle.std.proofs.Common.{rules, sym, ◌∙◌}
use Rattle.rules.specs.RefusalNumbers.Entries.{set_log_odds_checked_entry}
use Rattle.laws.specs.Checks.{passed}
use Rattle.laws.specs.Places.{place_lt}
use Rattle.grid_map.proofs.map.GridMap+E+E+Model.set_log_odds_checked.Goals as goal

pub returns-in_err-check : goal.returns-in_err-check
unfolding set_log_odds_checked_entry
returns-in_err-check g c = rw (← c.in_err-check.ensures) (search rules)

pub translate_to_index-place-requires : goal.translate_to_index-place-requires
translate_to_index-place-requires g c = record { in_bounds = (passed _ _ _ _ (sym c.in_ok-check.ensures)).extents }

pub set_checked_at-requires : goal.set_checked_at-requires
set_checked_at-requires g c = λ i h. rw ((passed _ _ _ _ (sym c.in_ok-check.ensures)).odds_count tt) (place_lt _ _ i (g.E.Axes.index_each _ _) (sym c.translate_to_index-place.ensures ∙ h))

pub returns : goal.returns
unfolding set_log_odds_checked_entry
returns g c = rw (← c.in_ok-check.ensures) (simp (c.set_checked_at.ensures (g.E.Axes.model_of c.args.self.extents c.args.self.model) (sym c.ceiling.ensures), c.translate_to_index-place.ensures))
