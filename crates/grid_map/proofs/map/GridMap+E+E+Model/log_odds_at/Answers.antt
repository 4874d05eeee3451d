-- The check, and then the cell; a place that was found is below the number of cells, and so in the list.
use Rattle.std.proofs.Common.{rules, sym, ◌∙◌}
use Rattle.rules.specs.RefusalNumbers.Entries.{log_odds_at_entry}
use Rattle.laws.specs.Checks.{passed}
use Rattle.laws.specs.Places.{place_lt}
use Rattle.grid_map.proofs.map.GridMap+E+E+Model.log_odds_at.Goals as goal

pub returns-in_err-check : goal.returns-in_err-check
unfolding log_odds_at_entry
returns-in_err-check g c = rw (← c.in_err-check.ensures) (search rules)

pub translate_to_index-requires : goal.translate_to_index-requires
translate_to_index-requires g c = record { in_bounds = (passed _ _ _ _ (sym c.in_ok-check.ensures)).extents }

pub read_at-requires : goal.read_at-requires
read_at-requires g c = λ i h. rw ((passed _ _ _ _ (sym c.in_ok-check.ensures)).odds_count tt) (place_lt _ _ i (g.E.Axes.index_each _ _) (sym c.translate_to_index.ensures ∙ h))

pub returns : goal.returns
unfolding log_odds_at_entry
returns g c = rw (← c.in_ok-check.ensures) (simp (c.read_at.ensures, c.translate_to_index.ensures))
