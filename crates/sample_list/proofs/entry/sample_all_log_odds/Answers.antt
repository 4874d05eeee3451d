-- The check, the counts, and then the points; what these require is what the two have shown.
use Rattle.std.proofs.Common.{rules, sym, add-one, ◌∙◌}
use Rattle.rules.specs.ManySamples.{sample_all_log_odds_entry}
use Rattle.laws.specs.Checks.{passed, none_too_small}
use Rattle.sample_list.proofs.Counts.{counted}
use Rattle.sample_list.proofs.entry.sample_all_log_odds.Goals as goal

pub returns-in_err-check : goal.returns-in_err-check
unfolding sample_all_log_odds_entry
returns-in_err-check g c = rw (← c.in_err-check.ensures) (search rules)

pub sample_points-requires : goal.sample_points-requires
sample_points-requires g c = let known = passed _ _ _ _ (sym c.in_ok-check.ensures) in
    let sizes = counted _ _ _ _ (sym c.if-same_counts.ensures) in
    let two = none_too_small _ known.extents.0 in
    rw (← (c.AXES.ensures ∙ sym (g.E.Axes.axes_each c.args.map.extents))) (record { two_cells = two; one_per_cell = known.odds_count tt; points_each = sizes.0; slots_each = rw (add-one _) sizes.1 })

pub returns-then-same_counts : goal.returns-then-same_counts
unfolding sample_all_log_odds_entry
returns-then-same_counts g c = rw (← c.in_ok-check.ensures, ← (c.AXES.ensures ∙ sym (g.E.Axes.axes_each c.args.map.extents)), sym c.if-same_counts.ensures) (simp c.sample_points.ensures)

pub returns : goal.returns
unfolding sample_all_log_odds_entry
returns g c = rw (← c.in_ok-check.ensures, ← (c.AXES.ensures ∙ sym (g.E.Axes.axes_each c.args.map.extents)), sym c.if-same_counts.ensures) (search rules)
