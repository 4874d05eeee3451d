-- The check, and then 15 whatever else.
use Rattle.std.proofs.Common.{rules}
use Rattle.rules.specs.LayerChart.{no_cuts_entry}
use Rattle.chart.proofs.entry.layer_chart2.Goals as goal

pub returns-in_err-check : goal.returns-in_err-check
unfolding no_cuts_entry
returns-in_err-check c = rw (← c.in_err-check.ensures) (search rules)

pub returns : goal.returns
unfolding no_cuts_entry
returns c = rw (← c.in_ok-check.ensures) (search rules)
