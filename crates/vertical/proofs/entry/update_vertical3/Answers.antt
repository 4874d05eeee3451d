-- The check, the profile, and then the column.
use Rattle.std.proofs.Common.{rules, refl, sym, ap, ◌∙◌}
use Rattle.rules.specs.RefusalNumbers.Entries.{of_integrated}
use Rattle.rules.specs.VerticalBeam.{update_vertical_entry}
use Rattle.laws.specs.Checks.{ready}
use Rattle.beam.proofs.Beaming.{integrated-along}
use Rattle.vertical.proofs.entry.update_vertical3.Goals as goal

pub returns-in_err-check : goal.returns-in_err-check
unfolding update_vertical_entry
returns-in_err-check c = rw (← c.in_err-check.ensures) (search rules)

pub returns-then-not-in_profile : goal.returns-then-not-in_profile
unfolding update_vertical_entry
returns-then-not-in_profile c = rw (← c.in_ok-check.ensures, sym c.in_profile.ensures ∙ c.if-not-in_profile.true) refl

pub mark_vertical-requires-clause-ready : goal.mark_vertical-requires-clause-ready
mark_vertical-requires-clause-ready c = ready _ _ _ (sym c.in_ok-check.ensures)

pub returns : goal.returns
unfolding update_vertical_entry
returns c = rw (← c.in_ok-check.ensures, sym c.in_profile.ensures ∙ c.if-not-in_profile.false)
    (ap of_integrated (integrated-along _ _ _ _ _ _ _ _ _ c.mark_vertical.ensures).is)
