-- By the number of axes: three have cuts.
use Rattle.std.proofs.Common.{refl, sym, ◌∙◌}
use borrow.Author.Tests.{ne_eqb}
use Rattle.rules.specs.EditionTwo.{bands_size, cuts_for}
use Rattle.open_rows.proofs.bands.bands_size.Goals as goal

pub returns-then-AXES-eq3 : goal.returns-then-AXES-eq3
unfolding bands_size cuts_for
returns-then-AXES-eq3 g c = rw (sym c.AXES.ensures ∙ c.if-AXES-eq3.true) refl

pub returns : goal.returns
unfolding bands_size cuts_for
returns g c = rw (ne_eqb _ _ (rw c.AXES.ensures at c.if-AXES-eq3.false)) refl
