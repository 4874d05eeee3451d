-- There is one pair at least.
use Rattle.std.proofs.Common.{arith}
use Rattle.rules.specs.EditionTwo.{cuts_for}
use Rattle.edition_reader.proofs.Steps.{bands_some}
use Rattle.edition_writer.proofs.Rows.{bands_few}
use Rattle.editions.proofs.moves.more.Goals as goal

pub overflow_add-result : goal.overflow_add-result
overflow_add-result g c = omega (arith, c.bands_size.ensures, bands_few g.E.Axes.AXES)

pub overflow_sub-result : goal.overflow_sub-result
overflow_sub-result g c = omega (arith, c.bands_size.ensures, bands_some (cuts_for g.E.Axes.AXES))

pub returns : goal.returns
returns g c = omega (arith, c.bands_size.ensures, bands_some (cuts_for g.E.Axes.AXES))
