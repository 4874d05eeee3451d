-- One pair.
use Rattle.rules.specs.EditionTwo.{bands_size, cuts_for}
use Rattle.edition_reader.specs.Editions.{bands_here}
use Rattle.edition_reader.proofs.loads.Extents2Loads.bands_at.Goals as goal

pub model_field_at-requires : goal.model_field_at-requires
unfolding bands_size cuts_for
model_field_at-requires c = record { whole = c.requires.whole }

pub returns : goal.returns
unfolding bands_here cuts_for
returns c = λ e. c.model_field_at.ensures
