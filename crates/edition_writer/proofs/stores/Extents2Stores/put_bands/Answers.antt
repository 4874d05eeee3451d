-- The one pair.
use Rattle.std.proofs.Common.{sym, ap, ◌∙◌}
use Rattle.std.proofs.lemmas.List.Edits.{sets}
use Rattle.rules.specs.EditionTwo.{bands_size, cuts_for}
use Rattle.edition_writer.proofs.Fields.{pair_alone}
use Rattle.edition_writer.proofs.stores.Extents2Stores.put_bands.Goals as goal

pub put_model-requires : goal.put_model-requires
unfolding bands_size cuts_for
put_model-requires c = record { room = c.requires.room }

pub returns : goal.returns
returns c = c.put_model.ensures ∙ ap (sets c.args.out.now c.args.at) (sym (pair_alone c.args.model))
