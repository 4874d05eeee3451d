-- The cuts have passed, so two bytes hold each.
use Rattle.rules.specs.EditionTwo.{bands_size, cuts_for}
use Rattle.edition_writer.proofs.Rows.{cuts-short}
use Rattle.edition_writer.proofs.stores.Extents3Stores.put_bands.Goals as goal

pub put_bands-requires : goal.put_bands-requires
unfolding cuts_for
put_bands-requires c = let short = cuts-short c.args.self c.args.bands c.requires.in_bounds c.requires.cuts in
    record { room = c.requires.room; first_short = short.0; second_short = short.1 }

pub returns : goal.returns
returns c = c.put_bands.ensures c.args.self
