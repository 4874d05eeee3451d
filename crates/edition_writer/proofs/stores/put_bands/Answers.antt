-- Field after field.
use Rattle.std.proofs.Common.{arith}
use Rattle.rules.specs.EditionTwo.{bands_size}
use Rattle.edition_writer.proofs.Fields.{bands_written}
use Rattle.edition_writer.proofs.stores.put_bands.Goals as goal

pub put_model-requires : goal.put_model-requires
unfolding bands_size
put_model-requires c = let room = c.requires.room in record { room = omega arith }

pub put_model-requires-2 : goal.put_model-requires-2
unfolding bands_size
put_model-requires-2 c = let room = c.requires.room in record { room = omega (arith, c.put_model.auto.out) }

pub put_model-requires-3 : goal.put_model-requires-3
unfolding bands_size
put_model-requires-3 c = let room = c.requires.room in record { room = omega (arith, c.put_model.auto.out, c.put_model-2.auto.out) }

pub put_cuts-requires : goal.put_cuts-requires
unfolding bands_size
put_cuts-requires c = let room = c.requires.room in
    record {
      room = omega (arith, c.put_model.auto.out, c.put_model-2.auto.out, c.put_model-3.auto.out);
      first_short = c.requires.first_short;
      second_short = c.requires.second_short;
    }

pub returns : goal.returns
returns c e = let a = c.args in
    bands_written e a.bands a.at _ _ _ a.out.now _ _ _ _ c.with.ensures c.with-2.ensures c.with-3.ensures
    c.put_model.ensures c.put_model-2.ensures c.put_model-3.ensures c.put_cuts.ensures
