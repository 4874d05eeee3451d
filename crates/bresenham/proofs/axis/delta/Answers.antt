-- The three ways are the difference's sign: below zero, zero, and above it or no number.
use lib.Ieee.{binary64}
use Rattle.laws.specs.Literals.{zero_is}
use Rattle.bresenham.proofs.Laws.{delta_is}
use Rattle.bresenham.proofs.axis.delta.Goals as goal

pub returns : goal.returns
returns c = delta_is binary64 _ _ (zero_is binary64) c.chosen-size.ensures c.chosen.ensures
