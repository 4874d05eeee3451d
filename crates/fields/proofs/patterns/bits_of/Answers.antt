-- A number that differs from itself is NaN; every other has its bits.
use mathlib.Core.Path.{refl}
use lib.Ieee.{to_bits}
use lib.Ieee.Compare.{differs_from_itself}
use Rattle.laws.specs.Floats.Nans.{no_nan}
use Rattle.fields.proofs.patterns.bits_of.Goals as goal

pub returns-then-x : goal.returns-then-x
unfolding to_bits
returns-then-x c = rw (differs_from_itself c.args.x (rw c.if-x.true tt)) refl

pub float_to_bits-result : goal.float_to_bits-result
float_to_bits-result c = no_nan c.args.x c.if-x.false
