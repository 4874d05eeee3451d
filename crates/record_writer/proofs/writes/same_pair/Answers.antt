-- By the bits of both steps.
use Rattle.std.proofs.Common.{sym, ◌∙◌}
use mathlib.Core.Path.{ap₂}
use lib.Dec.{eqb}
use borrow.Author.Tests.{eq-eqb, ne_eqb}
use Rattle.rules.specs.MapRecord.{same_bits, same_pair}
use Rattle.record_writer.proofs.writes.same_pair.Goals as goal

pub returns-then-bits_of : goal.returns-then-bits_of
unfolding same_bits same_pair
returns-then-bits_of c = simp (
  ap₂ eqb (sym c.bits_of.ensures) (sym c.bits_of-2.ensures) ∙ eq-eqb _ _ c.if-bits_of.true,
  ap₂ eqb c.bits_of-then-bits_of.ensures c.bits_of-then-bits_of-2.ensures,
)

pub returns-else-bits_of : goal.returns-else-bits_of
unfolding same_bits same_pair
returns-else-bits_of c = simp (ap₂ eqb (sym c.bits_of.ensures) (sym c.bits_of-2.ensures), ne_eqb _ _ c.if-bits_of.false)
