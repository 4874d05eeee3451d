-- The signs are tested first; the sizes then decide, and being finite follows.
use mathlib.Core.Path.{sym, ◌∙◌}
use lib.Ieee.{binary64}
use Rattle.rules.specs.TheGridAndItsBounds.{pair_bounded, all_pairs, bounded}
use Rattle.types.specs.Models.{model_of}
use Rattle.checks.specs.ModelBounds.{bounded_by_size}
use Rattle.laws.specs.Literals.{zero_is}
use Rattle.checks.proofs.model.is_bounded.Goals as goal

pub returns-then-m-3 : goal.returns-then-m-3
unfolding bounded all_pairs
returns-then-m-3 c = c.sizes_bounded.ensures ∙ sym (bounded_by_size _ (model_of c.args.m).lowest (rw (zero_is binary64) at c.if-m.true) (rw (zero_is binary64) at c.if-m-2.true) (rw (zero_is binary64) at c.if-m-3.true))

pub returns-else-m-3 : goal.returns-else-m-3
unfolding bounded all_pairs pair_bounded
returns-else-m-3 c = simp (rw (zero_is binary64) at c.if-m.true, rw (zero_is binary64) at c.if-m-2.true, rw (zero_is binary64) at c.if-m-3.false)

pub returns-else-m-2 : goal.returns-else-m-2
unfolding bounded all_pairs pair_bounded
returns-else-m-2 c = simp (rw (zero_is binary64) at c.if-m.true, rw (zero_is binary64) at c.if-m-2.false)

pub returns-else-m : goal.returns-else-m
unfolding bounded all_pairs pair_bounded
returns-else-m c = simp (rw (zero_is binary64) at c.if-m.false)
