-- The points by the axes, the slots by one more.
use mathlib.Core.Path.{refl, sym, ◌∙◌}
use native.Mathlib.Numerals.{add-one}
use Rattle.rules.specs.ManySamples.{same_counts}
use Rattle.sample_list.proofs.shape.same_counts.Goals as goal

pub returns-then-so_many_each : goal.returns-then-so_many_each
unfolding same_counts
returns-then-so_many_each c = rw (sym c.so_many_each.ensures ∙ c.if-so_many_each.true) (rw add-one at c.so_many_each-then-so_many_each.ensures)

pub returns : goal.returns
unfolding same_counts
returns c = rw (sym c.so_many_each.ensures ∙ c.if-so_many_each.false) refl
