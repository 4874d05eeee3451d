-- Band by band, each as a model of its own.
use mathlib.Core.Path.{sym, ap, ◌∙◌}
use Rattle.rules.specs.TheGridAndItsBounds.{all_pairs, bounded}
use Rattle.checks.proofs.model.all_bounded.Goals as goal

pub returns-then-is_bounded-2 : goal.returns-then-is_bounded-2
unfolding bounded all_pairs
returns-then-is_bounded-2 c = simp (
  sym (c.is_bounded.ensures ∙ ap bounded c.with.ensures) ∙ c.if-is_bounded.true,
  sym (c.is_bounded-then-is_bounded.ensures ∙ ap bounded c.with-then-is_bounded.ensures) ∙ c.if-is_bounded-2.true,
  c.is_bounded-then-is_bounded-2.ensures ∙ ap bounded c.with-then-is_bounded-2.ensures,
)

pub returns-else-is_bounded-2 : goal.returns-else-is_bounded-2
unfolding bounded all_pairs
returns-else-is_bounded-2 c = simp (
  sym (c.is_bounded.ensures ∙ ap bounded c.with.ensures) ∙ c.if-is_bounded.true,
  sym (c.is_bounded-then-is_bounded.ensures ∙ ap bounded c.with-then-is_bounded.ensures) ∙ c.if-is_bounded-2.false,
)

pub returns-else-is_bounded : goal.returns-else-is_bounded
unfolding bounded all_pairs
returns-else-is_bounded c = simp (sym (c.is_bounded.ensures ∙ ap bounded c.with.ensures) ∙ c.if-is_bounded.false)
