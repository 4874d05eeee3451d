-- By the tests, in their order.
use mathlib.Core.Path.{sym, ◌∙◌}
use Rattle.checks.specs.Checking.{used_refusal}
use Rattle.checks.proofs.used_check.Goals as goal

pub returns-then-fails : goal.returns-then-fails
unfolding used_refusal
returns-then-fails c = simp (sym c.fails.ensures ∙ c.if-fails.true)

pub returns-then-fails-2 : goal.returns-then-fails-2
unfolding used_refusal
returns-then-fails-2 c = simp (
  sym c.fails.ensures ∙ c.if-fails.false,
  sym c.fails-2.ensures ∙ c.if-fails-2.true,
)

pub returns-then-fails-3 : goal.returns-then-fails-3
unfolding used_refusal
returns-then-fails-3 c = simp (
  sym c.fails.ensures ∙ c.if-fails.false,
  sym c.fails-2.ensures ∙ c.if-fails-2.false,
  sym c.fails-3.ensures ∙ c.if-fails-3.true,
)

pub returns-then-fails-4 : goal.returns-then-fails-4
unfolding used_refusal
returns-then-fails-4 c = simp (
  sym c.fails.ensures ∙ c.if-fails.false,
  sym c.fails-2.ensures ∙ c.if-fails-2.false,
  sym c.fails-3.ensures ∙ c.if-fails-3.false,
  sym c.fails-4.ensures ∙ c.if-fails-4.true,
)

pub returns-then-fails-5 : goal.returns-then-fails-5
unfolding used_refusal
returns-then-fails-5 c = simp (
  sym c.fails.ensures ∙ c.if-fails.false,
  sym c.fails-2.ensures ∙ c.if-fails-2.false,
  sym c.fails-3.ensures ∙ c.if-fails-3.false,
  sym c.fails-4.ensures ∙ c.if-fails-4.false,
  sym (rw c.is_open.ensures at c.fails-5.ensures) ∙ c.if-fails-5.true,
)

pub returns : goal.returns
unfolding used_refusal
returns c = simp (
  sym c.fails.ensures ∙ c.if-fails.false,
  sym c.fails-2.ensures ∙ c.if-fails-2.false,
  sym c.fails-3.ensures ∙ c.if-fails-3.false,
  sym c.fails-4.ensures ∙ c.if-fails-4.false,
  sym (rw c.is_open.ensures at c.fails-5.ensures) ∙ c.if-fails-5.false,
)
