-- By the test.
use mathlib.Core.Path.{refl, sym, ◌∙◌}
use Rattle.rows.proofs.bounds.mark_of.Goals as goal

pub returns-then-from_floor_to_ceiling : goal.returns-then-from_floor_to_ceiling
returns-then-from_floor_to_ceiling c = rw (sym c.from_floor_to_ceiling.ensures ∙ c.if-from_floor_to_ceiling.true) refl

pub returns : goal.returns
returns c = rw (sym c.from_floor_to_ceiling.ensures ∙ c.if-from_floor_to_ceiling.false) refl
