-- An axis that moves has the cell beside, and one that stands still keeps its own.
use mathlib.Core.Path.{sym, subst, ◌∙◌}
use Rattle.laws.specs.Floats.Inside.{Followed}
use Rattle.laws.specs.Following.{moves_on, stands_still}
use Rattle.bresenham.proofs.following.cell_after.Goals as goal

pub returns-then-moves : goal.returns-then-moves
returns-then-moves c = subst (Followed _ _) (moves_on _ _ _ _ _ (sym c.moves.ensures ∙ c.if-moves.true)) c.cell_beside-beside.ensures

pub returns : goal.returns
returns c = λ h. subst (Followed _ _) (stands_still _ _ _ _ _ (sym c.moves.ensures ∙ c.if-moves.false)) (λ g. c.requires.inside) h
