-- By the test, with the code's zero as the rules'.
use mathlib.Core.Bool.{Bool}
use mathlib.Core.Path.{◌≡◌, refl, sym, ap, ◌∙◌}
use lib.Ieee.{Float, binary64, le}
use Rattle.rules.specs.Floats.{zero_f}
use Rattle.laws.specs.Literals.{zero_code, zero_is}
use Rattle.rows.specs.Marks.{first_above}
use Rattle.rows.proofs.bounds.first_above.Goals as goal

tested : (c : Float) (b : Bool) → le (zero_code binary64) c ≡ b → le zero_f c ≡ b
tested c b e = ap (λ (z : Float). le z c) (sym (zero_is binary64)) ∙ e

pub returns-then-ceiling : goal.returns-then-ceiling
unfolding first_above
returns-then-ceiling c = let a = c.args in rw (tested a.model.ceiling _ c.if-ceiling.true, c.bits_of.ensures) refl

pub returns : goal.returns
unfolding first_above
returns c = let a = c.args in rw (tested a.model.ceiling _ c.if-ceiling.false) refl
