-- Lines, the cells that they are followed by, what the plotter answers, and what a step gives, of two and three axes, as
-- the rules'. Definitions only.
use Rattle.std.specs.Prelude.{ℕ, ℤ, cond, List, [], ◌∷◌, Result, Option, Some, None, Float}
use Rattle.std.specs.Float.{Format}
use Rattle.rules.specs.Floats.{all_finite}
use Rattle.rules.specs.RefusalNumbers.{Answer, given, refused, ray}
use Rattle.rules.specs.TheLine as TheLine
use Rattle.types.specs.Points.{cell2, cell3}
use Rattle.types.specs.declared.refusal.Refusal.{Refusal}
use Rattle.types.specs.Answers.{answer_of}
use Rattle.types.specs.declared.points.Cell2.{Cell2}
use Rattle.types.specs.declared.points.Cell3.{Cell3}
use Rattle.bresenham.specs.declared.line.BresenhamLine2.{BresenhamLine2}
use Rattle.bresenham.specs.declared.line.BresenhamLine3.{BresenhamLine3}
use Rattle.bresenham.specs.declared.following.Cells2.{Cells2}
use Rattle.bresenham.specs.declared.following.Cells3.{Cells3}
use Rattle.bresenham.specs.Axes.{axis}

abbrev pub line2 : BresenhamLine2 → TheLine.Line
line2 l = record { axes = axis l.x ∷ axis l.y ∷ []; primary = l.primary; threshold = l.threshold; remaining = l.remaining }

abbrev pub line3 : BresenhamLine3 → TheLine.Line
line3 l =
    record { axes = axis l.x ∷ axis l.y ∷ axis l.z ∷ []; primary = l.primary; threshold = l.threshold; remaining = l.remaining }

abbrev pub cells2 : Cells2 → List ℕ
cells2 c = c.x ∷ c.y ∷ []

abbrev pub cells3 : Cells3 → List ℕ
cells3 c = c.x ∷ c.y ∷ c.z ∷ []

-- the primary axis of a line between two points, or the plotter's refusal
abbrev pub primary_between : Format → List Float → List Float → Answer TheLine.Primary
primary_between f xs ys =
    cond (all_finite (TheLine.deltas f xs ys)) (given (TheLine.primary_of (TheLine.deltas f xs ys))) (refused ray)

-- a step, by what its cell and the line after it stand for
abbrev pub step_as : {C L : Type 0} → (C → List ℤ) → (L → TheLine.Line) → Option (C × L) → TheLine.Step
step_as cell line (Some (c, l)) = TheLine.yields (cell c) (line l)
step_as cell line None = TheLine.none

abbrev pub plotted2 : Result BresenhamLine2 Refusal → Answer TheLine.Line
plotted2 = answer_of line2

abbrev pub plotted3 : Result BresenhamLine3 Refusal → Answer TheLine.Line
plotted3 = answer_of line3

abbrev pub step2 : Option (Cell2 × BresenhamLine2) → TheLine.Step
step2 = step_as cell2 line2

abbrev pub step3 : Option (Cell3 × BresenhamLine3) → TheLine.Step
step3 = step_as cell3 line3
