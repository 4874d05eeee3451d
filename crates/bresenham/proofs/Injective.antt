-- Axes, lines, steps and the plotter's answers: each map to the rules has a way back. Assumes nothing.
use Prim.Native.Nat.{ℕ}
use mathlib.Core.List.{List}
use mathlib.Core.Path.{refl}
use Rattle.std.specs.Prelude.{Some, None}
use Rattle.std.proofs.Common.{ap₂}
use lib.IntN.{ℤ}
use lib.ListN.{get_or}
use lib.Ieee.{nan}
use Rattle.rules.specs.TheLine as TheLine
use Rattle.types.specs.Points.{cell2, cell3}
use Rattle.types.proofs.Injective.{Injective, of_back, cell2_injective, cell3_injective}
use Rattle.types.proofs.InjectiveAnswers.{answer_injective}
use Rattle.bresenham.specs.declared.axis.Axis.{Axis}
use Rattle.bresenham.specs.declared.axis.Primary.{Primary}
use Rattle.bresenham.specs.declared.line.BresenhamLine2.{BresenhamLine2}
use Rattle.bresenham.specs.declared.line.BresenhamLine3.{BresenhamLine3}
use Rattle.bresenham.specs.Axes.{axis, primary}
use Rattle.bresenham.specs.Lines.{line2, line3, plotted2, plotted3, step_as, step2, step3}

abbrev pub axis_back : TheLine.Axis → Axis
axis_back a = record { current = a.current; end = a.end; increment = a.increment; step = a.step; error = a.error }

pub axis_injective : Injective axis
axis_injective = of_back axis axis_back (λ a. refl)

abbrev pub primary_back : TheLine.Primary → Primary
primary_back p = record { axis = p.axis; delta = p.delta }

pub primary_injective : Injective primary
primary_injective = of_back primary primary_back (λ p. refl)

-- axis k of a line; past its last, any axis
abbrev axis-at : TheLine.Line → ℕ → Axis
axis-at l k = axis_back (get_or l.axes k (record { current = nan; end = nan; increment = nan; step = nan; error = nan }))

abbrev pub line2_back : TheLine.Line → BresenhamLine2
line2_back l = record { x = axis-at l 0; y = axis-at l 1; primary = l.primary; threshold = l.threshold; remaining = l.remaining }

pub line2_injective : Injective line2
line2_injective = of_back line2 line2_back (λ l. refl)

abbrev pub line3_back : TheLine.Line → BresenhamLine3
line3_back l =
    record { x = axis-at l 0; y = axis-at l 1; z = axis-at l 2; primary = l.primary; threshold = l.threshold; remaining = l.remaining }

pub line3_injective : Injective line3
line3_injective = of_back line3 line3_back (λ l. refl)

-- a step's map is injective where those of its cell and of the line after it are
pub step_injective : {C L : Type 0} (cell : C → List ℤ) (line : L → TheLine.Line) → Injective cell → Injective line → Injective (step_as cell line)
step_injective cell line i j (Some (c, l)) (Some (d, m)) h = ap₂ (λ c l. Some (c, l)) (i c d (cc h)) (j l m (cc h))
step_injective cell line i j (Some (c, l)) None h = absurd (cc h)
step_injective cell line i j None (Some (d, m)) h = absurd (cc h)
step_injective cell line i j None None h = refl

pub step2_injective : Injective step2
step2_injective = step_injective cell2 line2 cell2_injective line2_injective

pub step3_injective : Injective step3
step3_injective = step_injective cell3 line3 cell3_injective line3_injective

pub plotted2_injective : Injective plotted2
plotted2_injective = answer_injective line2 line2_injective

pub plotted3_injective : Injective plotted3
plotted3_injective = answer_injective line3 line3_injective
