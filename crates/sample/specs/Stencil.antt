-- Stencils as the rules' lists of axes, axis 0 first. Definitions only.
use Rattle.std.specs.Prelude.{List, [], ◌∷◌}
use Rattle.std.specs.Prelude as Prelude
use Rattle.std.proofs.Math.Option.{Option}
use Rattle.rules.specs.Coordinates as Coordinates
use Rattle.types.specs.Answers.{found_of}
use Rattle.sample.specs.declared.stencil.StencilAxis.{StencilAxis}
use Rattle.sample.specs.declared.stencil.Stencil2.{Stencil2}
use Rattle.sample.specs.declared.stencil.Stencil3.{Stencil3}

abbrev pub axis_of : StencilAxis → Coordinates.StencilAxis
axis_of a = record { cell = a.cell; offset = a.offset }

abbrev pub on_axis : Prelude.Option StencilAxis → Option Coordinates.StencilAxis
on_axis = found_of axis_of

abbrev pub stencil2 : Stencil2 → List Coordinates.StencilAxis
stencil2 s = axis_of s.x ∷ axis_of s.y ∷ []

abbrev pub stencil3 : Stencil3 → List Coordinates.StencilAxis
stencil3 s = axis_of s.x ∷ axis_of s.y ∷ axis_of s.z ∷ []

abbrev pub stencilled2 : Prelude.Option Stencil2 → Option (List Coordinates.StencilAxis)
stencilled2 = found_of stencil2

abbrev pub stencilled3 : Prelude.Option Stencil3 → Option (List Coordinates.StencilAxis)
stencilled3 = found_of stencil3
