-- Axis by axis: the first that is off decides, and else each is there.
use Rattle.std.proofs.Common.{sym}
use Rattle.sample.proofs.StencilLaws.{axis_off, axis_then_off, axis_in, no_axes, at_least_first, at_least_rest}
use Rattle.sample.proofs.samples.Extents3Samples.stencil_containing.Goals as goal

pub stencil_axis-requires : goal.stencil_axis-requires
stencil_axis-requires c = at_least_first _ _ _ c.requires

pub returns-in_err-x : goal.returns-in_err-x
returns-in_err-x c = rw c.from_residual.ensures (sym (axis_off _ _ _ _ _ (sym c.in_err-x.ensures)))

pub stencil_axis-requires-2 : goal.stencil_axis-requires-2
stencil_axis-requires-2 c = at_least_first _ _ _ (at_least_rest _ _ _ c.requires)

pub returns-in_err-y : goal.returns-in_err-y
returns-in_err-y c = let y = axis_off _ _ _ _ _ (sym c.in_err-y.ensures) in
    rw c.from_residual-in_err-y.ensures (sym (axis_then_off _ _ _ _ _ _ (sym c.in_ok-x.ensures) y))

pub stencil_axis-requires-3 : goal.stencil_axis-requires-3
stencil_axis-requires-3 c = at_least_first _ _ _ (at_least_rest _ _ _ (at_least_rest _ _ _ c.requires))

pub returns-in_err-z : goal.returns-in_err-z
returns-in_err-z c = let z = axis_off _ _ _ _ _ (sym c.in_err-z.ensures) in
    let y = axis_then_off _ _ _ _ _ _ (sym c.in_ok-y.ensures) z in
    rw c.from_residual-in_err-z.ensures (sym (axis_then_off _ _ _ _ _ _ (sym c.in_ok-x.ensures) y))

pub returns : goal.returns
returns c = let z = axis_in _ _ _ _ _ _ _ (sym c.in_ok-z.ensures) (no_axes _ _) in
    sym (axis_in _ _ _ _ _ _ _ (sym c.in_ok-x.ensures) (axis_in _ _ _ _ _ _ _ (sym c.in_ok-y.ensures) z))
