-- The axes answer one after the other: the first refusal stands, and the indices make the cell.
use Rattle.std.proofs.Common.{rules, refl, w64}
use lib.Ieee.{binary64}
use mir.ValLaws.{to_z-of_z}
use Rattle.places.proofs.ByAxis.{axis_refuses, later_refuses, axis_gives, no_axes, from_first}
use Rattle.places.proofs.places.Extents2Places.cell_containing.Goals as goal

pub returns-in_err-x : goal.returns-in_err-x
returns-in_err-x c = let found = c.outside_axes-axes.ensures in
    rw (← from_first binary64 _ _ (axis_refuses binary64 0 _ _ _ _ found c.in_err-x.ensures refl)) (search rules)

pub returns-in_err-y : goal.returns-in_err-y
returns-in_err-y c = let found = c.outside_axes-axes.ensures in
    rw (← from_first binary64 _ _
    (later_refuses binary64 0 _ _ _ _ found c.in_ok-x.ensures refl
    (axis_refuses binary64 1 _ _ _ _ found c.in_err-y.ensures refl))) (search rules)

pub returns : goal.returns
returns c = let found = c.outside_axes-axes.ensures in
    from_first binary64 _ _
    (axis_gives binary64 0 _ _ _ _ found c.in_ok-x.ensures refl (to_z-of_z w64 _ (search rules))
    (axis_gives binary64 1 _ _ _ _ found c.in_ok-y.ensures refl (to_z-of_z w64 _ (search rules))
    (no_axes binary64 _ _)))
