-- The code's two tests are the rule's; a coordinate that is not below zero has no cell below zero, so the cell is a
-- number.
use Rattle.std.proofs.Common.{◌≡◌, nat_abs, ap, ◌∙◌, w64, to_z, of_z}
use lib.Signed.{nat_abs-le}
use lib.Ieee.{binary64}
use mir.ValLaws.{to_z-of_z}
use mir.Facts.{Fits-nat_abs}
use Rattle.rules.specs.Floats.{number_f}
use Rattle.laws.specs.Literals.{zero_is}
use Rattle.sample.proofs.StencilLaws.{cell-not-below, below_domain, above_domain, in_domain}
use Rattle.sample.proofs.stencil.stencil_axis.Goals as goal
use Rattle.sample.proofs.stencil.stencil_axis.Goals.{After-cell_of-cell}

-- the cell, read back from its bits as itself
back : (c : After-cell_of-cell) → to_z w64 (of_z w64 c.cell_of-cell.result) ≡ c.cell_of-cell.result
back c = to_z-of_z w64 c.cell_of-cell.result (record { sfits = c.cell_of-cell.type_inv })

pub overflow_cast-cell : goal.overflow_cast-cell
overflow_cast-cell c = rw (back (goal.at.overflow_cast-cell c).After-cell_of-cell)
    (rw (← c.cell_of-cell.ensures) at (cell-not-below _ (rw (zero_is binary64) at c.if-x.true)), Fits-nat_abs {w = w64} {z = c.cell_of-cell.result} tt (record { sfits = c.cell_of-cell.type_inv }))

pub folded_axis-requires : goal.folded_axis-requires
folded_axis-requires c = record { two_cells = c.requires; an_i64 = rw (back (goal.at.folded_axis-requires c).After-cell_of-cell) (nat_abs-le c.cell_of-cell.result c.cell_of-cell.type_inv) }

pub returns-then-x-limit : goal.returns-then-x-limit
unfolding number_f
returns-then-x-limit c = in_domain binary64 _ _ (zero_is binary64) c.nearest_u64_to_f64-limit.ensures c.if-x.true c.if-x-limit.true
    (ap nat_abs (back (goal.at.returns-then-x-limit c).After-cell_of-cell ∙ c.cell_of-cell.ensures)) c.folded_axis.ensures

pub returns-else-x-limit : goal.returns-else-x-limit
unfolding number_f
returns-else-x-limit c = above_domain binary64 _ _ (zero_is binary64) c.nearest_u64_to_f64-limit.ensures c.if-x.true c.if-x-limit.false

pub returns-else-x : goal.returns-else-x
unfolding number_f
returns-else-x c = below_domain binary64 _ _ (zero_is binary64) c.nearest_u64_to_f64-limit.ensures c.if-x.false
