-- The column from the bottom up, as long as the rule's, and ending as the rule's does.
use Rattle.std.proofs.Common.{◌≡◌, ℕ, ◌+◌, ◌-◌, ◌≤◌, ◌<◌, min, arith}
use Rattle.rules.specs.VerticalBeam.{cells_above, vertical_marks}
use Rattle.vertical.proofs.Climbing.{inside}
use Rattle.vertical.proofs.entry.mark_vertical.Goals as goal

-- the last cell is on the map
last-below : (bottom top height above : ℕ) → above ≡ min top (height - 1) - bottom → bottom ≤ top → bottom < height → bottom + above < height
last-below bottom top height above e r b = omega arith

pub mark_column-requires-clause-x_within : goal.mark_column-requires-clause-x_within
mark_column-requires-clause-x_within c = (inside _ _ c.requires.profile).x_on

pub mark_column-requires-clause-y_within : goal.mark_column-requires-clause-y_within
mark_column-requires-clause-y_within c = (inside _ _ c.requires.profile).y_on

pub mark_column-requires-clause-top_within : goal.mark_column-requires-clause-top_within
unfolding cells_above
mark_column-requires-clause-top_within c = let i = inside _ _ c.requires.profile in last-below _ _ _ _ c.cells_above-above.ensures i.rises i.bottom_on

pub returns : goal.returns
unfolding vertical_marks
returns c = rw (c.cells_above-above.ensures, c.ends_occupied-occupied.ensures)
    at c.mark_column.ensures
