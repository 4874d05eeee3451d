-- The axes answer one after the other: the first refusal stands, and indices below their extents make a place.
use Rattle.std.proofs.Common.{◌≡◌, rules, sym, w64}
use mir.ValLaws.{to_z-of_z}
use Rattle.rules.specs.RefusalNumbers.{given}
use Rattle.rules.specs.Coordinates.{along, or_off, off_axes}
use Rattle.laws.specs.Places.{answer_lt, answer_is}
use Rattle.types.specs.Points.{cell2, extents2}
use Rattle.places.proofs.ByAxis.{on_axis, off_here, off_later, has_no_place}
use Rattle.places.proofs.places.Extents2Places.translate_to_index.Goals as goal
use Rattle.places.proofs.places.Extents2Places.translate_to_index.Goals.{In_ok-x, In_ok-y}

on-x : (c : In_ok-x) → or_off (off_axes (extents2 c.args.self) (cell2 c.args.cell)) 0 c.args.self.x c.args.cell.x (along c.args.self.x c.args.cell.x) ≡ given c.in_ok-x.x
on-x c = on_axis 0 _ c.off_axes-axes.ensures c.in_ok-x.ensures (to_z-of_z w64 _ (search rules))

on-y : (c : In_ok-y) → or_off (off_axes (extents2 c.args.self) (cell2 c.args.cell)) 1 c.args.self.y c.args.cell.y (along c.args.self.y c.args.cell.y) ≡ given c.in_ok-y.y
on-y c = on_axis 1 _ c.off_axes-axes.ensures c.in_ok-y.ensures (to_z-of_z w64 _ (search rules))

pub returns-in_err-x : goal.returns-in_err-x
returns-in_err-x c = rw (← has_no_place _ _ (off_here _ 0 _ _ _ _ (on_axis 0 _ c.off_axes-axes.ensures c.in_err-x.ensures (to_z-of_z w64 _ (search rules))))) (search rules)

pub returns-in_err-y : goal.returns-in_err-y
returns-in_err-y c = rw (← has_no_place _ _ (off_later _ 0 _ _ _ _ (on-x (goal.at.returns-in_err-y c).In_ok-x)
    (off_here _ 1 _ _ _ _ (on_axis 1 _ c.off_axes-axes.ensures c.in_err-y.ensures (to_z-of_z w64 _ (search rules)))))) (search rules)

pub place_within2-requires-clause-x_within : goal.place_within2-requires-clause-x_within
place_within2-requires-clause-x_within c = answer_lt _ _ _ _ _ (on-x (goal.at.place_within2-requires-clause-x_within c).In_ok-x)

pub place_within2-requires-clause-y_within : goal.place_within2-requires-clause-y_within
place_within2-requires-clause-y_within c = answer_lt _ _ _ _ _ (on-y (goal.at.place_within2-requires-clause-y_within c).In_ok-y)

pub returns : goal.returns
returns c = rw (← answer_is _ _ _ _ _ (on-x (goal.at.returns c).In_ok-x), ← answer_is _ _ _ _ _ (on-y (goal.at.returns c).In_ok-y)) (sym c.place_within2.ensures)
