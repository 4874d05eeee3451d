-- The last axis first, each with the set of those after it; an index stays what it was on its way through the call.
use Rattle.std.proofs.Common.{rules, w64}
use Rattle.std.proofs.lemmas.Int.{to_z-of_z}
use mir.Val.{SFits}
use Rattle.rules.specs.Coordinates.{off_axes}
use Rattle.places.proofs.places.Extents2Places.off_axes.Goals as goal

pub returns : goal.returns
unfolding off_axes
returns c =
    let x : SFits w64 c.args.cell.x = search rules in
    let y : SFits w64 c.args.cell.y = search rules in
    simp (c.with_bit.ensures, c.is_off-2.ensures, c.with_bit-y.ensures, c.is_off.ensures, to_z-of_z w64 _ x, to_z-of_z w64 _ y)
