-- By the test of the axis; an index that is not off is its own size.
use Rattle.std.proofs.Common.{◌≡◌, sym, refl, ◌∙◌, lt_of_le_of_lt, lit<, w64, to_z, of_z}
use lib.Signed.{nat_abs-le}
use mir.ValLaws.{to_z-of_z}
use Rattle.laws.specs.Places.{off_is, on_is}
use Rattle.places.proofs.index.axis_at.Goals as goal
use Rattle.places.proofs.index.axis_at.Goals.{Start}

-- an i64 is read back from its bits as itself
back : (c : Start) → to_z w64 (of_z w64 c.args.index) ≡ c.args.index
back c = to_z-of_z w64 c.args.index c.ranges.index

pub returns-then-is_off : goal.returns-then-is_off
returns-then-is_off c = let off = rw (back (goal.at.returns-then-is_off c).Start) at (sym c.is_off.ensures ∙ c.if-is_off.true) in
    rw (back (goal.at.returns-then-is_off c).Start, off_is c.args.extent c.args.index off) refl

pub overflow_cast-result : goal.overflow_cast-result
overflow_cast-result c = let on = rw (back (goal.at.overflow_cast-result c).Start) at (sym c.is_off.ensures ∙ c.if-is_off.false) in
    rw (back (goal.at.overflow_cast-result c).Start)
    ((on_is c.args.extent c.args.index on).0, record { fits = lt_of_le_of_lt (nat_abs-le c.args.index c.ranges.index.sfits) (lit< tt) })

pub returns : goal.returns
returns c = let on = rw (back (goal.at.returns c).Start) at (sym c.is_off.ensures ∙ c.if-is_off.false) in
    rw (back (goal.at.returns c).Start, (on_is c.args.extent c.args.index on).1) refl
