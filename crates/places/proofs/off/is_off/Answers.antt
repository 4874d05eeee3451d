-- A negative index is off by its sign, and any other by its size.
use Rattle.std.proofs.Common.{◌≡◌, refl, lt_of_le_of_lt, lit<, w64, to_z, of_z}
use lib.Signed.{nat_abs-le}
use mir.ValLaws.{to_z-of_z}
use Rattle.laws.specs.Places.{not_negative, along-negative, off_by_size}
use Rattle.places.proofs.off.is_off.Goals as goal
use Rattle.places.proofs.off.is_off.Goals.{Start}

-- an i64 is read back from its bits as itself
back : (c : Start) → to_z w64 (of_z w64 c.args.index) ≡ c.args.index
back c = to_z-of_z w64 c.args.index c.ranges.index

pub returns-then-index-lt0 : goal.returns-then-index-lt0
returns-then-index-lt0 c = rw (along-negative c.args.extent c.args.index (rw (back (goal.at.returns-then-index-lt0 c).Start) at c.if-index-lt0.true)) refl

pub overflow_cast-n : goal.overflow_cast-n
overflow_cast-n c = rw (back (goal.at.overflow_cast-n c).Start)
    (not_negative c.args.index (rw (back (goal.at.overflow_cast-n c).Start) at c.if-index-lt0.false), record { fits = lt_of_le_of_lt (nat_abs-le c.args.index c.ranges.index.sfits) (lit< tt) })

pub returns : goal.returns
returns c = rw (back (goal.at.returns c).Start, off_by_size c.args.extent c.args.index (not_negative c.args.index (rw (back (goal.at.returns c).Start) at c.if-index-lt0.false))) refl
