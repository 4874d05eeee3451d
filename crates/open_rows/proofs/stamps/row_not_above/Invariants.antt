-- The marks seen and the stamps that are left decide together.
use Prim.Native.Nat.{◌+◌, ◌-◌, ◌*◌}
use mathlib.Core.Bool.{◌&&◌}
use mathlib.Core.Path.{◌≡◌}
use lib.Dec.{ltb}
use lib.ListN.{drop}
use Rattle.rules.specs.EditionTwo.{stamps_in, none_above}
use Rattle.open_rows.proofs.Steps.{highest}
use Rattle.open_rows.proofs.stamps.row_not_above.Given as goal

abbrev pub invariant-loop-i : goal.invariant-loop-i
invariant-loop-i l =
    none_above l.frame.0 (stamps_in l.width (drop l.at l.bytes))
    ≡ (ltb l.marks highest && none_above l.frame.0 (stamps_in (l.width - l.i) (drop (l.at + 4 * l.i) l.bytes)))
