-- The marks seen and the floats that are left decide together.
use Prim.Native.Nat.{◌+◌, ◌-◌, ◌*◌}
use mathlib.Core.Bool.{◌&&◌}
use mathlib.Core.Path.{◌≡◌}
use lib.Dec.{ltb}
use lib.ListN.{drop}
use Rattle.rules.specs.Fields.{floats_in}
use Rattle.rules.specs.MapRecord.{odds_in_bounds}
use Rattle.types.specs.Models.{model_of}
use Rattle.rows.specs.Marks.{highest}
use Rattle.rows.proofs.reading.row_in_bounds.Given as goal

abbrev pub invariant-loop-i : goal.invariant-loop-i
invariant-loop-i l =
    odds_in_bounds (model_of l.fn.model) (floats_in l.width (drop l.at l.bytes))
    ≡ (ltb l.marks highest && odds_in_bounds (model_of l.fn.model) (floats_in (l.width - l.i) (drop (l.at + 8 * l.i) l.bytes)))
