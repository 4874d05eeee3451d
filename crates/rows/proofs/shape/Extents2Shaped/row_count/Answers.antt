-- A product by axes, the last of which is one.
use native.Mathlib.Nat.{mul-one}
use Rattle.rules.specs.MapRecord.{row_count}
use Rattle.rules.specs.TheGridAndItsBounds.{cells}
use Rattle.rows.proofs.shape.Extents2Shaped.row_count.Goals as goal

pub returns : goal.returns
unfolding row_count cells
returns c = simp mul-one
