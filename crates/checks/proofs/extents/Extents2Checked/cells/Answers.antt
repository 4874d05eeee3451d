-- A product by axes, the last of which is one.
use native.Mathlib.Nat.{mul-one}
use Rattle.rules.specs.TheGridAndItsBounds.{cells}
use Rattle.checks.proofs.extents.Extents2Checked.cells.Goals as goal

pub returns : goal.returns
unfolding cells
returns c = simp mul-one
