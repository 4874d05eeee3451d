-- The marks seen and the stamps that are left decide together.
use mathlib.Core.Bool.{◌&&◌}
use mathlib.Core.Path.{◌≡◌}
use lib.Dec.{ltb}
use lib.ListN.{drop}
use Rattle.rules.specs.EditionTwo.{none_above}
use Rattle.open_rows.proofs.Steps.{highest}
use Rattle.open_rows.proofs.stamps.stamps_not_above.Given as goal

abbrev pub invariant-loop-n : goal.invariant-loop-n
invariant-loop-n l = none_above l.frame.0 l.row ≡ (ltb l.marks highest && none_above l.frame.0 (drop l.n-index l.row))
