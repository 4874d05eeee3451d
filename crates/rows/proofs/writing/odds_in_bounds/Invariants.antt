-- The marks seen and the numbers that are left decide together.
use mathlib.Core.Bool.{◌&&◌}
use mathlib.Core.Path.{◌≡◌}
use lib.Dec.{ltb}
use lib.ListN.{drop}
use Rattle.rules.specs.MapRecord.{odds_in_bounds}
use Rattle.types.specs.Models.{model_of}
use Rattle.rows.specs.Marks.{highest}
use Rattle.rows.proofs.writing.odds_in_bounds.Given as goal

abbrev pub invariant-loop-x : goal.invariant-loop-x
invariant-loop-x l = odds_in_bounds (model_of l.model) l.row ≡ (ltb l.marks highest && odds_in_bounds (model_of l.model) (drop l.x-index l.row))
