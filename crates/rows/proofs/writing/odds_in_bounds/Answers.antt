-- The marks seen and the numbers that are left decide together.
use mathlib.Core.Bool.{◌&&◌}
use mathlib.Core.Path.{refl, sym, ◌∙◌}
use native.Mathlib.Omega.{arith}
use lib.Dec.{ltb}
use Rattle.std.proofs.lemmas.List.{at_drop_all}
use Rattle.rules.specs.MapRecord.{odds_in_bounds}
use Rattle.types.specs.Models.{model_of}
use Rattle.rows.specs.Marks.{highest}
use Rattle.rows.proofs.Marked.{number_seen, all_seen}
use Rattle.rows.proofs.writing.odds_in_bounds.Goals as goal

pub loop-x-preserved : goal.loop-x-preserved
loop-x-preserved c = let a = c.args in
    let l = c.loop-x in
    l.invariant ∙ number_seen (model_of a.model) l.marks l.x-index a.row.now c.loop-x-test.true ∙ rw c.mark_of-marks.ensures refl

pub returns : goal.returns
returns c = let a = c.args in
    let l = c.loop-x in
    let m = model_of a.model in
    sym (l.invariant ∙ at_drop_all (λ xs. ltb l.marks highest && odds_in_bounds m xs) a.row.now l.x-index (omega arith) ∙ all_seen m l.marks)
