-- The tag, and the length after it.
use mathlib.Core.Path.{ap, ◌∙◌}
use native.Mathlib.Omega.{arith}
use native.Mathlib.Numerals.{add-one}
use lib.ListN.{set, length-set}
use lib.Seq.{sets}
use Rattle.rules.specs.Fields.{little_endian}
use Rattle.fields.proofs.writing.put_field.Goals as goal

pub put_u16-requires : goal.put_u16-requires
put_u16-requires c = simp length-set (omega arith)

pub shape_of-out : goal.shape_of-out
shape_of-out c = c.put_u16.auto.out ∙ simp length-set

pub returns : goal.returns
returns c = let a = c.args in
    c.put_u16.ensures ∙ ap (λ k. sets (set a.out.now a.at a.tag) k (little_endian 2 a.size)) (add-one a.at)
