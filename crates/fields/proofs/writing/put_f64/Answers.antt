-- The float's pattern.
use mathlib.Core.Path.{ap, ◌∙◌}
use lib.Seq.{sets}
use Rattle.rules.specs.Fields.{little_endian}
use Rattle.fields.proofs.writing.put_f64.Goals as goal

pub returns : goal.returns
returns c = let a = c.args in
    c.put_u64.ensures ∙ ap (λ n. sets a.out.now a.at (little_endian 8 n)) c.bits_of.ensures
