-- The patterns above infinity's are NaN's.
use mathlib.Core.Path.{sym, ◌∙◌}
use Rattle.fields.proofs.NaNs.{made, nan_pattern, no_nan_pattern}
use Rattle.fields.proofs.patterns.float_of.Goals as goal

pub returns-then-n-gt9218868437227405312 : goal.returns-then-n-gt9218868437227405312
returns-then-n-gt9218868437227405312 c = made ∙ sym (nan_pattern c.args.n c.if-n-gt9218868437227405312.true)

pub float_from_bits-result : goal.float_from_bits-result
float_from_bits-result c = no_nan_pattern c.args.n c.if-n-gt9218868437227405312.false
