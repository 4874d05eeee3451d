-- The float of the eight bytes' number.
use mathlib.Core.Path.{refl}
use Rattle.fields.proofs.reading.f64_at.Goals as goal

pub returns : goal.returns
returns c = rw (c.float_of.ensures, c.u64_at.ensures) refl
