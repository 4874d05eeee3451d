-- Axis by axis.
use Rattle.clip.proofs.ByAxis.{not-all-finite, finite_then, last-finite}
use Rattle.clip.proofs.clips.Extents2Clips.all_finite.Goals as goal

pub returns-then-is_finite : goal.returns-then-is_finite
returns-then-is_finite c = finite_then _ c.is_finite.ensures _ c.if-is_finite.true (last-finite _ c.is_finite-then-is_finite.ensures)

pub returns : goal.returns
returns c = not-all-finite _ c.is_finite.ensures _ c.if-is_finite.false
