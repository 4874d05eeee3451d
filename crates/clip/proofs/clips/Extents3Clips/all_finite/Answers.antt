-- Axis by axis.
use Rattle.clip.proofs.ByAxis.{not-all-finite, finite_then, last-finite}
use Rattle.clip.proofs.clips.Extents3Clips.all_finite.Goals as goal

pub returns-then-is_finite-2 : goal.returns-then-is_finite-2
returns-then-is_finite-2 c = finite_then _ c.is_finite.ensures _ c.if-is_finite.true
    (finite_then _ c.is_finite-then-is_finite.ensures _ c.if-is_finite-2.true (last-finite _ c.is_finite-then-is_finite-2.ensures))

pub returns-else-is_finite-2 : goal.returns-else-is_finite-2
returns-else-is_finite-2 c = finite_then _ c.is_finite.ensures _ c.if-is_finite.true (not-all-finite _ c.is_finite-then-is_finite.ensures _ c.if-is_finite-2.false)

pub returns-else-is_finite : goal.returns-else-is_finite
returns-else-is_finite c = not-all-finite _ c.is_finite.ensures _ c.if-is_finite.false
