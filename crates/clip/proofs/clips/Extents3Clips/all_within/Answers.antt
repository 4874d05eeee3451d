-- Axis by axis.
use lib.Ieee.{binary64}
use Rattle.clip.proofs.ByAxis.{not-all-within, within_then, last_within}
use Rattle.clip.proofs.clips.Extents3Clips.all_within.Goals as goal

pub returns-then-within-2 : goal.returns-then-within-2
returns-then-within-2 c = within_then binary64 _ _ c.within.ensures _ _ c.if-within.true
    (within_then binary64 _ _ c.within-then-within.ensures _ _ c.if-within-2.true (last_within binary64 _ _ c.within-then-within-2.ensures))

pub returns-else-within-2 : goal.returns-else-within-2
returns-else-within-2 c = within_then binary64 _ _ c.within.ensures _ _ c.if-within.true
    (not-all-within binary64 _ _ c.within-then-within.ensures _ _ c.if-within-2.false)

pub returns-else-within : goal.returns-else-within
returns-else-within c = not-all-within binary64 _ _ c.within.ensures _ _ c.if-within.false
