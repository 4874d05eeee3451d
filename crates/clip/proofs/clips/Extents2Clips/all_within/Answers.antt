-- Axis by axis.
use lib.Ieee.{binary64}
use Rattle.clip.proofs.ByAxis.{not-all-within, within_then, last_within}
use Rattle.clip.proofs.clips.Extents2Clips.all_within.Goals as goal

pub returns-then-within : goal.returns-then-within
returns-then-within c = within_then binary64 _ _ c.within.ensures _ _ c.if-within.true (last_within binary64 _ _ c.within-then-within.ensures)

pub returns : goal.returns
returns c = not-all-within binary64 _ _ c.within.ensures _ _ c.if-within.false
