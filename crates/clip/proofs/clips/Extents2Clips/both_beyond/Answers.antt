-- Axis by axis: the first that has both ends beyond decides.
use lib.Ieee.{binary64}
use Rattle.clip.proofs.ByAxis.{beyond_one, beyond_then, last_beyond}
use Rattle.clip.proofs.clips.Extents2Clips.both_beyond.Goals as goal

pub returns-then-beyond : goal.returns-then-beyond
returns-then-beyond c = beyond_one binary64 _ _ _ c.beyond.ensures _ _ _ c.if-beyond.true

pub returns : goal.returns
returns c = beyond_then binary64 _ _ _ c.beyond.ensures _ _ _ c.if-beyond.false (last_beyond binary64 _ _ _ c.beyond-2.ensures)
