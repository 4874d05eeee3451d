-- By the test on the entry; the extent as a float is the library's.
use lib.Ieee.{binary64}
use Rattle.rules.specs.Floats.{number_f}
use Rattle.clip.proofs.Crossing.{beyond, not_beyond}
use Rattle.clip.proofs.slabs.beyond.Goals as goal

pub returns-then-entry-limit : goal.returns-then-entry-limit
unfolding number_f
returns-then-entry-limit c = beyond binary64 _ c.nearest_u64_to_f64-limit.ensures _ _ c.if-entry-limit.true

pub returns : goal.returns
unfolding number_f
returns c = not_beyond binary64 _ c.nearest_u64_to_f64-limit.ensures _ _ c.if-entry-limit.false
