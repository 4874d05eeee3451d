-- The larger entry and the smaller exit, by their contracts, and the test between them.
use Rattle.clip.proofs.Crossing.{cut_away, cut_down}
use Rattle.clip.proofs.slabs.cut_to.Goals as goal

pub returns-then-entry-exit : goal.returns-then-entry-exit
returns-then-entry-exit c = cut_away _ _ _ c.larger_of-entry.ensures c.smaller_of-exit.ensures c.if-entry-exit.true

pub returns : goal.returns
returns c = cut_down _ _ _ c.larger_of-entry.ensures c.smaller_of-exit.ensures c.if-entry-exit.false
