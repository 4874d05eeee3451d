-- By the test whether both ends are beyond, and the contracts of the parts.
use lib.Ieee.{binary64}
use Rattle.clip.proofs.Trying.{within_the_face, clamped}
use Rattle.clip.proofs.clip.clipped_at.Goals as goal

pub returns-then-both_beyond : goal.returns-then-both_beyond
returns-then-both_beyond g c = within_the_face binary64 _ _ _ _ c.both_beyond.ensures c.if-both_beyond.true

pub returns : goal.returns
returns g c = clamped binary64 _ _ _ _ c.both_beyond.ensures c.if-both_beyond.false c.clamp_to_addressable_cell.ensures
    c.clamp_to_addressable_cell-2.ensures c.is_inside.ensures
