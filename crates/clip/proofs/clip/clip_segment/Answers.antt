-- The slabs decide, and the parts make the segment.
use Rattle.std.proofs.Common.{rules, refl}
use lib.Ieee.{binary64}
use Rattle.clip.proofs.Trying.{passes_by, cut_out}
use Rattle.clip.proofs.clip.clip_segment.Goals as goal

pub returns-in_err-s : goal.returns-in_err-s
returns-in_err-s g c = rw (← passes_by binary64 _ _ _ c.directions-direction.ensures c.in_err-s.ensures refl) (search rules)

pub returns : goal.returns
returns g c = cut_out binary64 _ _ _ c.directions-direction.ensures c.in_ok-s.ensures refl c.point_at.ensures c.point_at-2.ensures c.clipped_at.ensures
