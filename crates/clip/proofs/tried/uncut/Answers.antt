-- The law says that the slabs leave the whole beam.
use lib.Ieee.{binary64}
use Rattle.laws.specs.Literals.{zero_is, one_is}
use Rattle.clip.proofs.Trying.{uncut}
use Rattle.clip.proofs.tried.uncut.Goals as goal

pub returns : goal.returns
returns g c = let r = c.requires in
    uncut binary64 _ _ _ r.in_bounds r.starts_within r.ends_within (zero_is binary64) (one_is binary64)
    c.directions-direction.ensures c.point_at.ensures c.point_at-2.ensures c.clipped_at.ensures
