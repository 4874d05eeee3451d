-- Each slab goes on from what the ones before left, and the first miss stands.
use Rattle.std.proofs.Common.{rules, refl}
use lib.Ieee.{binary64}
use Rattle.laws.specs.Literals.{zero_is, one_is}
use Rattle.clip.proofs.Passages.{whole, stops_there, goes_through, last-slab}
use Rattle.clip.proofs.clips.Extents2Clips.slabs.Goals as goal

pub returns-in_err-s : goal.returns-in_err-s
returns-in_err-s c = rw (← stops_there binary64 _ _ _ (whole (zero_is binary64) (one_is binary64)) c.in_err-s.ensures _ _ _ refl) (search rules)

pub returns : goal.returns
returns c = goes_through binary64 _ _ _ (whole (zero_is binary64) (one_is binary64)) c.in_ok-s.ensures _ _ _ refl (last-slab binary64 _ _ _ refl c.slab-2.ensures)
