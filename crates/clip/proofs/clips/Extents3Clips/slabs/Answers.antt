-- Each slab goes on from what the ones before left, and the first miss stands.
use Rattle.std.proofs.Common.{rules, refl, [], ◌∷◌}
use lib.Ieee.{binary64}
use Rattle.laws.specs.Literals.{zero_is, one_is}
use Rattle.clip.proofs.Passages.{whole, stops_there, goes_through, last-slab}
use Rattle.clip.proofs.clips.Extents3Clips.slabs.Goals as goal

pub returns-in_err-s : goal.returns-in_err-s
returns-in_err-s c = rw (← stops_there binary64 _ _ _ (whole (zero_is binary64) (one_is binary64)) c.in_err-s.ensures _ _ _ refl) (search rules)

pub returns-in_err-t : goal.returns-in_err-t
returns-in_err-t c =
    let missed = goes_through binary64 _ _ _ (whole (zero_is binary64) (one_is binary64)) c.in_ok-s.ensures _ _ _ refl
    (stops_there binary64 _ _ _ refl c.in_err-t.ensures (c.args.self.z ∷ []) (c.args.origin.z ∷ []) (c.args.direction.z ∷ []) refl) in
    rw (← missed) (search rules)

pub returns : goal.returns
returns c = goes_through binary64 _ _ _ (whole (zero_is binary64) (one_is binary64)) c.in_ok-s.ensures _ _ _ refl
    (goes_through binary64 _ _ _ refl c.in_ok-t.ensures _ _ _ refl (last-slab binary64 _ _ _ refl c.slab-3.ensures))
