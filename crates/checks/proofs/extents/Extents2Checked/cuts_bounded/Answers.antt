-- One pair of steps has no cut.
use Rattle.std.proofs.Common.{refl}
use Rattle.rules.specs.TheGridAndItsBounds.{cuts_below, cuts_in_bounds}
use Rattle.checks.proofs.extents.Extents2Checked.cuts_bounded.Goals as goal

pub returns : goal.returns
unfolding cuts_below cuts_in_bounds
returns c = refl
