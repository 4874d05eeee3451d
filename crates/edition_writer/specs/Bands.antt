-- How many bands there are above the lowest, for two axes and for three. Assumes nothing.
use Rattle.std.specs.Prelude.{◌≡◌, refl}
use Rattle.rules.specs.EditionTwo.{cuts_for}

pub above2 : 0 ≡ cuts_for 2
unfolding cuts_for
above2 = refl

pub above3 : 2 ≡ cuts_for 3
unfolding cuts_for
above3 = refl
