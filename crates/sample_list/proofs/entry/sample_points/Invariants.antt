-- Between two points, the rest leaves of the lists what the whole list leaves of them as they were.
use Rattle.std.specs.Float.{binary64}
use Rattle.sample_list.proofs.Listing.{Underway}
use Rattle.sample_list.proofs.entry.sample_points.Given as goal

abbrev pub invariant-loop-place : goal.invariant-loop-place
invariant-loop-place g l = Underway binary64 (g.E.Axes.extents l.extents) l.odds l.points l.initial.samples l.initial.found l.place l.samples l.found
