-- Both ends on the map: finite, and uncut. Else by the tests, and then the slabs.
use Rattle.std.proofs.Common.{arith}
use lib.Ieee.{binary64}
use Rattle.clip.proofs.Trying.{on_the_map}
use Rattle.clip.proofs.tried.clip_beam.Goals as goal

pub returns-then-all_within-2 : goal.returns-then-all_within-2
returns-then-all_within-2 g c =
    let starts = g.E.Axes.coordinate_each c.args.extents c.args.origin in
    let ends = g.E.Axes.coordinate_each c.args.extents c.args.endpoint in
    on_the_map binary64 _ _ _ c.requires.in_bounds (omega (arith, starts)) (omega (arith, ends))
    c.all_within.ensures c.if-all_within.true c.all_within-then-all_within.ensures c.if-all_within-2.true c.uncut.ensures
