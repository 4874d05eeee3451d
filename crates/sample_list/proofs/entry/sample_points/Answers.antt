-- Between two points, the rest leaves of the lists what the whole list leaves of them as they were.
use Rattle.std.proofs.Common.{add-one, arith, length, sym, ◌∙◌}
use Rattle.sample_list.proofs.Listing.{one_more, all_done}
use Rattle.sample_list.proofs.entry.sample_points.Goals as goal

pub loop-place-preserved : goal.loop-place-preserved
loop-place-preserved g c = let suc-axes = add-one (length (g.E.Axes.extents c.args.extents)) in
    let u = c.loop-place.invariant in
    let again = one_more _ _ _ _ _ _ _ _ _ u (omega (arith, u.marks_kept, c.loop-place-test.true)) c.requires.points_each (rw suc-axes at c.requires.slots_each) in
    rw (c.put_sample-mark.ensures.mark, c.put_sample-mark.ensures.slot, c.sample_log_odds-read.ensures, c.listed_point-point.ensures, c.AXES-axes.ensures ∙ sym (g.E.Axes.axes_each c.args.extents), suc-axes) again

pub returns : goal.returns
returns g c = let u = c.loop-place.invariant in
    all_done _ _ _ _ _ _ _ _ _ u (omega (arith, c.loop-place-test.false, c.loop-place.auto.place-end))
