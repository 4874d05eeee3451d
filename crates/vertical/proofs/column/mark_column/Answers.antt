-- Between two marks the place is that of a cell of the column, and one layer further on is the next.
use Rattle.std.proofs.Common.{arith}
use Rattle.std.proofs.Math.Nat.{sub-zero}
use Rattle.beam.proofs.Walking.{still_counts}
use Rattle.vertical.proofs.Climbing.{next_place, place_below, place_is, starts, goes_up, ends}
use Rattle.vertical.proofs.column.mark_column.Goals as goal

pub loop-init : goal.loop-init
loop-init c = let h = c.requires.top_within in
    rw sub-zero (starts _ _ _ _ _ _ _ _ _ _ c.requires.ready (place_is _ _ _ _ _ _ _ c.requires.x_within c.requires.y_within (omega arith) c.place_within3-at.ensures))

pub mark_counted-count-requires-clause-in_lists : goal.mark_counted-count-requires-clause-in_lists
mark_counted-count-requires-clause-in_lists c = let w = c.loop.invariant in
    let h = c.requires.top_within in
    let l = w.level in
    let t = c.loop-test.true in
    rw w.ready.odds_count (place_below _ _ _ _ _ _ _ w.place c.requires.x_within c.requires.y_within (omega arith))

pub overflow_add-count : goal.overflow_add-count
overflow_add-count c = still_counts _ _ _ _ _ _ _ c.requires.ready c.loop.invariant.used c.mark_counted-count.ensures.used

pub overflow_add-at : goal.overflow_add-at
overflow_add-at c = let w = c.loop.invariant in
    let t = c.loop-test.true in
    let l = w.level in
    let h = c.requires.top_within in
    let lt = place_below _ _ _ _ _ _ _ (next_place _ _ _ _ _ _ _ w.place) c.requires.x_within c.requires.y_within (omega arith) in
    let few = c.requires.ready.extents.1 in
    omega arith

pub loop-preserved : goal.loop-preserved
loop-preserved c = let w = c.loop.invariant in
    let t = c.loop-test.true in
    goes_up _ _ _ _ _ _ _ _ _ _ _ _ _ _ _ _ c.mark_counted-count.result _ _ w (omega arith)
    c.mark_counted-count.ensures
    (next_place _ _ _ _ _ _ _ w.place)

pub mark_counted-requires-clause-in_lists : goal.mark_counted-requires-clause-in_lists
mark_counted-requires-clause-in_lists c = let w = c.loop.invariant in
    let h = c.requires.top_within in
    let l = w.level in
    rw w.ready.odds_count (place_below _ _ _ _ _ _ _ w.place c.requires.x_within c.requires.y_within (omega arith))

pub overflow_add-result : goal.overflow_add-result
overflow_add-result c = still_counts _ _ _ _ _ _ _ c.requires.ready c.loop.invariant.used c.mark_counted.ensures.used

pub returns : goal.returns
returns c = let t = c.loop-test.false in
    ends _ _ _ _ _ _ _ _ _ _ _ _ _ _ c.mark_counted.result _ _
    c.loop.invariant (omega arith)
    c.mark_counted.ensures
