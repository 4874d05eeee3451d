-- In the profile nothing wraps, and the smaller of the top and the highest height is the one that the test chooses.
use native.Mathlib.Omega.{arith}
use Rattle.rules.specs.VerticalBeam.{cells_above}
use Rattle.vertical.proofs.Climbing.{inside}
use Rattle.vertical.proofs.profile.cells_above.Goals as goal

pub overflow_sub-result : goal.overflow_sub-result
overflow_sub-result c = let i = inside _ _ c.requires in let r = i.rises in omega arith

pub returns-then-beam-extents : goal.returns-then-beam-extents
unfolding cells_above
returns-then-beam-extents c = let t = c.if-beam-extents.true in omega arith

pub overflow_sub-result-2 : goal.overflow_sub-result-2
overflow_sub-result-2 c = let i = inside _ _ c.requires in let b = i.bottom_on in omega arith

pub overflow_sub-result-3 : goal.overflow_sub-result-3
overflow_sub-result-3 c = let i = inside _ _ c.requires in let b = i.bottom_on in omega arith

pub returns : goal.returns
unfolding cells_above
returns c = let t = c.if-beam-extents.false in let i = inside _ _ c.requires in let e = i.ends in omega arith
