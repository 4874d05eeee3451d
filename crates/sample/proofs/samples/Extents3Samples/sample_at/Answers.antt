-- The highest corner's place bounds each sum on the way; the corners are those that the rules name.
use Rattle.std.proofs.Common.{◌∙◌, arith}
use Rattle.sample.specs.Stencil.{axis_of}
use Rattle.sample.specs.Sampling.{gradient_over}
use Rattle.sample.proofs.SampleLaws.{sampled, highest-three, odds-three}
use Rattle.sample.proofs.samples.Extents3Samples.sample_at.Goals as goal

pub overflow_mul-plane : goal.overflow_mul-plane
overflow_mul-plane c = let h = rw (highest-three _ _ _ _ _ _) at c.requires in omega arith

pub overflow_mul-base : goal.overflow_mul-base
overflow_mul-base c = let h = rw (highest-three _ _ _ _ _ _) at c.requires in omega arith

pub overflow_add-base : goal.overflow_add-base
overflow_add-base c = let h = rw (highest-three _ _ _ _ _ _) at c.requires in omega arith

pub overflow_mul-base-2 : goal.overflow_mul-base-2
overflow_mul-base-2 c = let h = rw (highest-three _ _ _ _ _ _) at c.requires in omega arith

pub overflow_add-base-2 : goal.overflow_add-base-2
overflow_add-base-2 c = let h = rw (highest-three _ _ _ _ _ _) at c.requires in omega arith

pub cube_at-cube-requires : goal.cube_at-cube-requires
cube_at-cube-requires c = let h = rw (highest-three _ _ _ _ _ _) at c.requires in omega arith

pub returns : goal.returns
unfolding gradient_over
returns c = let s = c.args.found in
    sampled _ _ _ _ _ _ _
    (c.cube_at-cube.ensures ∙ odds-three _ _ _ (axis_of s.x) (axis_of s.y) (axis_of s.z) _) c.value3.ensures c.gradient3.ensures
