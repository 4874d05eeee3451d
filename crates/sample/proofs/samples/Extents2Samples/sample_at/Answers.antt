-- The highest corner's place bounds each sum on the way; the corners are those that the rules name.
use Rattle.std.proofs.Common.{◌∙◌, arith}
use Rattle.sample.specs.Stencil.{axis_of}
use Rattle.sample.specs.Sampling.{gradient_over}
use Rattle.sample.proofs.SampleLaws.{sampled, highest_two, odds_two}
use Rattle.sample.proofs.samples.Extents2Samples.sample_at.Goals as goal

pub overflow_mul-base : goal.overflow_mul-base
overflow_mul-base c = let h = rw (highest_two _ _ _ _) at c.requires in omega arith

pub overflow_add-base : goal.overflow_add-base
overflow_add-base c = let h = rw (highest_two _ _ _ _) at c.requires in omega arith

pub square_at-square-requires : goal.square_at-square-requires
square_at-square-requires c = let h = rw (highest_two _ _ _ _) at c.requires in omega arith

pub returns : goal.returns
unfolding gradient_over
returns c = let s = c.args.found in
    sampled _ _ _ _ _ _ _ (c.square_at-square.ensures ∙ odds_two _ _ (axis_of s.x) (axis_of s.y) _) c.value2.ensures c.gradient2.ensures
