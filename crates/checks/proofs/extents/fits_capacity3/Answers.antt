-- Axis by axis; within the bounds no product wraps.
use Prim.Native.Nat.{◌*◌}
use native.Mathlib.Nat.{mul-one, mul-le-mul}
use mir.Facts.{Fits-le, Fits-lit}
use borrow.Author.Tests.{le-leb, lt-leb}
use Rattle.rules.specs.TheGridAndItsBounds.{fits_capacity, all_at_most, cells}
use Rattle.checks.proofs.extents.fits_capacity3.Goals as goal

pub returns-then-e-gt-MOST_EXTENT : goal.returns-then-e-gt-MOST_EXTENT
unfolding fits_capacity all_at_most
returns-then-e-gt-MOST_EXTENT c = simp (lt-leb _ _ c.if-e-gt-MOST_EXTENT.true)

pub returns-then-e-gt-MOST_EXTENT-2 : goal.returns-then-e-gt-MOST_EXTENT-2
unfolding fits_capacity all_at_most
returns-then-e-gt-MOST_EXTENT-2 c = simp (le-leb _ _ c.if-e-gt-MOST_EXTENT.false, lt-leb _ _ c.if-e-gt-MOST_EXTENT-2.true)

pub returns-then-e-gt-MOST_EXTENT-3 : goal.returns-then-e-gt-MOST_EXTENT-3
unfolding fits_capacity all_at_most
returns-then-e-gt-MOST_EXTENT-3 c = simp (le-leb _ _ c.if-e-gt-MOST_EXTENT.false, le-leb _ _ c.if-e-gt-MOST_EXTENT-2.false, lt-leb _ _ c.if-e-gt-MOST_EXTENT-3.true)

pub overflow_mul-result : goal.overflow_mul-result
overflow_mul-result c = Fits-le (mul-le-mul c.if-e-gt-MOST_EXTENT-2.false c.if-e-gt-MOST_EXTENT-3.false) (Fits-lit {n = 4096 * 4096} tt)

pub overflow_mul-result-2 : goal.overflow_mul-result-2
overflow_mul-result-2 c = Fits-le (mul-le-mul c.if-e-gt-MOST_EXTENT.false (mul-le-mul c.if-e-gt-MOST_EXTENT-2.false c.if-e-gt-MOST_EXTENT-3.false)) (Fits-lit {n = 4096 * (4096 * 4096)} tt)

pub returns : goal.returns
unfolding fits_capacity all_at_most cells
returns c = simp (le-leb _ _ c.if-e-gt-MOST_EXTENT.false, le-leb _ _ c.if-e-gt-MOST_EXTENT-2.false, le-leb _ _ c.if-e-gt-MOST_EXTENT-3.false, mul-one)
