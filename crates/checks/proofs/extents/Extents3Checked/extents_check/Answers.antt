-- Axis by axis for 1, and then 2.
use mathlib.Core.Path.{sym, ◌∙◌}
use borrow.Author.Tests.{lt-ltb, le-ltb}
use Rattle.rules.specs.RefusalNumbers.Entries.{extents_refusal, first_too_small}
use Rattle.checks.proofs.extents.Extents3Checked.extents_check.Goals as goal

pub returns-then-self-lt-LEAST_EXTENT : goal.returns-then-self-lt-LEAST_EXTENT
unfolding extents_refusal first_too_small
returns-then-self-lt-LEAST_EXTENT c = simp (lt-ltb _ _ c.if-self-lt-LEAST_EXTENT.true)

pub returns-then-self-lt-LEAST_EXTENT-2 : goal.returns-then-self-lt-LEAST_EXTENT-2
unfolding extents_refusal first_too_small
returns-then-self-lt-LEAST_EXTENT-2 c = simp (le-ltb _ _ c.if-self-lt-LEAST_EXTENT.false, lt-ltb _ _ c.if-self-lt-LEAST_EXTENT-2.true)

pub returns-then-self-lt-LEAST_EXTENT-3 : goal.returns-then-self-lt-LEAST_EXTENT-3
unfolding extents_refusal first_too_small
returns-then-self-lt-LEAST_EXTENT-3 c = simp (le-ltb _ _ c.if-self-lt-LEAST_EXTENT.false, le-ltb _ _ c.if-self-lt-LEAST_EXTENT-2.false, lt-ltb _ _ c.if-self-lt-LEAST_EXTENT-3.true)

pub returns-then-fits_capacity3 : goal.returns-then-fits_capacity3
unfolding extents_refusal first_too_small
returns-then-fits_capacity3 c = simp (le-ltb _ _ c.if-self-lt-LEAST_EXTENT.false, le-ltb _ _ c.if-self-lt-LEAST_EXTENT-2.false, le-ltb _ _ c.if-self-lt-LEAST_EXTENT-3.false, sym c.fits_capacity3.ensures ∙ c.if-fits_capacity3.true)

pub returns : goal.returns
unfolding extents_refusal first_too_small
returns c = simp (le-ltb _ _ c.if-self-lt-LEAST_EXTENT.false, le-ltb _ _ c.if-self-lt-LEAST_EXTENT-2.false, le-ltb _ _ c.if-self-lt-LEAST_EXTENT-3.false, sym c.fits_capacity3.ensures ∙ c.if-fits_capacity3.false)
