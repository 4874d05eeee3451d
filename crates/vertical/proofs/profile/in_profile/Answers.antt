-- Test by test; the extents are three.
use mathlib.Core.Path.{◌≡◌, refl}
use mathlib.Core.Bool.{Bool, true, ◌&&◌}
use borrow.Author.Tests.{lt-ltb, le-ltb, le-leb, lt-leb}
use Rattle.rules.specs.VerticalBeam.{in_profile}
use Rattle.vertical.proofs.profile.in_profile.Goals as goal

pub returns-then-beam-extents : goal.returns-then-beam-extents
unfolding in_profile
returns-then-beam-extents c = simp (le-ltb _ _ c.if-beam-extents.true)

pub returns-then-beam-extents-2 : goal.returns-then-beam-extents-2
unfolding in_profile
returns-then-beam-extents-2 c = simp (lt-ltb _ _ c.if-beam-extents.false, le-ltb _ _ c.if-beam-extents-2.true)

pub returns-then-beam-extents-3 : goal.returns-then-beam-extents-3
unfolding in_profile
returns-then-beam-extents-3 c = simp (lt-ltb _ _ c.if-beam-extents.false, lt-ltb _ _ c.if-beam-extents-2.false, le-ltb _ _ c.if-beam-extents-3.true)

pub returns-then-beam : goal.returns-then-beam
unfolding in_profile
returns-then-beam c = simp (lt-ltb _ _ c.if-beam-extents.false, lt-ltb _ _ c.if-beam-extents-2.false, lt-ltb _ _ c.if-beam-extents-3.false, lt-leb _ _ c.if-beam.true)

last_of : (p q r s t : Bool) → p ≡ true → q ≡ true → r ≡ true → s ≡ true → t ≡ (p && q && r && s && t)
last_of p q r s t a b c d = rw (a, b, c, d) refl

pub returns : goal.returns
unfolding in_profile
returns c = last_of _ _ _ _ _ (lt-ltb _ _ c.if-beam-extents.false) (lt-ltb _ _ c.if-beam-extents-2.false) (lt-ltb _ _ c.if-beam-extents-3.false) (le-leb _ _ c.if-beam.false)
