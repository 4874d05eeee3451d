-- The deltas are tried in turn. Where all are finite, the longest axis is the rule's.
use lib.Ieee.{binary64}
use Rattle.types.specs.Points.{point2}
use Rattle.bresenham.specs.Axes.{primary}
use Rattle.bresenham.proofs.Laws.{stops, passes, passed, chooses, chosen, none_longest, longest}
use Rattle.laws.specs.Literals.{zero_code, zero_is}
use Rattle.std.proofs.lemmas.Bool.{not_from_false, not_from_true}
use Rattle.bresenham.proofs.line.Extents2Lines.longest.Goals as goal

pub returns-then-not-is_finite : goal.returns-then-not-is_finite
returns-then-not-is_finite c = let a = c.args in
    none_longest binary64 (point2 a.start) (point2 a.end)
    (stops binary64 _ _ _ _ c.delta-dx.ensures c.is_finite.ensures (not_from_false _ c.if-not-is_finite.true))

pub returns-then-not-is_finite-2 : goal.returns-then-not-is_finite-2
returns-then-not-is_finite-2 c = let a = c.args in
    none_longest binary64 (point2 a.start) (point2 a.end)
    (passes binary64 _ _ _ _ c.delta-dx.ensures c.is_finite.ensures (not_from_true _ c.if-not-is_finite.false)
    (stops binary64 _ _ _ _ c.delta-dy.ensures c.is_finite-2.ensures (not_from_false _ c.if-not-is_finite-2.true)))

pub returns : goal.returns
returns c = let a = c.args in
    longest binary64 (point2 a.start) (point2 a.end) (zero_code binary64) (primary c.larger-2.result) (zero_is binary64)
    (chooses binary64 0 _ _ _ _ _ c.delta-dx.ensures c.larger.ensures
    (chooses binary64 1 _ _ _ _ _ c.delta-dy.ensures c.larger-2.ensures
    (chosen binary64 2)))
    (passes binary64 _ _ _ _ c.delta-dx.ensures c.is_finite.ensures (not_from_true _ c.if-not-is_finite.false)
    (passes binary64 _ _ _ _ c.delta-dy.ensures c.is_finite-2.ensures (not_from_true _ c.if-not-is_finite-2.false)
    (passed binary64)))
