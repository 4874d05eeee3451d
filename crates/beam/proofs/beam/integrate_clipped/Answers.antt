-- By what clipping left, and then by what the plotter answers.
use Rattle.std.proofs.Common.{rules, sym}
use Rattle.rules.specs.OneBeam.{marks_between}
use Rattle.beam.proofs.Beaming.{missed, integrated-along, drawn_between}
use Rattle.beam.proofs.beam.integrate_clipped.Goals as goal

pub returns-in_default : goal.returns-in_default
unfolding marks_between
returns-in_default g c = rw c.in_default.is (missed _ _ _ _ _)

pub returns-in_err-line : goal.returns-in_err-line
unfolding marks_between
returns-in_err-line g c = rw (c.in-Some.is, ← c.in_err-line.ensures) (search rules)

pub walk_drawn-requires-clause-drawn : goal.walk_drawn-requires-clause-drawn
walk_drawn-requires-clause-drawn g c = drawn_between _ _ _ _ (g.met.E.Beams.some_axis _) (g.met.E.Beams.some_axis _) (sym c.in_ok-line.ensures)

pub returns : goal.returns
unfolding marks_between
returns g c = rw (c.in-Some.is, ← c.in_ok-line.ensures, ← c.both.ensures) (integrated-along _ _ _ _ _ _ _ _ _ c.walk_drawn.ensures)
