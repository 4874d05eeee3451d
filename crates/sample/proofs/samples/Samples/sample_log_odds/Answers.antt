-- Where there is a stencil its highest corner is a cell, and the sample is the one at that stencil; else there is none.
use Rattle.std.proofs.Common.{sym, ap}
use mathlib.Core.Option.{some}
use Rattle.rules.specs.Coordinates.{sample}
use Rattle.sample.proofs.SampleLaws.{within}
use Rattle.sample.proofs.samples.Samples.sample_log_odds.Goals as goal

pub returns-in_err-found : goal.returns-in_err-found
unfolding sample
returns-in_err-found g c = rw (c.from_residual.ensures, sym c.in_err-found.ensures)

pub sample_at-requires : goal.sample_at-requires
sample_at-requires g c =
    rw c.requires.one_per_cell
    (within _ _ _ _ (g.Self.Axes.coordinate_each c.args.self c.args.point) c.requires.two_cells (sym c.in_ok-found.ensures))

pub returns : goal.returns
unfolding sample
returns g c = rw (sym c.in_ok-found.ensures) (ap some c.sample_at.ensures)
