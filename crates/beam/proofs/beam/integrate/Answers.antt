-- The points decide first; then what clipping left.
use Rattle.std.proofs.Common.{◌≡◌, Some, None, rules, arith}
use Rattle.rules.specs.OneBeam.{integrated_beam}
use Rattle.beam.proofs.Beaming.{not_finite, finite}
use Rattle.beam.proofs.beam.integrate.Goals as goal

pub returns-in_err-clip : goal.returns-in_err-clip
unfolding integrated_beam
returns-in_err-clip g c = let missed : c.clip_beam.result ≡ None = grind arith in
    rw (not_finite _ _ (g.E.Axes.beam_of c.args.beam) c.origin-origin.ensures c.endpoint-endpoint.ensures (rw missed at c.clip_beam.ensures)) (search rules)

pub returns : goal.returns
unfolding integrated_beam
returns g c = let found : c.clip_beam.result ≡ Some c.in_ok-clip.clip = grind arith in
    rw (finite _ _ _ c.origin-origin.ensures c.endpoint-endpoint.ensures c.is_hit-hit.ensures (rw found at c.clip_beam.ensures)) c.integrate_clipped.ensures
