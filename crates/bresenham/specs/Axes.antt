-- An axis, and the choice of the primary one, as the rules'. Definitions only.
use Rattle.rules.specs.TheLine as TheLine
use Rattle.bresenham.specs.declared.axis.Axis.{Axis}
use Rattle.bresenham.specs.declared.axis.Primary.{Primary}

abbrev pub axis : Axis → TheLine.Axis
axis a = record { current = a.current; end = a.end; increment = a.increment; step = a.step; error = a.error }

abbrev pub primary : Primary → TheLine.Primary
primary p = record { axis = p.axis; delta = p.delta }
