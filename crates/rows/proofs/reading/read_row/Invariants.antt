-- What is left to store completes the row.
use Prim.Native.Nat.{◌+◌, ◌-◌, ◌*◌}
use mathlib.Core.Path.{◌≡◌}
use lib.ListN.{drop}
use lib.Seq.{sets}
use Rattle.rules.specs.Fields.{floats_in}
use Rattle.rows.proofs.reading.read_row.Given as goal

abbrev pub invariant-loop-i : goal.invariant-loop-i
invariant-loop-i l =
    sets l.initial.row 0 (floats_in l.i-end (drop l.at l.bytes))
    ≡ sets l.row l.i (floats_in (l.i-end - l.i) (drop (l.at + 8 * l.i) l.bytes))
