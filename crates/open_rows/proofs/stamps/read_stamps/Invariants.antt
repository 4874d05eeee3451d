-- What is left to store completes the row.
use Prim.Native.Nat.{◌+◌, ◌-◌, ◌*◌}
use mathlib.Core.Path.{◌≡◌}
use lib.ListN.{drop}
use lib.Seq.{sets}
use Rattle.rules.specs.EditionTwo.{stamps_in}
use Rattle.open_rows.proofs.stamps.read_stamps.Given as goal

abbrev pub invariant-loop-i : goal.invariant-loop-i
invariant-loop-i l =
    sets l.initial.row 0 (stamps_in l.i-end (drop l.at l.bytes))
    ≡ sets l.row l.i (stamps_in (l.i-end - l.i) (drop (l.at + 4 * l.i) l.bytes))
