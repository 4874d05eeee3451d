-- What is left to copy completes the run.
use Prim.Native.Nat.{◌+◌, ◌-◌}
use mathlib.Core.Path.{◌≡◌}
use lib.ListN.{length, take, drop}
use lib.Seq.{sets}
use Rattle.editions.proofs.copying.copy_bytes.Given as goal

abbrev pub invariant-loop-i : goal.invariant-loop-i
invariant-loop-i l =
    (length l.out ≡ length l.initial.out)
    × (sets l.initial.out l.at (take l.count (drop l.from l.bytes)) ≡ sets l.out (l.at + l.i) (take (l.count - l.i) (drop (l.from + l.i) l.bytes)))
