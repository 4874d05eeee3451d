-- The floats that are left to write complete the run.
use Prim.Native.Nat.{◌+◌, ◌*◌}
use mathlib.Core.Path.{◌≡◌}
use lib.ListN.{length, drop}
use lib.Seq.{sets}
use Rattle.rules.specs.Fields.{float_bytes}
use Rattle.fields.proofs.writing.put_floats.Given as goal

abbrev pub invariant-loop-x : goal.invariant-loop-x
invariant-loop-x l = record {
  place : l.here ≡ l.at + 8 * l.x-index;
  kept : length l.out ≡ length l.initial.out;
  left : sets l.initial.out l.at (float_bytes l.numbers) ≡ sets l.out l.here (float_bytes (drop l.x-index l.numbers));
}
