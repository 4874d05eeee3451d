-- The numbers that are left to write complete the run.
use Prim.Native.Nat.{◌+◌, ◌*◌}
use mathlib.Core.Path.{◌≡◌}
use lib.ListN.{length, drop}
use lib.Seq.{sets}
use Rattle.rules.specs.EditionTwo.{stamp_bytes}
use Rattle.fields.proofs.writing.put_words.Given as goal

abbrev pub invariant-loop-n : goal.invariant-loop-n
invariant-loop-n l = record {
  place : l.here ≡ l.at + 4 * l.n-index;
  kept : length l.out ≡ length l.initial.out;
  left : sets l.initial.out l.at (stamp_bytes l.numbers) ≡ sets l.out l.here (stamp_bytes (drop l.n-index l.numbers));
}
