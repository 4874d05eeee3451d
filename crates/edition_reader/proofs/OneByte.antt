-- A field of one byte. Assumes nothing.
use Prim.Native.Nat.{ℕ, ◌+◌}
use mathlib.Core.List.{List}
use mathlib.Core.Path.{◌≡◌, ap, ◌∙◌}
use native.Mathlib.Omega.{arith}
use lib.ListN.{get_or, drop}
use lib.Seq.{drop-drop}
use Rattle.rules.specs.Fields.{from_little_endian, head_size}
use Rattle.fields.proofs.Bytes.{from_step}

pub byte_at : (at : ℕ) (bs : List ℕ) → from_little_endian 1 (drop head_size (drop at bs)) ≡ get_or bs (at + head_size) 0
unfolding from_little_endian
byte_at at bs = ap (from_little_endian 1) (drop-drop head_size at bs) ∙ (let s = from_step 0 (at + head_size) bs in omega arith)
