-- Two numbers, two bytes each.
use Prim.Native.Nat.{◌+◌}
use mathlib.Core.Path.{refl}
use lib.Seq.{drop-drop}
use Rattle.rules.specs.Fields.{short_size, head_size}
use Rattle.rules.specs.MapRecord.{extents_in}
use Rattle.record_reader.proofs.reads.Extents2Reads.extents_field_at.Goals as goal

pub returns : goal.returns
unfolding extents_in
returns c = let a = c.args in
    let bytes = a.bytes.now in
    rw (c.u16_at.ensures, c.u16_at-2.ensures, drop-drop head_size a.at bytes, drop-drop short_size (a.at + head_size) bytes) refl
