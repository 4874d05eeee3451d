-- Three floats, eight bytes each.
use Prim.Native.Nat.{◌+◌}
use mathlib.Core.Path.{refl}
use lib.Seq.{drop-drop}
use Rattle.rules.specs.Fields.{float_size, floats_in, head_size}
use Rattle.record_reader.proofs.parts.model_field_at.Goals as goal

pub returns : goal.returns
unfolding floats_in
returns c = let a = c.args in
    let bytes = a.bytes.now in
    rw (
      c.f64_at.ensures,
      c.f64_at-2.ensures,
      c.f64_at-3.ensures,
      drop-drop head_size a.at bytes,
      drop-drop float_size (a.at + head_size) bytes,
      drop-drop float_size (a.at + head_size + float_size) bytes,
    ) refl
