-- The head of the field, and its floats.
use Prim.Native.Nat.{suc}
use mathlib.Core.List.{◌∷◌}
use mathlib.Core.Path.{sym, ap, ◌∙◌}
use lib.ListN.{length}
use lib.Seq.{sets}
use Rattle.rules.specs.Fields.{little_endian, short_size, float_bytes, head_size}
use Rattle.rules.specs.MapRecord.{row_tag, row_length}
use Rattle.fields.proofs.Bytes.{length_little}
use Rattle.fields.proofs.Stores.{two_runs}
use Rattle.fields.proofs.Floats.{length_float_bytes, field_of}
use Rattle.rows.proofs.writing.write_row.Goals as goal

pub returns : goal.returns
returns c = let a = c.args in
    let n = row_length (length a.row.now) in
    let bytes = float_bytes a.row.now in
    two_runs (row_tag ∷ little_endian short_size n) bytes a.out.now _ _ a.at head_size (ap suc (length_little short_size n)) c.put_field.ensures c.put_floats.ensures
    ∙ ap (sets a.out.now a.at) (sym (field_of row_tag n bytes (length_float_bytes a.row.now)))
