-- The head of the field, and its stamps.
use Prim.Native.Nat.{suc}
use mathlib.Core.List.{◌∷◌}
use mathlib.Core.Path.{sym, ap, ◌∙◌}
use lib.ListN.{length}
use lib.Seq.{sets}
use Rattle.rules.specs.Fields.{little_endian, short_size, head_size}
use Rattle.rules.specs.EditionTwo.{stamps_tag, stamps_length, stamp_bytes}
use Rattle.fields.proofs.Bytes.{length_little}
use Rattle.fields.proofs.Stores.{two_runs}
use Rattle.fields.proofs.Floats.{length_stamp_bytes, field_of}
use Rattle.open_rows.proofs.stamps.write_stamps.Goals as goal

pub returns : goal.returns
returns c = let a = c.args in
    let n = stamps_length (length a.row.now) in
    let bytes = stamp_bytes a.row.now in
    two_runs (stamps_tag ∷ little_endian short_size n) bytes a.out.now _ _ a.at head_size (ap suc (length_little short_size n)) c.put_field.ensures c.put_words.ensures
    ∙ ap (sets a.out.now a.at) (sym (field_of stamps_tag n bytes (length_stamp_bytes a.row.now)))
