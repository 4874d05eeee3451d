-- The field first, then its byte.
use Rattle.std.proofs.Common.{arith, sym, ap, ◌∙◌, eqb}
use Rattle.rules.specs.EditionTwo.{edition_tag, byte_length}
use Rattle.fields.proofs.Bytes.{whole-at}
use Rattle.edition_reader.proofs.OneByte.{byte_at}
use Rattle.edition_reader.proofs.parts.edition_sound.Goals as goal

pub overflow_add-result : goal.overflow_add-result
overflow_add-result c = let w = whole-at edition_tag byte_length c.args.at c.args.bytes.now (sym c.field_here.ensures ∙ c.if-field_here.true) in
    omega arith

pub bounds-bytes-at : goal.bounds-bytes-at
bounds-bytes-at c = let w = whole-at edition_tag byte_length c.args.at c.args.bytes.now (sym c.field_here.ensures ∙ c.if-field_here.true) in
    omega arith

pub returns-then-field_here : goal.returns-then-field_here
returns-then-field_here c = rw (sym c.field_here.ensures ∙ c.if-field_here.true) (ap (λ n. eqb n 2) (sym (byte_at c.args.at c.args.bytes.now)))
