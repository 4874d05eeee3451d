-- The field first, then its stamps.
use mathlib.Core.Path.{sym, ◌∙◌}
use native.Mathlib.Omega.{arith}
use lib.Seq.{drop-drop}
use Rattle.rules.specs.Fields.{head_size}
use Rattle.rules.specs.EditionTwo.{stamps_tag, stamps_length}
use Rattle.fields.proofs.Bytes.{whole-at}
use Rattle.open_rows.proofs.stamps.stamps_sound.Goals as goal

pub overflow_add-at : goal.overflow_add-at
overflow_add-at c = let a = c.args in
    let w = whole-at stamps_tag (stamps_length a.width) a.at a.bytes.now (sym c.field_here.ensures ∙ c.if-field_here.true) in
    omega arith

pub row_not_above-requires : goal.row_not_above-requires
row_not_above-requires c = let a = c.args in
    let w = whole-at stamps_tag (stamps_length a.width) a.at a.bytes.now (sym c.field_here.ensures ∙ c.if-field_here.true) in
    record { whole = omega arith }

pub returns-then-field_here : goal.returns-then-field_here
returns-then-field_here c = let a = c.args in
    rw (sym c.field_here.ensures ∙ c.if-field_here.true, drop-drop head_size a.at a.bytes.now) c.row_not_above.ensures
