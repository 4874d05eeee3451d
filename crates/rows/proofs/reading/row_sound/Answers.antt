-- The field first, then its floats.
use mathlib.Core.Path.{sym, ◌∙◌}
use native.Mathlib.Omega.{arith}
use lib.Seq.{drop-drop}
use Rattle.rules.specs.Fields.{head_size}
use Rattle.rules.specs.MapRecord.{row_tag, row_length}
use Rattle.fields.proofs.Bytes.{whole-at}
use Rattle.rows.proofs.reading.row_sound.Goals as goal

pub overflow_add-at : goal.overflow_add-at
overflow_add-at c = let a = c.args in
    let w = whole-at row_tag (row_length a.width) a.at a.bytes.now (sym c.field_here.ensures ∙ c.if-field_here.true) in
    omega arith

pub row_in_bounds-requires : goal.row_in_bounds-requires
row_in_bounds-requires c = let a = c.args in
    let w = whole-at row_tag (row_length a.width) a.at a.bytes.now (sym c.field_here.ensures ∙ c.if-field_here.true) in
    record { whole = omega arith }

pub returns-then-field_here : goal.returns-then-field_here
returns-then-field_here c = let a = c.args in
    rw (sym c.field_here.ensures ∙ c.if-field_here.true, drop-drop head_size a.at a.bytes.now) c.row_in_bounds.ensures
