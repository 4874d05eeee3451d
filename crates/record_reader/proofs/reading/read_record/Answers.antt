-- The whole record is tried first; of a sound one the cuts decide, then the lists, and then they are filled.
use Rattle.std.proofs.Common.{rules, arith, sym, ap, ◌∙◌}
use native.Mathlib.Nat.{mul_comm}
use Rattle.rules.specs.RefusalNumbers.Entries.{read_record_entry}
use Rattle.rules.specs.TheGridAndItsBounds.{cells}
use Rattle.rows.proofs.Answers.{refused_as}
use Rattle.rows.proofs.Shapes.{shape_of}
use Rattle.record_reader.proofs.Sound.{sound}
use Rattle.record_reader.proofs.Taken.{head-fits, laid_found, laid_fits, cuts_wrong, lists_wrong, rows_fit, all_read}
use Rattle.record_reader.proofs.reading.read_record.Goals as goal

pub returns-in_err-record_check : goal.returns-in_err-record_check
unfolding read_record_entry
returns-in_err-record_check g c = rw (refused_as _ _ (sym c.in_err-record_check.ensures)) (search rules)

pub extents_field_at-extents-requires : goal.extents_field_at-extents-requires
extents_field_at-extents-requires g c =
    let fits = head-fits g.E.Axes.AXES c.args.bytes.now (sound _ _ (sym c.in_ok-record_check.ensures)) in
    record { whole = omega arith }

pub model_field_at-requires : goal.model_field_at-requires
model_field_at-requires g c =
    let fits = head-fits g.E.Axes.AXES c.args.bytes.now (sound _ _ (sym c.in_ok-record_check.ensures)) in
    record { whole = omega (arith, fits, c.extents_size-model_at.ensures) }

pub returns-then-not-cuts_bounded : goal.returns-then-not-cuts_bounded
returns-then-not-cuts_bounded g c =
    let a = c.args in
    let start = c.extents_size-model_at.ensures in
    let e = c.extents_field_at-extents.ensures in
    let laid = c.alike-model.ensures c.extents_field_at-extents.result in
    let fit = laid_fits g.E.Axes.AXES a.bytes.now (g.E.Reads.cuts_of a.cuts) start e c.model_field_at.ensures laid _ c.if-not-cuts_bounded.ensures in
    cuts_wrong _ _ (sound _ _ (sym c.in_ok-record_check.ensures)) _ a.odds.now a.stamps.now fit

pub cells-cells-requires : goal.cells-cells-requires
cells-cells-requires g c = rw c.extents_field_at-extents.ensures (sound g.E.Axes.AXES c.args.bytes.now (sym c.in_ok-record_check.ensures)).extents

pub returns-then-odds-cells : goal.returns-then-odds-cells
returns-then-odds-cells g c =
    let a = c.args in
    let e = c.extents_field_at-extents.ensures in
    let start = c.extents_size-model_at.ensures in
    let laid = c.alike-model.ensures c.extents_field_at-extents.result in
    let fit = laid_fits g.E.Axes.AXES a.bytes.now (g.E.Reads.cuts_of a.cuts) start e c.model_field_at.ensures laid _ c.if-not-cuts_bounded.ensures in
    lists_wrong _ _ (sound _ _ (sym c.in_ok-record_check.ensures)) _ a.odds.now a.stamps.now fit _ (c.cells-cells.ensures ∙ ap cells e) c.then-odds-cells.either

pub row_count-count-requires : goal.row_count-count-requires
row_count-count-requires g c =
    record { in_bounds = rw c.extents_field_at-extents.ensures (sound g.E.Axes.AXES c.args.bytes.now (sym c.in_ok-record_check.ensures)).extents }

pub read_rows-requires-clause-whole : goal.read_rows-requires-clause-whole
read_rows-requires-clause-whole g c =
    let shape = shape_of c.extents_field_at-extents.ensures (g.met.E.Shaped.by_rows _) c.row_width-width.ensures c.row_count-count.ensures in
    rw c.extents_size-model_at.ensures (rows_fit _ _ (sound _ _ (sym c.in_ok-record_check.ensures)) _ _ shape)

pub read_rows-requires-clause-room : goal.read_rows-requires-clause-room
read_rows-requires-clause-room g c =
    let by_rows = rw (sym c.row_width-width.ensures, sym c.row_count-count.ensures) at (g.met.E.Shaped.by_rows c.extents_field_at-extents.result) in
    omega (arith, by_rows, c.cells-cells.ensures, c.if-odds-cells.false, mul_comm c.row_width-width.result c.row_count-count.result)

pub frame_field_at-requires : goal.frame_field_at-requires
frame_field_at-requires g c =
    let fits = head-fits g.E.Axes.AXES c.args.bytes.now (sound _ _ (sym c.in_ok-record_check.ensures)) in
    record { whole = omega (arith, fits, c.extents_size-model_at.ensures) }

pub returns : goal.returns
returns g c =
    let a = c.args in
    let e = c.extents_field_at-extents.ensures in
    let start = c.extents_size-model_at.ensures in
    let laid = laid_found g.E.Axes.AXES a.bytes.now (g.E.Reads.cuts_of a.cuts) start e c.model_field_at.ensures (c.alike-model.ensures _) in
    let fit = laid_fits g.E.Axes.AXES a.bytes.now (g.E.Reads.cuts_of a.cuts) start e c.model_field_at.ensures (c.alike-model.ensures _) _ c.if-not-cuts_bounded.ensures in
    let shape = shape_of e (g.met.E.Shaped.by_rows _) c.row_width-width.ensures c.row_count-count.ensures in
    all_read _ _ (sound _ _ (sym c.in_ok-record_check.ensures)) _ a.odds.now a.stamps.now fit _ (c.cells-cells.ensures ∙ ap cells e) _ _ shape _ _ _ _ _
    c.if-odds-cells.false c.if-stamps-cells.false e laid (rw start at c.frame_field_at.ensures) (rw start at c.read_rows.ensures) c.clear_stamps.ensures
