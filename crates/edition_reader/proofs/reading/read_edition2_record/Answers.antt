-- The whole record is tried first; of a sound one the lists decide, and then they are filled.
use Rattle.std.proofs.Common.{rules, arith, sym, ap, ◌∙◌}
use Rattle.rules.specs.RefusalNumbers.Editions.{read_edition_entry}
use Rattle.rules.specs.TheGridAndItsBounds.{cells}
use Rattle.rows.proofs.Answers.{refused_as}
use Rattle.rows.proofs.Shapes.{shape_of}
use Rattle.edition_reader.proofs.Sounds.{sound}
use Rattle.edition_reader.proofs.Taken.{lists_wrong, all_read, rows_fit}
use Rattle.edition_reader.proofs.reading.read_edition2_record.Goals as goal

pub returns-in_err-edition_check : goal.returns-in_err-edition_check
unfolding read_edition_entry
returns-in_err-edition_check g c = rw (refused_as _ _ (sym c.in_err-edition_check.ensures)) (search rules)

pub extents_field_at-extents-requires : goal.extents_field_at-extents-requires
extents_field_at-extents-requires g c =
    let room = (sound g.E.Axes.AXES c.args.bytes.now (sym c.in_ok-edition_check.ensures)).room in
    record { whole = omega arith }

pub cells-cells-requires : goal.cells-cells-requires
cells-cells-requires g c = rw c.extents_field_at-extents.ensures (sound g.E.Axes.AXES c.args.bytes.now (sym c.in_ok-edition_check.ensures)).extents_fit

pub returns-then-odds-cells : goal.returns-then-odds-cells
returns-then-odds-cells g c =
    let s = sound g.E.Axes.AXES c.args.bytes.now (sym c.in_ok-edition_check.ensures) in
    lists_wrong _ _ s c.args.odds.now c.args.stamps.now _ (c.cells-cells.ensures ∙ ap cells c.extents_field_at-extents.ensures) c.then-odds-cells.either

pub row_count-count-requires : goal.row_count-count-requires
row_count-count-requires g c =
    record { in_bounds = rw c.extents_field_at-extents.ensures (sound g.E.Axes.AXES c.args.bytes.now (sym c.in_ok-edition_check.ensures)).extents_fit }

pub overflow_add-frame : goal.overflow_add-frame
overflow_add-frame g c =
    let room = (sound g.E.Axes.AXES c.args.bytes.now (sym c.in_ok-edition_check.ensures)).room in
    omega (arith, room, c.extents_size-bands.ensures, c.bands_size.ensures)

pub overflow_add-frame-2 : goal.overflow_add-frame-2
overflow_add-frame-2 g c =
    let room = (sound g.E.Axes.AXES c.args.bytes.now (sym c.in_ok-edition_check.ensures)).room in
    omega (arith, room, c.extents_size-bands.ensures, c.bands_size.ensures)

pub read_grid-running-requires-clause-whole : goal.read_grid-running-requires-clause-whole
read_grid-running-requires-clause-whole g c =
    let s = sound g.E.Axes.AXES c.args.bytes.now (sym c.in_ok-edition_check.ensures) in
    let shape = shape_of c.extents_field_at-extents.ensures (g.met.E.Shaped.by_rows _) c.row_width-width.ensures c.row_count-count.ensures in
    rw (c.extents_size-bands.ensures, c.bands_size.ensures) (rows_fit _ _ s _ _ shape)

pub bands_at-requires : goal.bands_at-requires
bands_at-requires g c =
    let room = (sound g.E.Axes.AXES c.args.bytes.now (sym c.in_ok-edition_check.ensures)).room in
    record { whole = omega (arith, room, c.extents_size-bands.ensures) }

pub frame_field_at-requires : goal.frame_field_at-requires
frame_field_at-requires g c =
    let room = (sound g.E.Axes.AXES c.args.bytes.now (sym c.in_ok-edition_check.ensures)).room in
    record { whole = omega (arith, room, c.extents_size-bands.ensures, c.bands_size.ensures) }

pub returns : goal.returns
returns g c =
    let a = c.args in
    let s = sound g.E.Axes.AXES a.bytes.now (sym c.in_ok-edition_check.ensures) in
    let e = c.extents_field_at-extents.ensures in
    let shape = shape_of e (g.met.E.Shaped.by_rows _) c.row_width-width.ensures c.row_count-count.ensures in
    all_read _ _ s _ _ shape a.odds.now a.stamps.now _ (c.cells-cells.ensures ∙ ap cells e) _ _ _ _ _ c.if-odds-cells.false c.if-stamps-cells.false
    e
    (rw (c.extents_size-bands.ensures, e) at (c.bands_at.ensures c.extents_field_at-extents.result))
    (rw (c.extents_size-bands.ensures, c.bands_size.ensures) at c.frame_field_at.ensures)
    (rw (c.extents_size-bands.ensures, c.bands_size.ensures) at c.read_grid-running.ensures.running)
    (rw (c.extents_size-bands.ensures, c.bands_size.ensures) at c.read_grid-running.ensures.lists)
