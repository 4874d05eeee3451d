-- What is refused is tried first; then the fields are written one after another.
use Rattle.std.proofs.Common.{rules, arith, refl, sym, ap, ◌∙◌, ℕ}
use Rattle.rules.specs.RefusalNumbers.Editions.{write_edition_entry}
use Rattle.rules.specs.Fields.{field_size}
use Rattle.rules.specs.TheGridAndItsBounds.{Model}
use Rattle.rules.specs.MapRecord.{extents_length}
use Rattle.laws.specs.Checks.{passed}
use Rattle.grid_map.specs.Heads.{head_of}
use Rattle.rows.proofs.Shapes.{shape_of, width_short, width_some}
use Rattle.edition_writer.proofs.Rows.{ready, countable, bands_few}
use Rattle.edition_writer.proofs.Fields.{laid_of, given_room, not_written, written}
use Rattle.edition_writer.proofs.record.write_edition2_record.Goals as goal

pub returns-in_err-check : goal.returns-in_err-check
unfolding write_edition_entry
returns-in_err-check g c = rw (← c.in_err-check.ensures) (search rules)

pub overflow_add-frame_at : goal.overflow_add-frame_at
overflow_add-frame_at g c = omega (arith, c.extents_size-bands_at.ensures, g.E.Axes.few_axes, c.bands_size.ensures, bands_few g.E.Axes.AXES)

pub overflow_add-rows_at : goal.overflow_add-rows_at
overflow_add-rows_at g c = omega (arith, c.extents_size-bands_at.ensures, g.E.Axes.few_axes, c.bands_size.ensures, bands_few g.E.Axes.AXES)

pub overflow_add-rows_at-2 : goal.overflow_add-rows_at-2
overflow_add-rows_at-2 g c = omega (arith, c.extents_size-bands_at.ensures, g.E.Axes.few_axes, c.bands_size.ensures, bands_few g.E.Axes.AXES)

pub row_count-requires : goal.row_count-requires
row_count-requires g c = record { in_bounds = (passed _ _ _ _ (sym c.in_ok-check.ensures)).extents }

pub invariant_of-rows : goal.invariant_of-rows
invariant_of-rows g c =
    let shape = shape_of refl (g.met.E.Shaped.by_rows c.args.map.extents) c.row_width.ensures c.row_count.ensures in
    let p = ready _ _ _ _ _ _ shape (sym c.in_ok-check.ensures) in
    record { all_there = p.there; marked = p.marked; short = rw c.row_width.ensures (width_short _ p.extents.0) }

pub size_if_writable-requires : goal.size_if_writable-requires
size_if_writable-requires g c =
    let shape = shape_of refl (g.met.E.Shaped.by_rows c.args.map.extents) c.row_width.ensures c.row_count.ensures in
    let bounds = (passed _ _ _ _ (sym c.in_ok-check.ensures)).extents in
    let few = countable c.args.running _ _ _ shape bounds (width_some _ _ _ shape bounds) in
    record { countable = omega (arith, few, c.extents_size-bands_at.ensures, g.E.Axes.few_axes, c.bands_size.ensures, bands_few g.E.Axes.AXES) }

pub returns-in_err-size : goal.returns-in_err-size
unfolding write_edition_entry
returns-in_err-size g c =
    let h = head_of g.E.Axes.extents g.E.Axes.model_of c.args.map in
    let start = c.extents_size-bands_at.ensures ∙ ap (λ (k : ℕ). field_size (extents_length k)) (sym (g.E.Axes.axes_each c.args.map.extents)) in
    let shape = shape_of refl (g.met.E.Shaped.by_rows c.args.map.extents) c.row_width.ensures c.row_count.ensures in
    let laid = laid_of h _ _ (g.E.Axes.axes_each c.args.map.extents) (g.met.E.Stores.bands_each c.args.map.extents c.args.map.model) c.bands_size.ensures in
    let a = c.args in
    rw (← c.in_ok-check.ensures, ← not_written h a.running _ (sym (ap (λ (m : Model). m.ceiling) c.lowest.ensures)) a.odds.now a.stamps.now a.out.now _ _ _ _ shape start laid _ c.in_err-size.ensures) (search rules)

pub put_edition-requires : goal.put_edition-requires
put_edition-requires g c =
    let room = given_room _ _ _ _ _ _ _ _ _ (sym c.in_ok-size.ensures) in
    record { room = omega arith }

pub put_extents-requires-clause-room : goal.put_extents-requires-clause-room
put_extents-requires-clause-room g c =
    let room = given_room _ _ _ _ _ _ _ _ _ (sym c.in_ok-size.ensures) in
    omega (arith, room, c.put_edition.auto.out, c.extents_size-bands_at.ensures)

pub put_extents-requires-clause-in_bounds : goal.put_extents-requires-clause-in_bounds
put_extents-requires-clause-in_bounds g c = (passed _ _ _ _ (sym c.in_ok-check.ensures)).extents.0

pub put_bands-requires-clause-room : goal.put_bands-requires-clause-room
put_bands-requires-clause-room g c =
    let room = given_room _ _ _ _ _ _ _ _ _ (sym c.in_ok-size.ensures) in
    omega (arith, room, c.put_edition.auto.out, c.put_extents.auto.out, c.bands_size.ensures)

pub put_bands-requires-clause-in_bounds : goal.put_bands-requires-clause-in_bounds
put_bands-requires-clause-in_bounds g c = (passed _ _ _ _ (sym c.in_ok-check.ensures)).extents

pub put_bands-requires-clause-cuts : goal.put_bands-requires-clause-cuts
put_bands-requires-clause-cuts g c = (passed _ _ _ _ (sym c.in_ok-check.ensures)).cuts tt

pub put_rest-requires : goal.put_rest-requires
put_rest-requires g c =
    let room = given_room _ _ _ _ _ _ _ _ _ (sym c.in_ok-size.ensures) in
    record { room = omega (arith, room, c.put_edition.auto.out, c.put_extents.auto.out, c.put_bands.auto.out) }

pub returns : goal.returns
unfolding write_edition_entry
returns g c =
    let h = head_of g.E.Axes.extents g.E.Axes.model_of c.args.map in
    let start = c.extents_size-bands_at.ensures ∙ ap (λ (k : ℕ). field_size (extents_length k)) (sym (g.E.Axes.axes_each c.args.map.extents)) in
    let shape = shape_of refl (g.met.E.Shaped.by_rows c.args.map.extents) c.row_width.ensures c.row_count.ensures in
    let laid = laid_of h _ _ (g.E.Axes.axes_each c.args.map.extents) (g.met.E.Stores.bands_each c.args.map.extents c.args.map.model) c.bands_size.ensures in
    let p = ready _ _ _ _ _ _ shape (sym c.in_ok-check.ensures) in
    let a = c.args in
    rw (← c.in_ok-check.ensures)
    (written h a.running _ (sym (ap (λ (m : Model). m.ceiling) c.lowest.ensures)) a.odds.now a.stamps.now a.out.now _ _ _ _ shape start laid _ _ _ _ _ p.there p.marked c.in_ok-size.ensures
    c.put_edition.ensures c.put_extents.ensures c.put_bands.ensures c.put_rest.ensures)
