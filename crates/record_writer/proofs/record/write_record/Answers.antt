-- What is refused is tried first; then the fields are written one after another, with the model that is kept.
use Rattle.std.proofs.Common.{rules, arith, refl, sym, ap, ◌∙◌, ℕ}
use Rattle.rules.specs.RefusalNumbers.Entries.{write_record_entry}
use Rattle.rules.specs.Fields.{field_size}
use Rattle.rules.specs.MapRecord.{extents_length}
use Rattle.laws.specs.Checks.{passed}
use Rattle.grid_map.specs.Heads.{head_of}
use Rattle.rows.proofs.Shapes.{shape_of, width_short, width_some}
use Rattle.record_writer.proofs.Fields.{unequal, given_room, not_written, written, all_there, small}
use Rattle.record_writer.proofs.record.write_record.Goals as goal

pub returns-in_err-check : goal.returns-in_err-check
unfolding write_record_entry
returns-in_err-check g c = rw (← c.in_err-check.ensures) (search rules)

pub returns-in_default : goal.returns-in_default
unfolding write_record_entry
returns-in_default g c =
    let start = c.extents_size-model_at.ensures ∙ ap (λ (k : ℕ). field_size (extents_length k)) (sym (g.E.Axes.axes_each c.args.map.extents)) in
    rw (← c.in_ok-check.ensures, c.record_broken.ensures)
    (unequal (head_of g.E.Axes.extents g.E.Axes.model_of c.args.map) _ start c.args.odds.now c.args.out.now c.in_default.ensures)

pub row_count-count-requires : goal.row_count-count-requires
row_count-count-requires g c = record { in_bounds = (passed _ _ _ _ (sym c.in_ok-check.ensures)).extents }

pub size_if_writable-requires-clause-all_there : goal.size_if_writable-requires-clause-all_there
size_if_writable-requires-clause-all_there g c =
    let shape = shape_of refl (g.met.E.Shaped.by_rows c.args.map.extents) c.row_width-width.ensures c.row_count-count.ensures in
    all_there _ _ _ _ shape ((passed _ _ _ _ (sym c.in_ok-check.ensures)).odds_count tt)

pub size_if_writable-requires-clause-countable : goal.size_if_writable-requires-clause-countable
size_if_writable-requires-clause-countable g c =
    let p = passed _ _ _ _ (sym c.in_ok-check.ensures) in
    let shape = shape_of refl (g.met.E.Shaped.by_rows c.args.map.extents) c.row_width-width.ensures c.row_count-count.ensures in
    omega (arith, small _ _ _ shape p.extents (width_some _ _ _ shape p.extents), c.extents_size-model_at.ensures, g.E.Axes.few_axes)

pub size_if_writable-requires-clause-short : goal.size_if_writable-requires-clause-short
size_if_writable-requires-clause-short g c =
    rw c.row_width-width.ensures (width_short _ (passed _ _ _ _ (sym c.in_ok-check.ensures)).extents.0)

pub returns-in_err-size : goal.returns-in_err-size
unfolding write_record_entry
returns-in_err-size g c =
    let start = c.extents_size-model_at.ensures ∙ ap (λ (k : ℕ). field_size (extents_length k)) (sym (g.E.Axes.axes_each c.args.map.extents)) in
    let shape = shape_of refl (g.met.E.Shaped.by_rows c.args.map.extents) c.row_width-width.ensures c.row_count-count.ensures in
    let a = c.args in
    let h = head_of g.E.Axes.extents g.E.Axes.model_of a.map in
    rw (← c.in_ok-check.ensures, ← not_written h _ start a.odds.now a.out.now _ c.in-Some.ensures _ _ shape _ c.in_err-size.ensures) (search rules)

pub put_extents-requires-clause-room : goal.put_extents-requires-clause-room
put_extents-requires-clause-room g c =
    let room = given_room _ _ _ _ _ _ _ (sym c.in_ok-size.ensures) in
    omega (arith, room, c.extents_size-model_at.ensures)

pub put_extents-requires-clause-in_bounds : goal.put_extents-requires-clause-in_bounds
put_extents-requires-clause-in_bounds g c = (passed _ _ _ _ (sym c.in_ok-check.ensures)).extents.0

pub put_rest-requires-clause-room : goal.put_rest-requires-clause-room
put_rest-requires-clause-room g c =
    let room = given_room _ _ _ _ _ _ _ (sym c.in_ok-size.ensures) in
    omega (arith, room, c.put_extents.auto.out)

pub put_rest-requires-clause-all_there : goal.put_rest-requires-clause-all_there
put_rest-requires-clause-all_there g c =
    let shape = shape_of refl (g.met.E.Shaped.by_rows c.args.map.extents) c.row_width-width.ensures c.row_count-count.ensures in
    all_there _ _ _ _ shape ((passed _ _ _ _ (sym c.in_ok-check.ensures)).odds_count tt)

pub put_rest-requires-clause-short : goal.put_rest-requires-clause-short
put_rest-requires-clause-short g c =
    rw c.row_width-width.ensures (width_short _ (passed _ _ _ _ (sym c.in_ok-check.ensures)).extents.0)

pub returns : goal.returns
unfolding write_record_entry
returns g c =
    let start = c.extents_size-model_at.ensures ∙ ap (λ (k : ℕ). field_size (extents_length k)) (sym (g.E.Axes.axes_each c.args.map.extents)) in
    let shape = shape_of refl (g.met.E.Shaped.by_rows c.args.map.extents) c.row_width-width.ensures c.row_count-count.ensures in
    let there = all_there _ _ _ _ shape ((passed _ _ _ _ (sym c.in_ok-check.ensures)).odds_count tt) in
    let a = c.args in
    let h = head_of g.E.Axes.extents g.E.Axes.model_of a.map in
    rw (← c.in_ok-check.ensures)
    (written h _ start a.odds.now a.out.now _ c.in-Some.ensures _ _ shape _ _ _ there c.in_ok-size.ensures c.put_extents.ensures c.put_rest.ensures)
