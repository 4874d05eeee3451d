-- The whole record is tried first; of a sound one its sweep and its pairs decide, then the room, and then its pieces are
-- copied.
use Rattle.std.proofs.Common.{rules, arith, sym, ◌∙◌}
use Rattle.rules.specs.RefusalNumbers.Editions.{downgrade_entry}
use Rattle.rules.specs.EditionTwo.{cuts_for}
use Rattle.record_laws.specs.Words.{AreBytes}
use Rattle.rows.proofs.Answers.{refused_as}
use Rattle.edition_reader.proofs.Sounds.{sound}
use Rattle.edition_reader.proofs.Steps.{bands_some}
use Rattle.editions.proofs.Pieces.{some_axes}
use Rattle.editions.proofs.MovedBack.{still_open, uneven, too_small, moved, even_as}
use Rattle.editions.proofs.down.downgrade_record.Goals.{then-is_open_at-via-then-is_open_at, then-is_open_at-via-else-is_open_at+then-is_none}
use Rattle.editions.proofs.down.downgrade_record.Goals as goal

pub returns-in_err-edition_check : goal.returns-in_err-edition_check
unfolding downgrade_entry
returns-in_err-edition_check g c = rw (refused_as _ _ (sym c.in_err-edition_check.ensures)) (search rules)

pub extents_field_at-extents-requires : goal.extents_field_at-extents-requires
extents_field_at-extents-requires g c =
    let room = (sound g.E.Axes.AXES c.args.bytes.now (sym c.in_ok-edition_check.ensures)).room in
    record { whole = omega arith }

pub overflow_add-frame : goal.overflow_add-frame
overflow_add-frame g c =
    let room = (sound g.E.Axes.AXES c.args.bytes.now (sym c.in_ok-edition_check.ensures)).room in
    omega (arith, room, c.extents_size-first.ensures, c.bands_size.ensures)

pub bands_at-model-requires : goal.bands_at-model-requires
bands_at-model-requires g c =
    let room = (sound g.E.Axes.AXES c.args.bytes.now (sym c.in_ok-edition_check.ensures)).room in
    record { whole = omega (arith, room, c.extents_size-first.ensures) }

pub overflow_add-frame-2 : goal.overflow_add-frame-2
overflow_add-frame-2 g c =
    let room = (sound g.E.Axes.AXES c.args.bytes.now (sym c.in_ok-edition_check.ensures)).room in
    omega (arith, room, c.extents_size-first.ensures, c.bands_size.ensures)

pub is_open_at-requires : goal.is_open_at-requires
is_open_at-requires g c =
    let room = (sound g.E.Axes.AXES c.args.bytes.now (sym c.in_ok-edition_check.ensures)).room in
    record { whole = omega (arith, room, c.extents_size-first.ensures, c.bands_size.ensures) }

pub returns-then-is_open_at : goal.returns-then-is_open_at
returns-then-is_open_at g c =
    let a = c.args in
    let t = sound g.E.Axes.AXES a.bytes.now (sym c.in_ok-edition_check.ensures) in
    let e = c.extents_field_at-extents.result in
    let held = c.extents_field_at-extents.ensures in
    let some = some_axes _ _ (g.E.Axes.axes_each e) (g.met.E.Shaped.by_rows e) (rw held t.extents_fit) in
    let laid = rw (c.extents_size-first.ensures, held) at (c.bands_at-model.ensures e) in
    let running = sym (rw (c.extents_size-first.ensures, c.bands_size.ensures) at c.is_open_at.ensures) in
    elim c.then-is_open_at.branch [
      | then-is_open_at-via-then-is_open_at w ↦ still_open _ _ _ t some (running ∙ w.if-is_open_at.true)
      | then-is_open_at-via-else-is_open_at+then-is_none w ↦
          uneven _ _ _ t some (running ∙ w.if-is_open_at.false) _ laid (even_as w.one_model.result _ w.one_model.ensures ∙ w.if-is_none.ensures)
    ]

pub overflow_sub-size : goal.overflow_sub-size
overflow_sub-size g c =
    let room = (sound g.E.Axes.AXES c.args.bytes.now (sym c.in_ok-edition_check.ensures)).room in
    omega (arith, room, c.more.ensures)

pub returns-then-out-size : goal.returns-then-out-size
returns-then-out-size g c =
    let a = c.args in
    let t = sound g.E.Axes.AXES a.bytes.now (sym c.in_ok-edition_check.ensures) in
    let e = c.extents_field_at-extents.result in
    let held = c.extents_field_at-extents.ensures in
    let some = some_axes _ _ (g.E.Axes.axes_each e) (g.met.E.Shaped.by_rows e) (rw held t.extents_fit) in
    let laid = rw (c.extents_size-first.ensures, held) at (c.bands_at-model.ensures e) in
    let running = sym (rw (c.extents_size-first.ensures, c.bands_size.ensures) at c.is_open_at.ensures) in
    let even = even_as c.one_model.result _ c.one_model.ensures ∙ c.if-is_none.ensures in
    too_small _ _ _ t some (running ∙ c.if-is_open_at.false) _ laid even _ c.more.ensures c.if-out-size.true

pub put_back-requires-clause-before : goal.put_back-requires-clause-before
put_back-requires-clause-before g c = omega (arith, c.bands_size.ensures, bands_some (cuts_for g.E.Axes.AXES))

pub put_back-requires-clause-all_there : goal.put_back-requires-clause-all_there
put_back-requires-clause-all_there g c =
    let room = (sound g.E.Axes.AXES c.args.bytes.now (sym c.in_ok-edition_check.ensures)).room in
    omega (arith, room, c.extents_size-first.ensures, c.bands_size.ensures)

pub put_back-requires-clause-room : goal.put_back-requires-clause-room
put_back-requires-clause-room g c =
    let room = (sound g.E.Axes.AXES c.args.bytes.now (sym c.in_ok-edition_check.ensures)).room in
    omega (arith, room, c.extents_size-first.ensures, c.bands_size.ensures, c.more.ensures)

pub returns : goal.returns
returns g c =
    let a = c.args in
    let t = sound g.E.Axes.AXES a.bytes.now (sym c.in_ok-edition_check.ensures) in
    let e = c.extents_field_at-extents.result in
    let held = c.extents_field_at-extents.ensures in
    let some = some_axes _ _ (g.E.Axes.axes_each e) (g.met.E.Shaped.by_rows e) (rw held t.extents_fit) in
    let laid = rw (c.extents_size-first.ensures, held) at (c.bands_at-model.ensures e) in
    let running = sym (rw (c.extents_size-first.ensures, c.bands_size.ensures) at c.is_open_at.ensures) in
    let even = even_as c.one_model.result _ c.one_model.ensures ∙ c.if-is_none.ensures in
    let bytes : AreBytes a.bytes.now = λ i l. let below = c.type_inv.bytes i in omega arith in
    let closed = running ∙ c.if-is_open_at.false in
    rw c.moved.ensures
    (moved _ _ _ t some closed _ laid even _ c.more.ensures _ _ c.extents_size-first.ensures c.bands_size.ensures c.if-out-size.false bytes _ c.put_back.ensures)
