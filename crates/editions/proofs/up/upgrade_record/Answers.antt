-- The whole record is tried first; of a sound one the cuts decide, then the room, and then its pieces are copied.
use Rattle.std.proofs.Common.{rules, arith, sym}
use Rattle.rules.specs.RefusalNumbers.Editions.{upgrade_entry}
use Rattle.rules.specs.EditionTwo.{cuts_for}
use Rattle.record_laws.specs.Words.{AreBytes}
use Rattle.rows.proofs.Answers.{refused_as}
use Rattle.record_reader.specs.Reading.{stored_in}
use Rattle.record_reader.proofs.Sound.{sound}
use Rattle.record_reader.proofs.Taken.{head-fits, laid_found, laid_fits}
use Rattle.edition_writer.proofs.Rows.{bands_few}
use Rattle.edition_reader.proofs.Steps.{bands_some}
use Rattle.editions.proofs.Pieces.{some_axes}
use Rattle.editions.proofs.Moved.{cuts_refused}
use Rattle.editions.proofs.MovedUp.{too_small, moved}
use Rattle.editions.proofs.up.upgrade_record.Goals as goal

pub returns-in_err-record_check : goal.returns-in_err-record_check
unfolding upgrade_entry
returns-in_err-record_check g c = rw (refused_as _ _ (sym c.in_err-record_check.ensures)) (search rules)

pub extents_field_at-extents-requires : goal.extents_field_at-extents-requires
extents_field_at-extents-requires g c =
    let fits = head-fits g.E.Axes.AXES c.args.bytes.now (sound _ _ (sym c.in_ok-record_check.ensures)) in
    record { whole = omega arith }

pub model_field_at-requires : goal.model_field_at-requires
model_field_at-requires g c =
    let fits = head-fits g.E.Axes.AXES c.args.bytes.now (sound _ _ (sym c.in_ok-record_check.ensures)) in
    record { whole = omega (arith, fits, c.extents_size-model_at.ensures) }

pub returns-then-not-cuts_bounded : goal.returns-then-not-cuts_bounded
unfolding stored_in
returns-then-not-cuts_bounded g c =
    let a = c.args in
    let s = sound g.E.Axes.AXES a.bytes.now (sym c.in_ok-record_check.ensures) in
    let held = c.extents_field_at-extents.ensures in
    let laid = c.alike-model.ensures c.extents_field_at-extents.result in
    let fit = laid_fits g.E.Axes.AXES a.bytes.now (g.E.Reads.cuts_of a.cuts) c.extents_size-model_at.ensures held c.model_field_at.ensures laid _ c.if-not-cuts_bounded.ensures in
    cuts_refused _ _ a.bytes.now (stored_in _ a.bytes.now) s.is _ fit

pub overflow_add-size : goal.overflow_add-size
overflow_add-size g c = omega (arith, c.more.ensures, bands_few g.E.Axes.AXES)

pub returns-then-out-size : goal.returns-then-out-size
returns-then-out-size g c =
    let a = c.args in
    let s = sound g.E.Axes.AXES a.bytes.now (sym c.in_ok-record_check.ensures) in
    let e = c.extents_field_at-extents.result in
    let held = c.extents_field_at-extents.ensures in
    let some = some_axes _ _ (g.E.Axes.axes_each e) (g.met.E.Shaped.by_rows e) (rw held s.extents) in
    let laid = c.alike-model.ensures e in
    let fit = laid_fits g.E.Axes.AXES a.bytes.now (g.E.Reads.cuts_of a.cuts) c.extents_size-model_at.ensures held c.model_field_at.ensures laid _ c.if-not-cuts_bounded.ensures in
    too_small _ _ _ _ s some fit _ c.more.ensures c.if-out-size.true

pub put_start-requires-clause-room : goal.put_start-requires-clause-room
put_start-requires-clause-room g c =
    let fits = head-fits g.E.Axes.AXES c.args.bytes.now (sound _ _ (sym c.in_ok-record_check.ensures)) in
    omega (arith, fits, c.extents_size-model_at.ensures, c.more.ensures, bands_some (cuts_for g.E.Axes.AXES))

pub put_start-requires-clause-all_there : goal.put_start-requires-clause-all_there
put_start-requires-clause-all_there g c =
    let fits = head-fits g.E.Axes.AXES c.args.bytes.now (sound _ _ (sym c.in_ok-record_check.ensures)) in
    omega (arith, fits, c.extents_size-model_at.ensures)

pub put_bands-requires-clause-room : goal.put_bands-requires-clause-room
put_bands-requires-clause-room g c =
    let fits = head-fits g.E.Axes.AXES c.args.bytes.now (sound _ _ (sym c.in_ok-record_check.ensures)) in
    omega (arith, fits, c.extents_size-model_at.ensures, c.more.ensures, c.put_start.auto.out)

pub put_bands-requires-clause-in_bounds : goal.put_bands-requires-clause-in_bounds
put_bands-requires-clause-in_bounds g c = rw c.extents_field_at-extents.ensures (sound g.E.Axes.AXES c.args.bytes.now (sym c.in_ok-record_check.ensures)).extents

pub put_rest-requires-clause-room : goal.put_rest-requires-clause-room
put_rest-requires-clause-room g c =
    let fits = head-fits g.E.Axes.AXES c.args.bytes.now (sound _ _ (sym c.in_ok-record_check.ensures)) in
    omega (arith, fits, c.extents_size-model_at.ensures, c.more.ensures, c.bands_size.ensures, c.put_start.auto.out, c.put_bands.auto.out)

pub put_rest-requires-clause-all_there : goal.put_rest-requires-clause-all_there
put_rest-requires-clause-all_there g c =
    let fits = head-fits g.E.Axes.AXES c.args.bytes.now (sound _ _ (sym c.in_ok-record_check.ensures)) in
    omega (arith, fits, c.extents_size-model_at.ensures)

pub returns : goal.returns
returns g c =
    let a = c.args in
    let s = sound g.E.Axes.AXES a.bytes.now (sym c.in_ok-record_check.ensures) in
    let e = c.extents_field_at-extents.result in
    let held = c.extents_field_at-extents.ensures in
    let some = some_axes _ _ (g.E.Axes.axes_each e) (g.met.E.Shaped.by_rows e) (rw held s.extents) in
    let laid = c.alike-model.ensures e in
    let fit = laid_fits g.E.Axes.AXES a.bytes.now (g.E.Reads.cuts_of a.cuts) c.extents_size-model_at.ensures held c.model_field_at.ensures laid _ c.if-not-cuts_bounded.ensures in
    let found = laid_found g.E.Axes.AXES a.bytes.now (g.E.Reads.cuts_of a.cuts) c.extents_size-model_at.ensures held c.model_field_at.ensures laid in
    let bytes : AreBytes a.bytes.now = λ i l. let below = c.type_inv.bytes i in omega arith in
    moved _ _ _ _ s some fit _ c.more.ensures _ _ c.extents_size-model_at.ensures c.bands_size.ensures _ found (g.met.E.Stores.bands_each e c.alike-model.result)
    c.if-out-size.false bytes _ _ _ c.put_start.ensures c.put_bands.ensures c.put_rest.ensures
