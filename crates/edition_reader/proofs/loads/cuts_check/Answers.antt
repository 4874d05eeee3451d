-- The field first, then what it and the pairs before it hold.
use Rattle.std.proofs.Common.{arith, sym, ap, ◌∙◌, ◌+◌}
use mathlib.Core.Option.{some}
use Rattle.rules.specs.EditionTwo.{cuts_tag, cuts_length, bands_size, cuts_for}
use Rattle.types.specs.Points.{extents3}
use Rattle.fields.proofs.Bytes.{whole-at}
use Rattle.edition_reader.specs.Editions.{cuts_at}
use Rattle.edition_reader.proofs.Steps.{cuts_absent, cuts_off, cuts_sound}
use Rattle.edition_reader.proofs.loads.cuts_check.Goals as goal

pub returns-then-not-field_here : goal.returns-then-not-field_here
returns-then-not-field_here c =
    ap some c.record_broken.ensures ∙ sym (cuts_absent (extents3 c.args.e) c.args.at c.args.bytes.now (sym c.field_here.ensures ∙ c.if-not-field_here.true))

pub bands_at-requires : goal.bands_at-requires
unfolding bands_size cuts_for
bands_at-requires c =
    let w = whole-at cuts_tag (cuts_length 2) (c.args.at + cuts_at 2) c.args.bytes.now (sym c.field_here.ensures ∙ c.if-not-field_here.false) in
    record { whole = omega arith }

pub returns-then-cuts_in_bounds : goal.returns-then-cuts_in_bounds
unfolding cuts_for
returns-then-cuts_in_bounds c = let a = c.args in
    let here = sym c.field_here.ensures ∙ c.if-not-field_here.false in
    sym (cuts_sound (extents3 a.e) a.at a.bytes.now _ (c.bands_at.ensures a.e) here (sym c.cuts_in_bounds.ensures ∙ c.if-cuts_in_bounds.true))

pub returns : goal.returns
unfolding cuts_for
returns c = let a = c.args in
    let here = sym c.field_here.ensures ∙ c.if-not-field_here.false in
    ap some c.record_broken-2.ensures
    ∙ sym (cuts_off (extents3 a.e) a.at a.bytes.now _ (c.bands_at.ensures a.e) here (sym c.cuts_in_bounds.ensures ∙ c.if-cuts_in_bounds.false))
