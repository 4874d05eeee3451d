-- Each pair is tried where the one before it ends, then the cuts.
use Rattle.std.proofs.Common.{arith, sym, ap, ◌∙◌, ◌+◌}
use mathlib.Core.Option.{some}
use Rattle.rules.specs.TheGridAndItsBounds.{Model}
use Rattle.rules.specs.Fields.{field_size}
use Rattle.rules.specs.MapRecord.{model_tag, model_length}
use Rattle.rules.specs.EditionTwo.{cuts_for}
use Rattle.types.specs.Points.{extents3}
use Rattle.fields.proofs.Bytes.{whole-at, both_l}
use Rattle.edition_reader.proofs.Steps.{low_off, middle_off, high_off, cuts_next}
use Rattle.edition_reader.proofs.loads.Extents3Loads.bands_check.Goals as goal

pub returns-then-not-model_sound : goal.returns-then-not-model_sound
unfolding cuts_for
returns-then-not-model_sound c =
    ap some c.record_broken.ensures ∙ sym (low_off (extents3 c.args.self) c.args.at c.args.bytes.now (sym c.model_sound.ensures ∙ c.if-not-model_sound.true))

pub model_field_at-low-requires : goal.model_field_at-low-requires
model_field_at-low-requires c = let a = c.args in
    let w = whole-at model_tag model_length a.at a.bytes.now (both_l _ _ (sym c.model_sound.ensures ∙ c.if-not-model_sound.false)) in
    record { whole = omega arith }

pub overflow_add-middle : goal.overflow_add-middle
overflow_add-middle c = let a = c.args in
    let w = whole-at model_tag model_length a.at a.bytes.now (both_l _ _ (sym c.model_sound.ensures ∙ c.if-not-model_sound.false)) in
    omega arith

pub returns-then-not-pair_sound : goal.returns-then-not-pair_sound
unfolding cuts_for
returns-then-not-pair_sound c = let a = c.args in
    let low = c.model_field_at-low in
    ap some c.record_broken-then-not-pair_sound.ensures
    ∙ sym (middle_off (extents3 a.self) a.at a.bytes.now low.result.ceiling (ap (λ (m : Model). m.ceiling) low.ensures)
    (sym c.model_sound.ensures ∙ c.if-not-model_sound.false) (sym c.pair_sound.ensures ∙ c.if-not-pair_sound.true))

pub overflow_add-high : goal.overflow_add-high
overflow_add-high c = let a = c.args in
    let w = whole-at model_tag model_length (a.at + field_size model_length) a.bytes.now (both_l _ _ (sym c.pair_sound.ensures ∙ c.if-not-pair_sound.false)) in
    omega arith

pub returns-then-not-pair_sound-2 : goal.returns-then-not-pair_sound-2
unfolding cuts_for
returns-then-not-pair_sound-2 c = let a = c.args in
    let low = c.model_field_at-low in
    ap some c.record_broken-then-not-pair_sound-2.ensures
    ∙ sym (high_off (extents3 a.self) a.at a.bytes.now low.result.ceiling (ap (λ (m : Model). m.ceiling) low.ensures)
    (sym c.model_sound.ensures ∙ c.if-not-model_sound.false) (sym c.pair_sound.ensures ∙ c.if-not-pair_sound.false)
    (sym c.pair_sound-2.ensures ∙ c.if-not-pair_sound-2.true))

pub cuts_check-requires : goal.cuts_check-requires
cuts_check-requires c = let a = c.args in
    let held = sym c.pair_sound-2.ensures ∙ c.if-not-pair_sound-2.false in
    let w = whole-at model_tag model_length (a.at + field_size model_length + field_size model_length) a.bytes.now (both_l _ _ held) in
    record { pairs = omega arith }

pub returns : goal.returns
unfolding cuts_for
returns c = let a = c.args in
    let low = c.model_field_at-low in
    c.cuts_check.ensures
    ∙ sym (cuts_next (extents3 a.self) a.at a.bytes.now low.result.ceiling (ap (λ (m : Model). m.ceiling) low.ensures)
    (sym c.model_sound.ensures ∙ c.if-not-model_sound.false) (sym c.pair_sound.ensures ∙ c.if-not-pair_sound.false)
    (sym c.pair_sound-2.ensures ∙ c.if-not-pair_sound-2.false))
