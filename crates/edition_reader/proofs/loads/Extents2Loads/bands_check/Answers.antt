-- One pair.
use Rattle.std.proofs.Common.{sym, ap, ◌∙◌}
use mathlib.Core.Option.{some}
use Rattle.rules.specs.EditionTwo.{cuts_for}
use Rattle.types.specs.Points.{extents2}
use Rattle.edition_reader.proofs.Steps.{pair_off, pair_on}
use Rattle.edition_reader.proofs.loads.Extents2Loads.bands_check.Goals as goal

pub returns-then-model_sound : goal.returns-then-model_sound
unfolding cuts_for
returns-then-model_sound c = sym (pair_on (extents2 c.args.self) c.args.at c.args.bytes.now (sym c.model_sound.ensures ∙ c.if-model_sound.true))

pub returns : goal.returns
unfolding cuts_for
returns c = ap some c.record_broken.ensures ∙ sym (pair_off (extents2 c.args.self) _ _ (sym c.model_sound.ensures ∙ c.if-model_sound.false))
