-- Each band has the model's pair.
use mathlib.Core.Path.{refl}
use Rattle.rules.specs.MapRecord.{bands_from}
use Rattle.record_reader.proofs.reads.Extents3Reads.alike.Goals as goal

pub returns : goal.returns
unfolding bands_from
returns c = λ e. refl
