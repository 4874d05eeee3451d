-- The byte behind the field's head.
use mathlib.Core.Path.{sym, ap}
use Rattle.rules.specs.EditionTwo.{marks_running}
use Rattle.edition_reader.proofs.OneByte.{byte_at}
use Rattle.edition_reader.proofs.parts.is_open_at.Goals as goal

pub returns : goal.returns
returns c = ap marks_running (sym (byte_at c.args.at c.args.bytes.now))
