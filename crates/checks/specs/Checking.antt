-- Checks and what an entry uses, as the rules' values; and the checks that do not depend on the axes. Definitions only.
use Rattle.std.specs.Prelude.{ℕ, Bool, eqb, Result, Ok, Err}
use Rattle.std.proofs.Math.Option.{Option, some, none}
use Rattle.rules.specs.RefusalNumbers.{Refusal, bad_model, bad_cuts, bad_buffer, bad_frame}
use Rattle.rules.specs.RefusalNumbers.Entries as Entries
use Rattle.rules.specs.RefusalNumbers.Entries.{or_else, unless_holds}
use Rattle.rules.specs.TheGridAndItsBounds as Grid
use Rattle.rules.specs.MarksAndFrames.{open_frame}
use Rattle.types.specs.Models.{model_of, bands_of}
use Rattle.types.specs.Points.{extents2, extents3}
use Rattle.types.specs.declared.points.Extents2.{Extents2}
use Rattle.types.specs.declared.points.Extents3.{Extents3}
use Rattle.types.specs.declared.model.Bands.{Bands}
use Rattle.types.specs.Refusals.{refusal_of}
use Rattle.types.specs.declared.refusal.Refusal as Code
use Rattle.types.specs.declared.frames.Frame.{Frame}
use Rattle.types.specs.declared.model.Model.{Model}
use Rattle.checks.specs.declared.uses.Uses.{Uses}

-- a head of these
abbrev pub head_of2 : Extents2 → Model → Frame → Grid.Head
head_of2 e model frame = record { extents = extents2 e; model = model_of model; frame = frame.0 }

abbrev pub head_of3 : Extents3 → Bands → Frame → Grid.Head
head_of3 e bands frame = record { extents = extents3 e; model = bands_of e bands; frame = frame.0 }

abbrev pub check_of : Result (Unit {0}) Code.Refusal → Option Refusal
check_of (Ok x) = none
check_of (Err r) = some (refusal_of r)

abbrev pub uses_of : Uses → Entries.Uses
uses_of u = record { model = u.model; odds = u.odds; stamps = u.stamps; frame = u.frame }

-- the head's checks after those of its extents, by whether its model and its cuts are within their bounds and by the
-- number of cells
unfoldable pub used_refusal : Entries.Uses → Bool → Bool → ℕ → ℕ → ℕ → ℕ → Option Refusal
used_refusal u model cuts frame cells odds stamps =
    or_else (unless_holds u.model model bad_model)
    (or_else (unless_holds u.model cuts bad_cuts)
    (or_else (unless_holds u.odds (eqb odds cells) bad_buffer)
    (or_else (unless_holds u.stamps (eqb stamps cells) bad_buffer)
    (unless_holds u.frame (open_frame frame) bad_frame))))
