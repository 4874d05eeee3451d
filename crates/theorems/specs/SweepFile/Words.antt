-- The words that the laws of the sweep file are said in, beside the rules' own and those of the map record: beams as a
-- lent list is known to hold them, and what is known of a file that was read and of a refusal. Definitions only.
use Rattle.std.specs.Prelude.{ℕ, ◌≤◌, ◌<◌, List, [], ◌∷◌, ◌≡◌, length}
use Rattle.rules.specs.RefusalNumbers.{given, refused, and_then, broken_sweep}
use Rattle.rules.specs.RefusalNumbers.Entries.{Outcome}
use Rattle.rules.specs.TheGridAndItsBounds.{Grid}
use Rattle.rules.specs.OneBeam.{Beam}
use Rattle.rules.specs.SweepFile.{Sweep, Swept, sweep_of, most_beams}
use Rattle.record_laws.specs.Words.{Are64, NoNan, FieldBegins}

-- a fact of each beam of a list
abbrev pub Every : (Beam → Type 0) → List Beam → Type 0
Every P [] = Unit {0}
Every P (b ∷ bs) = P b × Every P bs

-- a beam of so many axes, whose coordinates are values of binary64, the NaN and the infinities among them
pub record IsBeam (axes : ℕ) (b : Beam) : Type 0 where
  pub origin_axes : length b.origin ≡ axes
  pub endpoint_axes : length b.endpoint ≡ axes
  pub origin_64 : Are64 b.origin
  pub endpoint_64 : Are64 b.endpoint

-- a beam without a NaN
pub record NoNanIn (b : Beam) : Type 0 where
  pub origin : NoNan b.origin
  pub endpoint : NoNan b.endpoint

-- what can be written: the axes fit a byte, the station's number two, and the count of the beams four
pub record Writable (axes station : ℕ) (bs : List Beam) : Type 0 where
  pub axes_fit : axes < 256
  pub station_fits : station < 65_536
  pub count_fits : length bs ≤ most_beams
  pub beams_are : Every (IsBeam axes) bs

-- bytes that are a sweep file of so many axes
pub record IsSweep (axes : ℕ) (bytes : List ℕ) : Type 0 where
  pub sweep : Sweep
  pub is : sweep_of axes bytes ≡ given sweep

-- bytes that are none: they are refused with number 12 at one offset, at most the end of the bytes, where a field
-- begins
pub record IsBroken (axes : ℕ) (bytes : List ℕ) : Type 0 where
  pub offset : ℕ
  pub is : sweep_of axes bytes ≡ refused (broken_sweep offset)
  pub only : (o : ℕ) → sweep_of axes bytes ≡ refused (broken_sweep o) → o ≡ offset
  pub begins : FieldBegins bytes offset
  pub within : offset ≤ length bytes

-- what integrating a list answers and leaves, with the number of the station that mailed it
abbrev pub mailed_by : ℕ → Outcome ℕ Grid → Outcome Swept Grid
mailed_by station o = record { answer = and_then o.answer (λ n. given (record { station = station; count = n })); lent = o.lent }
