-- A sweep file with no beams does nothing. Assumes nothing.
use Rattle.std.specs.Prelude.{ℕ, ◌≡◌, refl, List, [], length}
use Rattle.std.proofs.Math.Option.{Option, some, none}
use Rattle.std.specs.Float.{Format}
use Rattle.rules.specs.RefusalNumbers.{Refusal, given}
use Rattle.rules.specs.RefusalNumbers.Entries.{unless_refused, answered, head_refusal, uses_of, beams}
use Rattle.rules.specs.TheGridAndItsBounds.{Head, Grid}
use Rattle.rules.specs.OneBeam.{integrated_from, integrated}
use Rattle.rules.specs.SweepFile.{Sweep, Swept, sweep_of, swept_by, update_sweep_entry}
use Rattle.theorems.specs.HandCorrections.{nothing_swept}

pub no_file : (f : Format) (h : Head) (bytes : List ℕ) (s : Sweep) (g : Grid) → sweep_of (length h.extents) bytes ≡ given s → s.beams ≡ []
    → update_sweep_entry f h bytes g ≡ nothing_swept s.station h g
unfolding update_sweep_entry integrated integrated_from
no_file f h bytes s g e b = rw e (go (head_refusal (uses_of beams) h (length g.odds) (length g.stamps)))
  where
    go : (r : Option Refusal) → unless_refused r g (swept_by s.station (integrated f h.extents h.model h.frame s.beams g))
        ≡ record { answer = answered r (given (record { station = s.station; count = 0 })); lent = g }
    go (some r) = refl
    go none = rw b refl
