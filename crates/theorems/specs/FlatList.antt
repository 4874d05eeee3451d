-- A flat list of beams answers what its beams answer as structs, over any number of axes. Assumes nothing.
use Rattle.std.specs.Prelude.{ℕ, Bool, true, false, List, ◌≡◌, refl, T, Float, length}
use Rattle.std.proofs.Math.Option.{Option, some, none}
use Rattle.std.specs.Float.{Format}
use Rattle.rules.specs.RefusalNumbers.{Refusal}
use Rattle.rules.specs.RefusalNumbers.Entries.{Outcome, or_else, unless_refused, head_refusal, uses_of, beams, update_scan_entry, update_beams_entry}
use Rattle.rules.specs.TheGridAndItsBounds.{Head, Grid}
use Rattle.rules.specs.OneBeam.{flat_shape, beams_of}

pub is_true : (b : Bool) → T b → b ≡ true
is_true true t = refl
is_true false t = absurd t

nothing_else : (x : Option Refusal) (g : Grid) (out : Outcome ℕ Grid) → unless_refused (or_else x none) g out ≡ unless_refused x g out
nothing_else (some r) g out = refl
nothing_else none g out = refl

-- in the right shape, so that 8 does not occur
pub flat_as_structs : (f : Format) (h : Head) (numbers : List Float) (hits : List ℕ) (g : Grid) → T (flat_shape (length h.extents) numbers hits)
    → update_scan_entry f h numbers hits g ≡ update_beams_entry f h (beams_of (length h.extents) numbers hits) g
unfolding update_scan_entry update_beams_entry
flat_as_structs f h numbers hits g t =
    rw (is_true (flat_shape (length h.extents) numbers hits) t) (nothing_else (head_refusal (uses_of beams) h (length g.odds) (length g.stamps)) g _)
