-- Request 4, "Many sample points in one call": "Take a lent list of points and a lent list for values and gradients,
-- with one mark per point for "nothing"." The lists are flat: N numbers a point; N + 1 numbers a slot, the value and
-- then the gradient; a byte a mark. Definitions only.
use Rattle.std.specs.Prelude.{ℕ, zero, suc, ◌*◌, Bool, true, ◌&&◌, List, [], ◌∷◌, ◌++◌, eqb, length, take, drop, Float}
use Rattle.std.proofs.Math.Option.{Option, some, none}
use Rattle.std.specs.Float.{Format}
use Rattle.rules.specs.RefusalNumbers.{given, unequal_lists}
use Rattle.rules.specs.RefusalNumbers.Entries.{Outcome, unless_refused, or_else, unless_holds, head_refusal, uses_of}
use Rattle.rules.specs.RefusalNumbers.Entries as Entries
use Rattle.rules.specs.TheGridAndItsBounds.{Head}
use Rattle.rules.specs.Coordinates.{Sample, sample}

-- the lists that are lent to be written
pub record Slots : Type 0 where
  pub samples : List Float
  pub found : List ℕ

-- "slots of "nothing" points keep what they held"
abbrev pub slot_of : Option Sample → List Float → List Float
slot_of (some s) held = s.value ∷ s.gradient
slot_of none held = held

-- "one mark per point for "nothing"": 1 for a sample, 0 for nothing
abbrev pub found_of : Option Sample → ℕ
found_of (some s) = 1
found_of none = 0

-- "The outcome equals asking point by point, in the same bits": so many slots, each from its own point and what it held
unfoldable pub slots_all : Format → List ℕ → List Float → ℕ → List Float → List Float → List Float
slots_all f es odds zero points held = held
slots_all f es odds (suc k) points held =
    let n : ℕ = length es in
    slot_of (sample f es odds (take n points)) (take (suc n) held) ++ slots_all f es odds k (drop n points) (drop (suc n) held)

-- so many marks, each from its own point
unfoldable pub found_all : Format → List ℕ → List Float → ℕ → List Float → List ℕ
found_all f es odds zero points = []
found_all f es odds (suc k) points =
    let n : ℕ = length es in
    found_of (sample f es odds (take n points)) ∷ found_all f es odds k (drop n points)

unfoldable pub sampled_all : Format → List ℕ → List Float → List Float → Slots → Slots
sampled_all f es odds points s =
    let k : ℕ = length s.found in
    record { samples = slots_all f es odds k points s.samples; found = found_all f es odds k points }

-- "14, lists of unequal count": they are for as many points as there are marks
unfoldable pub same_counts : ℕ → ℕ → ℕ → ℕ → Bool
same_counts n points slots marks = eqb points (n * marks) && eqb slots (suc n * marks)

-- "after 4 and before any slot is written"
unfoldable pub sample_all_log_odds_entry : Format → Head → List Float → List Float → Slots → Outcome (Unit {0}) Slots
sample_all_log_odds_entry f h points odds s =
    unless_refused
    (or_else (head_refusal (uses_of Entries.samples) h (length odds) 0)
    (unless_holds true (same_counts (length h.extents) (length points) (length s.samples) (length s.found)) unequal_lists)) s
    (record { answer = given tt; lent = sampled_all f h.extents odds points s })
