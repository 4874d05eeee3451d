-- Request 11, "Vertical-beam profile": "Older ceilometers look straight up and send whole metres." What the profile
-- admits and what its beams mark, in whole numbers alone; that the general beam does the same is a law. Definitions
-- only.
use Rattle.std.specs.Prelude.{ℕ, zero, suc, ◌-◌, min, Bool, true, false, ◌&&◌, List, [], ◌∷◌, eqb, ltb, leb, length, get_or}
use Rattle.std.specs.Float.{Format}
use Rattle.rules.specs.RefusalNumbers.{given, outside_profile}
use Rattle.rules.specs.RefusalNumbers.Entries.{Outcome, unless_refused, or_else, unless_holds, head_refusal, uses_of, of_integrated}
use Rattle.rules.specs.RefusalNumbers.Entries as Entries
use Rattle.rules.specs.TheGridAndItsBounds.{Head, Grid, strides}
use Rattle.rules.specs.Coordinates.{times_strides}
use Rattle.rules.specs.MarksAndFrames.{Mark}
use Rattle.rules.specs.OneBeam.{integrated_marks}

-- "The input is whole numbers": the column, the heights of the cells at both ends, and whether the beam stopped on
-- cloud
pub record Vertical : Type 0 where
  pub x : ℕ
  pub y : ℕ
  pub bottom : ℕ
  pub top : ℕ
  pub hit : Bool

abbrev pub height : List ℕ → ℕ
height es = get_or es 2 0

-- "three axes, .. x and y the same at both ends, endpoint not below the origin, all cells on the grid"; "A top height
-- of the grid's own extent means the beam ran out"
unfoldable pub in_profile : List ℕ → Vertical → Bool
in_profile es b =
    eqb (length es) 3 && ltb b.x (get_or es 0 0) && ltb b.y (get_or es 1 0)
    && ltb b.bottom (height es) && leb b.bottom b.top && leb b.top (height es)

-- where the cell at a height of a column stands in the lists
unfoldable pub column_place : List ℕ → ℕ → ℕ → ℕ → ℕ
column_place es x y z = times_strides (x ∷ y ∷ z ∷ []) (strides es)

-- a cell of a column, and so many above it: all are marked free but the last
unfoldable pub column_marks : List ℕ → ℕ → ℕ → Bool → ℕ → ℕ → List Mark
column_marks es x y last z zero = record { place = column_place es x y z; occupied = last } ∷ []
column_marks es x y last z (suc n) = record { place = column_place es x y z; occupied = false } ∷ column_marks es x y last (suc z) n

-- "all cells up to the top clear, Hit or not", where the beam ran out; else the last is occupied if the beam is a Hit
unfoldable pub ends_occupied : List ℕ → Vertical → Bool
ends_occupied es b = b.hit && ltb b.top (height es)

-- the cells above the first
unfoldable pub cells_above : List ℕ → Vertical → ℕ
cells_above es b = min b.top (height es - 1) - b.bottom

unfoldable pub vertical_marks : List ℕ → Vertical → List Mark
vertical_marks es b = column_marks es b.x b.y (ends_occupied es b) b.bottom (cells_above es b)

-- "18, outside the profile, after 9, and nothing is marked"
unfoldable pub update_vertical_entry : Format → Head → Vertical → Grid → Outcome ℕ Grid
update_vertical_entry f h b g =
    unless_refused
    (or_else (head_refusal (uses_of Entries.beams) h (length g.odds) (length g.stamps)) (unless_holds true (in_profile h.extents b) outside_profile)) g
    (of_integrated (integrated_marks f h.model h.frame g (given (vertical_marks h.extents b))))
