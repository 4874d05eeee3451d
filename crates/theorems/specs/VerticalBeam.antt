-- Change request 11: of a vertical beam inside its profile "cells, odds, stamps and count equal those of the general
-- beam" between the centres of the cells at its ends, or up to the upper face where it ran out. Of every format.
-- `VerticalBeam.Proof` has the theorem. Definitions only.
pub mod Halves
pub mod Clipping
pub mod Column
pub mod Proof
pub mod Examples
use Rattle.std.specs.Prelude.{ℕ, ◌≡◌, true, false, cond, List, [], ◌∷◌, T, ltb, length, Float}
use Rattle.std.specs.Float.{Format}
use Rattle.std.specs.Float.Ieee.{add}
use Rattle.rules.specs.Floats.{half_f, number_f}
use Rattle.rules.specs.RefusalNumbers.{given, refused, outside_profile}
use Rattle.rules.specs.RefusalNumbers.Entries.{answered, head_refusal, uses_of, beams, update_ray_entry}
use Rattle.rules.specs.TheGridAndItsBounds.{Head, Grid}
use Rattle.rules.specs.OneBeam.{Beam, beam_marks}
use Rattle.rules.specs.VerticalBeam.{Vertical, height, in_profile, vertical_marks, update_vertical_entry}
use Rattle.laws.specs.Checks.{AxesInBounds}

-- "cell centres (cell + 0.5)"
abbrev pub cell_centre : Format → ℕ → Float
cell_centre f n = add f (number_f f n) half_f

-- "A top height of the grid's own extent means the beam ran out: .. as for a beam that ends on the upper face."
abbrev pub upper_end : Format → ℕ → ℕ → Float
upper_end f extent top = cond (ltb top extent) (cell_centre f top) (number_f f extent)

-- "origin and endpoint at cell centres (cell + 0.5), x and y the same at both ends"
abbrev pub general_beam : Format → List ℕ → Vertical → Beam
general_beam f es b =
    record {
      origin = cell_centre f b.x ∷ cell_centre f b.y ∷ cell_centre f b.bottom ∷ [];
      endpoint = cell_centre f b.x ∷ cell_centre f b.y ∷ upper_end f (height es) b.top ∷ [];
      hit = b.hit;
    }

-- the same beam, that found no cloud
abbrev pub unhit : Vertical → Vertical
unhit b = record { x = b.x; y = b.y; bottom = b.bottom; top = b.top; hit = false }

pub record SameAsGeneral (f : Format) : Type 0 where
  -- The marks are the general beam's, which is neither refused nor a miss.
  pub marks : (es : List ℕ) (b : Vertical) → AxesInBounds es → T (in_profile es b) → beam_marks f es (general_beam f es b) ≡ given (vertical_marks es b)
  -- So the answer and both lists are, on any map and whatever the lists hold; refusals 1 to 4 and 9 too.
  pub outcome : (h : Head) (b : Vertical) (g : Grid) → T (in_profile h.extents b)
      → update_vertical_entry f h b g ≡ update_ray_entry f h (general_beam f h.extents b) g
  -- Outside the profile nothing is marked; 18 comes after what the head is refused for.
  pub outside : (h : Head) (b : Vertical) (g : Grid) → in_profile h.extents b ≡ false
      → update_vertical_entry f h b g
      ≡ record { answer = answered (head_refusal (uses_of beams) h (length g.odds) (length g.stamps)) (refused outside_profile); lent = g }
  -- A beam that ran out marks the same "Hit or not".
  pub ran_out : (es : List ℕ) (b : Vertical) → b.top ≡ height es → vertical_marks es b ≡ vertical_marks es (unhit b)
