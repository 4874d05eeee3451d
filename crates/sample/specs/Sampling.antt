-- The corners of a stencil in edges, squares and cubes, and what each leaf of a sample works out of them, in every
-- format. A corner is the list of its bits, bit 0 first, as in the rules; what stands at a corner is a function of it.
-- The code's structs are mapped to these records, whatever their width. Only leaves cite these: a sample's own contract
-- is the rules' `sample`. Definitions only.
use Rattle.std.specs.Prelude.{ℕ, ◌+◌, Bool, true, false, cond, List, [], ◌∷◌, length, slice_index_or, Float}
use Rattle.std.specs.Float.{nan, Format}
use Rattle.std.specs.Float.Ieee.{add, sub, mul}
use Rattle.rules.specs.TheGridAndItsBounds.{strides}
use Rattle.rules.specs.Coordinates.{StencilAxis, cells_of, times_strides, corners, corner_place, gradient_from}
use Rattle.sample.specs.declared.sample.Edge as Edges
use Rattle.sample.specs.declared.sample.Square as Squares
use Rattle.sample.specs.declared.sample.Cube as Cubes

-- ---- the sides
-- the two cells along axis 0: their odds, their weights, or differences of odds
pub record Edge : Type 0 where
  pub low : Float
  pub high : Float

-- the edges on the low and on the high side of the next axis
pub record Square : Type 0 where
  pub low : Edge
  pub high : Edge

pub record Cube : Type 0 where
  pub low : Square
  pub high : Square

-- the code's
abbrev pub edge_of : Edges.Edge → Edge
edge_of e = record { low = e.low; high = e.high }

abbrev pub square_of : Squares.Square → Square
square_of s = record { low = edge_of s.low; high = edge_of s.high }

abbrev pub cube_of : Cubes.Cube → Cube
cube_of q = record { low = square_of q.low; high = square_of q.high }

-- ---- what stands at a corner
-- what stands at a corner on axis k's low side, or on its high side, by the corner's bit k
abbrev pub by_bit : ℕ → (List Bool → Float) → (List Bool → Float) → List Bool → Float
by_bit k low high c = cond (slice_index_or c k false) (high c) (low c)

abbrev pub on_edge : Edge → List Bool → Float
on_edge e = by_bit 0 (λ c. e.low) (λ c. e.high)

abbrev pub on_square : Square → List Bool → Float
on_square s = by_bit 1 (on_edge s.low) (on_edge s.high)

abbrev pub on_cube : Cube → List Bool → Float
on_cube q = by_bit 2 (on_square q.low) (on_square q.high)

-- the odds of the corners of a stencil whose lowest cell is at a place, by the strides of its axes
unfoldable pub odds_from : List Float → ℕ → List ℕ → List Bool → Float
odds_from odds base ss c = slice_index_or odds (corner_place base ss c) nan

-- the sum of the strides
unfoldable pub total : List ℕ → ℕ
total [] = 0
total (s ∷ ss) = s + total ss

-- the place of a stencil's highest corner: a stride above the lowest along every axis
unfoldable pub highest_corner : List ℕ → List StencilAxis → ℕ
highest_corner es axes = times_strides (cells_of axes) (strides es) + total (strides es)

-- what stands at the corners of one axis, and of two
abbrev pub at_edge : (List Bool → Float) → Edge
at_edge at = record { low = at (false ∷ []); high = at (true ∷ []) }

abbrev pub at_square : (List Bool → Float) → Square
at_square at =
    record {
      low = record { low = at (false ∷ false ∷ []); high = at (true ∷ false ∷ []) };
      high = record { low = at (false ∷ true ∷ []); high = at (true ∷ true ∷ []) };
    }

-- weights, on one side of the next axis
abbrev pub edge_times : Format → Edge → Float → Edge
edge_times f w s = record { low = mul f w.low s; high = mul f w.high s }

abbrev pub square_times : Format → Square → Float → Square
square_times f w s = record { low = edge_times f w.low s; high = edge_times f w.high s }

-- a sum goes on over an edge, and over a square
abbrev pub edge_sum : Format → Float → Edge → Edge → Float
edge_sum f v w o = add f (add f v (mul f w.low o.low)) (mul f w.high o.high)

abbrev pub square_sum : Format → Float → Square → Square → Float
square_sum f v w o = edge_sum f (edge_sum f v w.low o.low) w.high o.high

-- differences, high less low: along edges, and from one edge to another
abbrev pub along_edges : Format → Square → Edge
along_edges f s = record { low = sub f s.low.high s.low.low; high = sub f s.high.high s.high.low }

abbrev pub along_squares : Format → Square → Square → Square
along_squares f a b = record { low = along_edges f a; high = along_edges f b }

abbrev pub between_edges : Format → Edge → Edge → Edge
between_edges f a b = record { low = sub f b.low a.low; high = sub f b.high a.high }

abbrev pub between_pairs : Format → Edge → Edge → Edge → Edge → Square
between_pairs f a b c d = record { low = between_edges f a b; high = between_edges f c d }

-- the gradient, from the offsets and what stands at each corner
unfoldable pub gradient_over : Format → List Float → (List Bool → Float) → List Float
gradient_over f os odds = gradient_from f 0 os os odds (corners (length os))
