-- THE CHART KNOWS ONLY THE GRID'S PROMISES. The cell that the layer chart takes for a column and a height is the cell
-- that the index rule gives for the column's indices and that height; the column of (x, y) is x + y times the x extent.
-- And the chart's band of a cell is the band whose pair its marks use. Of any number of axes, the last of which is the
-- height. Definitions only; the proof is in `Proof`.
pub mod Proof
pub mod Examples
use Rattle.std.specs.Prelude.{ℕ, ◌+◌, ◌-◌, ◌*◌, ◌≤◌, ◌<◌, List, [], ◌∷◌, ◌++◌, map, ◌≡◌, T, pos, length, get_or, Float}
use Rattle.std.specs.Float.{nan}
use Rattle.rules.specs.RefusalNumbers.{given}
use Rattle.rules.specs.TheGridAndItsBounds.{Pair, Band, Model, cells, strides, layer_of, last_extent, cuts_in_bounds}
use Rattle.rules.specs.Coordinates.{times_strides, flat_index}
use Rattle.rules.specs.MarksAndFrames.{steps_at, steps_with}
use Rattle.rules.specs.LayerChart.{Cuts, cuts_in, band_cover, cells_between, five_of, column_chart}

-- ---- columns
-- indices on the grid, one for each axis
abbrev pub OnGrid : List ℕ → List ℕ → Type 0
OnGrid [] [] = Unit {0}
OnGrid [] (n ∷ ns) = ⊥
OnGrid (e ∷ es) [] = ⊥
OnGrid (e ∷ es) (n ∷ ns) = (n < e) × OnGrid es ns

-- the column of these indices along all axes but the last
abbrev pub column_of : List ℕ → List ℕ → ℕ
column_of es ns = times_strides ns (strides es)

-- ---- bands
pub data Layer : Type 0 where
  low middle high : Layer

-- the heights of a band: from the first on, and below the second
abbrev pub from_of : Cuts → Layer → ℕ
from_of cuts low = 0
from_of cuts middle = cuts.first
from_of cuts high = cuts.second

abbrev pub to_of : Cuts → ℕ → Layer → ℕ
to_of cuts layers low = cuts.first
to_of cuts layers middle = cuts.second
to_of cuts layers high = layers

abbrev pub InBand : Cuts → ℕ → Layer → ℕ → Type 0
InBand cuts layers l z = (from_of cuts l ≤ z) × (z < to_of cuts layers l)

-- ---- the premises: a map whose last axis has `top` heights, with the pairs of three bands
pub record Banded (es : List ℕ) (top : ℕ) (m : Model) : Type 0 where
  pub second : Band
  pub third : Band
  pub bands : m.above ≡ second ∷ third ∷ []
  -- the chart tries the cuts itself, and refuses with 15
  pub cuts : T (cuts_in_bounds (es ++ top ∷ []) m)
  -- the model counts heights by this map's layers
  pub layer : m.layer ≡ layer_of (es ++ top ∷ [])

-- the pair of a band
abbrev pub pair_of : Pair → Band → Band → Layer → Pair
pair_of p b c low = p
pair_of p b c middle = b.pair
pair_of p b c high = c.pair

-- ---- the conclusions: of the cell with these indices, at this height, which lies in this band
pub record OneCell (es : List ℕ) (top : ℕ) (m : Model) (w : Banded es top m) (odds : List Float) (ns : List ℕ) (z : ℕ) (l : Layer) : Type 0 where
  -- The index rule gives it a place.
  pub place : ℕ
  pub indexed : flat_index (es ++ top ∷ []) (map pos (ns ++ z ∷ [])) ≡ given place
  -- The chart takes the odds at that place, among the cells of the column and the band, as many above the first as its
  -- height is.
  pub taken :
      get_or (cells_between (layer_of (es ++ top ∷ [])) odds (column_of es ns) (from_of (cuts_in m) l) (to_of (cuts_in m) top l)) (z - from_of (cuts_in m) l) nan
      ≡ get_or odds place nan
  -- Its marks use that band's pair.
  pub pair : steps_at m place ≡ steps_with m (pair_of m.lowest w.second w.third l)

-- each height is in one band
pub record SomeBand (cuts : Cuts) (layers z : ℕ) : Type 0 where
  pub layer : Layer
  pub inside : InBand cuts layers layer z

pub record KnowsThePromises : Type 0 where
  pub one_cell : (es : List ℕ) (top : ℕ) (m : Model) (w : Banded es top m) (odds : List Float) (ns : List ℕ) (z : ℕ) (l : Layer)
      → OnGrid es ns → z < top → InBand (cuts_in m) top l z → OneCell es top m w odds ns z l
  -- On three axes the column of (x, y) is x + y times the x extent; and there are as many columns as cells at a height.
  pub column : (ex ey x y : ℕ) → column_of (ex ∷ ey ∷ []) (x ∷ y ∷ []) ≡ x + y * ex
  pub columns : (es : List ℕ) (top : ℕ) (ns : List ℕ) → OnGrid es ns → column_of es ns < layer_of (es ++ top ∷ [])
  -- The chart's layers are the heights of the last axis.
  pub layers : (es : List ℕ) (top : ℕ) → last_extent (es ++ top ∷ []) ≡ top
  -- Each height is in a band; a band's cells are as many as its heights, and a column's three covers are those of its
  -- bands.
  pub some_band : (cuts : Cuts) (layers z : ℕ) → z < layers → SomeBand cuts layers z
  pub heights : (apart : ℕ) (odds : List Float) (column from to : ℕ) → length (cells_between apart odds column from to) ≡ to - from
  pub covers : (columns layers : ℕ) (ceiling : Float) (cuts : Cuts) (odds : List Float) (column : ℕ)
      → column_chart columns layers ceiling cuts odds column
      ≡ five_of (band_cover ceiling (cells_between columns odds column (from_of cuts low) (to_of cuts layers low)))
      (band_cover ceiling (cells_between columns odds column (from_of cuts middle) (to_of cuts layers middle)))
      (band_cover ceiling (cells_between columns odds column (from_of cuts high) (to_of cuts layers high)))
