-- Requirements, "The grid and its bounds". A grid is a list of extents, axis 0 first, of any number of axes.
-- Definitions only.
use Rattle.std.specs.Prelude.{ℕ, ◌*◌, Bool, true, false, cond, ◌&&◌, List, [], ◌∷◌, pos, leb, ltb, eqb, replicate, Float}
use Rattle.std.specs.Float.{fin}
use Rattle.std.specs.Float.Ieee.{lt, le, neg}
use Rattle.std.specs.Float.Ieee.Scale.{finite}
use Rattle.rules.specs.Floats.{zero_f}

-- "Two or three axes, axis 0 fastest. Extents 2 to 4,096, at most 16,777,216 cells."
abbrev pub least_extent : ℕ
least_extent = 2

abbrev pub most_extent : ℕ
most_extent = 4_096

abbrev pub most_cells : ℕ
most_cells = 16_777_216

unfoldable pub cells : List ℕ → ℕ
cells [] = 1
cells (e ∷ es) = e * cells es

unfoldable pub all_at_least : ℕ → List ℕ → Bool
all_at_least least [] = true
all_at_least least (e ∷ es) = leb least e && all_at_least least es

unfoldable pub all_at_most : ℕ → List ℕ → Bool
all_at_most most [] = true
all_at_most most (e ∷ es) = leb e most && all_at_most most es

unfoldable pub fits_capacity : List ℕ → Bool
fits_capacity es = all_at_most most_extent es && leb (cells es) most_cells

unfoldable pub extents_in_bounds : List ℕ → Bool
extents_in_bounds es = all_at_least least_extent es && fits_capacity es

-- how far apart two neighbours along each axis lie in the lists: 1 along axis 0
unfoldable pub strides_from : ℕ → List ℕ → List ℕ
strides_from s [] = []
strides_from s (e ∷ es) = s ∷ strides_from (s * e) es

unfoldable pub strides : List ℕ → List ℕ
strides es = strides_from 1 es

-- "Model: occupied step > 0, free step < 0, ceiling > 0, all finite, none above 1,048,576 in size; floor = -ceiling."
-- By change request 6 a model has "three pairs of steps, low band first, with one common ceiling" on three axes; "a
-- two-axis map has one pair".
pub record Pair : Type 0 where
  pub occupied : Float
  pub free : Float

-- a band above the lowest: the height from which on it lies, and its pair
pub record Band : Type 0 where
  pub cut : ℕ
  pub pair : Pair

-- The layer is how many cells lie at one height, so that a cell's place in the lists gives its height along the last
-- axis.
pub record Model : Type 0 where
  pub lowest : Pair
  pub above : List Band
  pub ceiling : Float
  pub layer : ℕ

-- one pair and no cuts: its cells' heights do not matter
abbrev pub plain_model : Pair → Float → Model
plain_model p ceiling = record { lowest = p; above = []; ceiling = ceiling; layer = 1 }

abbrev pub most_size : Float
most_size = fin false 1 (pos 20)

unfoldable pub pair_bounded : Float → Pair → Bool
pair_bounded ceiling p =
    lt zero_f p.occupied && lt p.free zero_f && lt zero_f ceiling
    && finite p.occupied && finite p.free && finite ceiling
    && le p.occupied most_size && le (neg most_size) p.free && le ceiling most_size

-- every pair, from a band's on
unfoldable pub all_pairs : (Pair → Bool) → Pair → List Band → Bool
all_pairs test p [] = test p
all_pairs test p (b ∷ bs) = test p && all_pairs test b.pair bs

unfoldable pub bounded : Model → Bool
bounded m = all_pairs (pair_bounded m.ceiling) m.lowest m.above

unfoldable pub floor : Model → Float
floor m = neg m.ceiling

-- Change request 6: "A cell whose last index is below the first cut is in the low band, below the second in the middle,
-- else in the high"
unfoldable pub pair_at : ℕ → Pair → List Band → Pair
pair_at height p [] = p
pair_at height p (b ∷ bs) = cond (ltb height b.cut) p (pair_at height b.pair bs)

-- "Cuts satisfy 0 < first < second < extent"; where there are none, there is nothing to satisfy
unfoldable pub rising : ℕ → List Band → ℕ → Bool
rising least [] extent = ltb least extent
rising least (b ∷ bs) extent = ltb least b.cut && rising b.cut bs extent

unfoldable pub cuts_below : ℕ → List Band → Bool
cuts_below extent [] = true
cuts_below extent (b ∷ bs) = rising 0 (b ∷ bs) extent

unfoldable pub last_extent : List ℕ → ℕ
last_extent [] = 0
last_extent (e ∷ []) = e
last_extent (e ∷ d ∷ es) = last_extent (d ∷ es)

unfoldable pub cuts_in_bounds : List ℕ → Model → Bool
cuts_in_bounds es m = cuts_below (last_extent es) m.above

-- the cells of one height: all axes but the last
unfoldable pub layer_of : List ℕ → ℕ
layer_of [] = 1
layer_of (e ∷ []) = 1
layer_of (e ∷ d ∷ es) = e * layer_of (d ∷ es)

-- "Odds (f64) and stamps (u32) are lent, each exactly one per cell." "Lent odds and stamps may hold anything at all."
pub record Grid : Type 0 where
  pub odds : List Float
  pub stamps : List ℕ

unfoldable pub one_per_cell : List ℕ → ℕ → Bool
one_per_cell es count = eqb count (cells es)

-- "Odds (f64) and stamps (u32) are lent .. beside a head of extents, model and frame"
pub record Head : Type 0 where
  pub extents : List ℕ
  pub model : Model
  pub frame : ℕ

-- "A fresh map has odds +0.0, stamps 0, frame 1, as `reset` gives."
unfoldable pub fresh_grid : List ℕ → Grid
fresh_grid es = record { odds = replicate (cells es) zero_f; stamps = replicate (cells es) 0 }

abbrev pub fresh_frame : ℕ
fresh_frame = 1
