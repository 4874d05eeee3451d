-- The layer chart: what its numbers can be, and what each depends on. `Columns` has a column and the whole chart,
-- `Order` that more odds give no lower grade, `More` what that does to a chart; the two totals side by side stand in
-- chart/specs/Totals, the limits as decimals in chart/proofs/Limits. Definitions only.
pub mod Columns
pub mod Order
pub mod More
use Rattle.std.specs.Prelude.{ℕ, ◌+◌, ◌*◌, ◌≤◌, ◌<◌, ◌≡◌, Bool, ◌&&◌, ◌||◌, List, [], ◌∷◌, T, eqb, length, get_or, take, drop, Float}
use Rattle.std.specs.Float.{nan}
use Rattle.std.specs.Float.Ieee.{le}
use Rattle.rules.specs.LayerChart.{Cuts, good_cuts, eighths, band_cover, maximum_overlap, random_overlap, column_chart, chart_of}

-- odds that agree on a column's own cells, whatever stands in the others
abbrev pub AgreeOn : ℕ → ℕ → ℕ → List Float → List Float → Type 0
AgreeOn columns layers column odds other =
    (z : ℕ) → z < layers → get_or odds (column + z * columns) nan ≡ get_or other (column + z * columns) nan

-- a cell with more odds has no lower grade
abbrev pub MoreOdds : Type 0
MoreOdds = (ceiling x y : Float) → T (le x y) → eighths ceiling x ≤ eighths ceiling y

-- no number of the one list is above the number at its place in the other, and there are as many
abbrev pub NoneAbove : List ℕ → List ℕ → Type 0
NoneAbove [] [] = Unit {0}
NoneAbove [] (y ∷ ys) = ⊥
NoneAbove (x ∷ xs) [] = ⊥
NoneAbove (x ∷ xs) (y ∷ ys) = (x ≤ y) × NoneAbove xs ys

pub record ChartLaws : Type 0 where
  -- No grade is above 8, a cell's or a band's.
  pub eighths-most : (ceiling odds : Float) → eighths ceiling odds ≤ 8
  pub cover_most : (ceiling : Float) (xs : List Float) → band_cover ceiling xs ≤ 8
  -- A column depends on its own cells alone.
  pub own_cells : (columns layers : ℕ) (ceiling : Float) (cuts : Cuts) (odds other : List Float) (column : ℕ) → T (good_cuts cuts layers)
      → AgreeOn columns layers column odds other → column_chart columns layers ceiling cuts odds column ≡ column_chart columns layers ceiling cuts other column
  -- A chart has five numbers a column, and they are that column's.
  pub chart-length : (columns layers : ℕ) (ceiling : Float) (cuts : Cuts) (odds : List Float) (n : ℕ) → length (chart_of columns layers ceiling cuts odds n) ≡ 5 * n
  pub column-at : (columns layers : ℕ) (ceiling : Float) (cuts : Cuts) (odds : List Float) (n k : ℕ) → k < n
      → take 5 (drop (5 * k) (chart_of columns layers ceiling cuts odds n)) ≡ column_chart columns layers ceiling cuts odds k
