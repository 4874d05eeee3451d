-- Bounds of the grades, and a chart column by column. Assumes nothing.
use Prim.Native.Nat.{ℕ, zero, suc, ◌+◌, ◌-◌, ◌*◌, ◌≤◌, ◌<◌}
use Rattle.std.specs.Prelude.{◌≡◌, Bool, cond, ◌&&◌, List, [], ◌∷◌, ◌++◌, T, ltb, Float, get_or, drop}
use Rattle.std.proofs.Math.Path.{refl, ap}
use Rattle.std.proofs.Common.{sym, ◌∙◌, mul-suc, suc-mul, zero-mul, add-mul, ltb→lt, length-append, drop_at, take_at}
use Rattle.std.proofs.Math.Bool.{true, false}
use native.Mathlib.Omega.{arith}
use Rattle.std.proofs.Math.Dec.{eqb}
use Rattle.std.specs.Float.{nan}
use Rattle.std.specs.Float.Ieee.{le}
use Rattle.std.specs.Float.Ieee.Fits.{and_l, and_r}
use Rattle.std.proofs.Math.ListN.{length, take, length-drop}
use Rattle.std.proofs.lemmas.List.{drop-append-le}
use Rattle.std.proofs.Math.Seq.{take-append-le, take_all}
use borrow.Author.Tests.{eqb-true, eqb-false}
use Rattle.rules.specs.LayerChart.{Cuts, good_cuts, limits, reaches, reached, eighths, larger, band_cover, stacked, cells_between, five_of, column_chart, chart_of}
use Rattle.chart.proofs.Bounds.{eighths-most, cover_most, cuts_apart, one-length, chart-length}
use Rattle.theorems.specs.LayerChart.{AgreeOn, ChartLaws}

-- ---- a column's own cells
at_zero : (place apart : ℕ) → place + 0 * apart ≡ place
at_zero place apart = omega (arith, zero-mul apart)

one_up : (place z apart : ℕ) → place + suc z * apart ≡ place + apart + z * apart
one_up place z apart = omega (arith, suc-mul z apart)

stacked_alike : (apart : ℕ) (odds other : List Float) (n place : ℕ)
    → ((z : ℕ) → z < n → get_or odds (place + z * apart) nan ≡ get_or other (place + z * apart) nan) → stacked apart odds n place ≡ stacked apart other n place
unfolding stacked
stacked_alike apart odds other zero place h = refl
stacked_alike apart odds other (suc n) place h =
    let here : get_or odds place nan ≡ get_or other place nan = rw at_zero at (h 0 (omega arith)) in
    rw (here, stacked_alike apart odds other n (place + apart) (λ z g. rw one_up at (h (suc z) (omega arith)))) refl

from_up : (column from z apart : ℕ) → column + (from + z) * apart ≡ column + from * apart + z * apart
from_up column from z apart = omega (arith, add-mul from z apart)

between_alike : (columns layers column from to : ℕ) (odds other : List Float) → to ≤ layers → AgreeOn columns layers column odds other
    → cells_between columns odds column from to ≡ cells_between columns other column from to
unfolding cells_between
between_alike columns layers column from to odds other h agree =
    stacked_alike columns odds other (to - from) (column + from * columns) (λ z g. rw from_up at (agree (from + z) (omega arith)))

own_cells : (columns layers : ℕ) (ceiling : Float) (cuts : Cuts) (odds other : List Float) (column : ℕ) → T (good_cuts cuts layers)
    → AgreeOn columns layers column odds other → column_chart columns layers ceiling cuts odds column ≡ column_chart columns layers ceiling cuts other column
unfolding column_chart
own_cells columns layers ceiling cuts odds other column t agree =
    let cut = cuts_apart cuts layers t in
    rw (
      between_alike columns layers column 0 cuts.first odds other (omega arith) agree,
      between_alike columns layers column cuts.first cuts.second odds other (omega arith) agree,
      between_alike columns layers column cuts.second layers odds other (omega arith) agree,
    ) refl

-- ---- the columns in order
module _ (columns layers : ℕ) (ceiling : Float) (cuts : Cuts) (odds : List Float) where
  abbrev whole : ℕ → List ℕ
  whole n = chart_of columns layers ceiling cuts odds n

  abbrev one : ℕ → List ℕ
  one k = column_chart columns layers ceiling cuts odds k

  pub column-at : (n k : ℕ) → k < n → take 5 (drop (5 * k) (whole n)) ≡ one k
  unfolding chart_of
  column-at zero k h = absurd (omega arith)
  column-at (suc n) k h = go (eqb k n) refl (λ g. column-at n k g)
    where
      go : (b : Bool) → eqb k n ≡ b → (k < n → take 5 (drop (5 * k) (whole n)) ≡ one k) → take 5 (drop (5 * k) (whole n ++ one n)) ≡ one k
      go true e below =
          let last : k ≡ n = eqb-true k n e in
          let front : length (whole n) ≡ 5 * k = chart-length columns layers ceiling cuts odds n ∙ omega arith in
          ap (take 5) (drop_at (whole n) (one n) (5 * k) front) ∙ take_all 5 (one n) (omega (arith, one-length columns layers ceiling cuts odds n)) ∙ ap one (sym last)
      go false e below =
          let other = eqb-false k n e in
          let inside : k < n = omega arith in
          let size : length (drop (5 * k) (whole n)) ≡ 5 * n - 5 * k = length-drop (5 * k) (whole n) ∙ ap (λ (m : ℕ). m - 5 * k) (chart-length columns layers ceiling cuts odds n) in
          ap (take 5) (drop-append-le (5 * k) (whole n) (one n) (omega (arith, chart-length columns layers ceiling cuts odds n)))
          ∙ take-append-le 5 (drop (5 * k) (whole n)) (one n) (omega arith) ∙ below inside

pub chart_laws : ChartLaws
chart_laws =
    record { eighths-most = eighths-most; cover_most = cover_most; own_cells = own_cells; chart-length = chart-length; column-at = column-at }
