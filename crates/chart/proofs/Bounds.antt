-- How large grades and charts are, and good cuts as facts. Assumes nothing.
use Prim.Native.Nat.{ℕ, zero, suc, ◌*◌, ◌≤◌, ◌<◌}
use mathlib.Core.Path.{◌≡◌, refl, ◌∙◌}
use mathlib.Core.Bool.{Bool, true, false, cond, ◌&&◌}
use mathlib.Core.List.{List, [], ◌∷◌}
use native.Mathlib.Nat.{mul-suc}
use native.Mathlib.Omega.{arith}
use lib.Dec.{T, ltb, ltb→lt}
use lib.Ieee.{Float, le}
use lib.Ieee.Fits.{and_l, and_r}
use lib.ListN.{length, length-append}
use Rattle.rules.specs.LayerChart.{Cuts, good_cuts, limits, reaches, reached, eighths, larger, band_cover, column_chart, chart_of}

-- ---- no grade is above 8
pub reaches-most : (x l : Float) → reaches x l ≤ 1
reaches-most x l = go (le l x)
  where
    go : (b : Bool) → cond b 1 0 ≤ 1
    go true = omega arith
    go false = omega arith

pub reached-most : (x : Float) (ls : List Float) → reached x ls ≤ length ls
unfolding reached
reached-most x [] = omega arith
reached-most x (l ∷ ls) = let h = reached-most x ls in let g = reaches-most x l in omega arith

pub eighths-most : (ceiling x : Float) → eighths ceiling x ≤ 8
unfolding eighths
eighths-most ceiling x = go (le ceiling x)
  where
    go : (b : Bool) → cond b 8 (reached x limits) ≤ 8
    go true = omega arith
    go false = omega (arith, reached-most x limits)

pub larger-most : (a b most : ℕ) → a ≤ most → b ≤ most → larger a b ≤ most
larger-most a b most p q = go (ltb a b)
  where
    go : (t : Bool) → cond t b a ≤ most
    go true = q
    go false = p

pub cover_most : (ceiling : Float) (xs : List Float) → band_cover ceiling xs ≤ 8
unfolding band_cover
cover_most ceiling [] = omega arith
cover_most ceiling (x ∷ xs) = larger-most (eighths ceiling x) (band_cover ceiling xs) 8 (eighths-most ceiling x) (cover_most ceiling xs)

-- ---- good cuts, as facts
pub cuts_apart : (cuts : Cuts) (layers : ℕ) → T (good_cuts cuts layers) → (0 < cuts.first) × (cuts.first < cuts.second) × (cuts.second < layers)
unfolding good_cuts
cuts_apart cuts layers t =
    let front = and_l (ltb 0 cuts.first && ltb cuts.first cuts.second) (ltb cuts.second layers) t in (
      ltb→lt 0 cuts.first (and_l (ltb 0 cuts.first) (ltb cuts.first cuts.second) front),
      ltb→lt cuts.first cuts.second (and_r (ltb 0 cuts.first) (ltb cuts.first cuts.second) front),
      ltb→lt cuts.second layers (and_r (ltb 0 cuts.first && ltb cuts.first cuts.second) (ltb cuts.second layers) t),
    )

-- ---- the columns in order
module _ (columns layers : ℕ) (ceiling : Float) (cuts : Cuts) (odds : List Float) where
  abbrev whole : ℕ → List ℕ
  whole n = chart_of columns layers ceiling cuts odds n

  abbrev one : ℕ → List ℕ
  one k = column_chart columns layers ceiling cuts odds k

  pub one-length : (k : ℕ) → length (one k) ≡ 5
  unfolding column_chart
  one-length k = refl

  pub chart-length : (n : ℕ) → length (whole n) ≡ 5 * n
  unfolding chart_of
  chart-length zero = refl
  chart-length (suc n) = length-append (whole n) (one n) ∙ omega (arith, chart-length n, one-length n, mul-suc 5 n)
