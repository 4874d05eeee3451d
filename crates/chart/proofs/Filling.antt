-- A chart column by column: the columns before one are written, and the rest of the list stands as it was. Assumes
-- nothing.
use Prim.Native.Nat.{ℕ, ◌+◌, ◌*◌, ◌≤◌}
use mathlib.Core.Path.{◌≡◌, refl, sym, ap, ◌∙◌}
use mathlib.Core.List.{List, ◌++◌}
use native.Mathlib.Nat.{mul-suc}
use native.Mathlib.Numerals.{add-one}
use native.Mathlib.Omega.{arith}
use lib.Ieee.{Float}
use lib.ListN.{length, drop, length-append, length-drop}
use lib.Seq.{sets, sets-eq, take_at, drop-append-add, drop-drop}
use Rattle.rules.specs.LayerChart.{Cuts, column_chart, chart_of}
use Rattle.chart.proofs.Bounds.{chart-length}

put_next : (written five chart₀ : List ℕ) (k : ℕ) → length written ≡ 5 * k → length five ≡ 5 → 5 * k + 5 ≤ length chart₀
    → sets (written ++ drop (5 * k) chart₀) (5 * k) five ≡ written ++ five ++ drop (5 * k + 5) chart₀
put_next written five chart₀ k size five_size room =
    let l : List ℕ = written ++ drop (5 * k) chart₀ in
    let whole : length l ≡ length chart₀ = length-append written (drop (5 * k) chart₀) ∙ omega (arith, length-drop (5 * k) chart₀) in
    let after : 5 * k + length five ≡ length written + 5 = omega arith in
    sets-eq five l (5 * k) (omega arith)
    ∙ ap (λ (xs : List ℕ). xs ++ five ++ drop (5 * k + length five) l) (take_at written (drop (5 * k) chart₀) (5 * k) size)
    ∙ ap (λ (n : ℕ). written ++ five ++ drop n l) after
    ∙ ap (λ (xs : List ℕ). written ++ five ++ xs) (drop-append-add written (drop (5 * k) chart₀) 5 ∙ drop-drop 5 (5 * k) chart₀)

module _ (columns layers : ℕ) (ceiling : Float) (cuts : Cuts) (odds : List Float) (chart₀ : List ℕ) where
  abbrev pub Written : ℕ → List ℕ → Type 0
  Written k chart = chart ≡ chart_of columns layers ceiling cuts odds k ++ drop (5 * k) chart₀

  pub one_more : (k : ℕ) (chart : List ℕ) → Written k chart → 5 * (k + 1) ≤ length chart₀
      → Written (k + 1) (sets chart (5 * k) (column_chart columns layers ceiling cuts odds k))
  unfolding chart_of
  one_more k chart w room =
      let next : 5 * (k + 1) ≡ 5 * k + 5 = rw add-one (mul-suc 5 k) in
      let five : List ℕ = column_chart columns layers ceiling cuts odds k in
      let five_size : length five ≡ 5 = unfold column_chart in refl in
      ap (λ (xs : List ℕ). sets xs (5 * k) five) w
      ∙ put_next (chart_of columns layers ceiling cuts odds k) five chart₀ k (chart-length columns layers ceiling cuts odds k) five_size (omega arith)
      ∙ ap (λ (n : ℕ). chart_of columns layers ceiling cuts odds k ++ five ++ drop n chart₀) (sym next)
      ∙ ap (λ (n : ℕ). chart_of columns layers ceiling cuts odds n ++ drop (5 * (k + 1)) chart₀) (sym (add-one k))
