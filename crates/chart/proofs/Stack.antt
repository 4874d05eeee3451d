-- A column's cells one above another: the lowest of those left. Assumes nothing.
use Prim.Native.Nat.{ℕ, suc, ◌+◌, ◌-◌, ◌*◌, ◌<◌}
use mathlib.Core.Path.{◌≡◌, refl, ap, ◌∙◌}
use mathlib.Core.List.{List, [], ◌∷◌}
use native.Mathlib.Nat.{add-mul, one-mul}
use native.Mathlib.Omega.{arith}
use lib.Ieee.{Float, nan}
use lib.ListN.{get_or}
use Rattle.rules.specs.LayerChart.{stacked, cells_between}

module _ (columns column : ℕ) where
  -- the place above
  next : (z : ℕ) → column + z * columns + columns ≡ column + (z + 1) * columns
  next z = omega (arith, add-mul z 1 columns, one-mul columns)

  pub lowest : (odds : List Float) (z to : ℕ) → z < to
      → cells_between columns odds column z to ≡ get_or odds (column + z * columns) nan ∷ cells_between columns odds column (z + 1) to
  unfolding cells_between stacked
  lowest odds z to h =
      let left : to - z ≡ suc (to - (z + 1)) = omega arith in
      ap (λ (n : ℕ). stacked columns odds n (column + z * columns)) left
      ∙ ap (λ (place : ℕ). get_or odds (column + z * columns) nan ∷ stacked columns odds (to - (z + 1)) place) (next z)

  pub none_left : (odds : List Float) (z : ℕ) → cells_between columns odds column z z ≡ []
  unfolding cells_between stacked
  none_left odds z = let none : z - z ≡ 0 = omega arith in rw none refl
