-- The columns, layers and cells of three extents, as the code multiplies them. Assumes nothing.
use Prim.Native.Nat.{ℕ, ◌*◌}
use mathlib.Core.Path.{◌≡◌, refl, sym, ap, ◌∙◌}
use mathlib.Core.List.{[], ◌∷◌}
use native.Mathlib.Nat.{mul-one, mul_comm, mul_assoc}
use Rattle.rules.specs.TheGridAndItsBounds.{last_extent, layer_of}
use Rattle.rules.specs.TheGridAndItsBounds.{cells}

module _ (x y z : ℕ) where
  pub columns_is : layer_of (x ∷ y ∷ z ∷ []) ≡ x * y
  unfolding layer_of
  columns_is = ap (λ (n : ℕ). x * n) (mul-one y)

  pub layers_is : last_extent (x ∷ y ∷ z ∷ []) ≡ z
  unfolding last_extent
  layers_is = refl

  pub cells_are : cells (x ∷ y ∷ z ∷ []) ≡ x * (y * z)
  unfolding cells
  cells_are = ap (λ (n : ℕ). x * (y * n)) (mul-one z)

  pub cells_by_layer : cells (x ∷ y ∷ z ∷ []) ≡ z * (x * y)
  cells_by_layer = cells_are ∙ sym (mul_assoc x y z) ∙ mul_comm (x * y) z
