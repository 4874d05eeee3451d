-- Extents as so many rows of a width: what a record's rows need of them. Over any number of axes. Assumes nothing.
use Prim.Native.Nat.{ℕ, zero, suc, ◌*◌, ◌≤◌, ◌<◌}
use mathlib.Core.List.{List, [], ◌∷◌}
use mathlib.Core.Path.{◌≡◌, refl, sym, ap, ◌∙◌}
use native.Mathlib.Nat.{mul-one}
use native.Mathlib.Omega.{arith}
use Rattle.rules.specs.TheGridAndItsBounds.{cells, most_cells, most_extent}
use Rattle.rules.specs.MapRecord.{row_width, row_count}
use Rattle.laws.specs.Checks.{AxesInBounds, InBounds}
use Rattle.types.specs.Points.{extents2, extents3}
use Rattle.types.specs.declared.points.Extents2.{Extents2}
use Rattle.types.specs.declared.points.Extents3.{Extents3}

-- extents of this many rows of this width
pub record Shape (es : List ℕ) (width count : ℕ) : Type 0 where
  pub width_is : row_width es ≡ width
  pub count_is : row_count es ≡ count
  pub cells_are : cells es ≡ width * count

-- as the extents that were found have their rows
pub shape_of : {found es : List ℕ} {width count : ℕ} → found ≡ es → cells found ≡ row_width found * row_count found
    → width ≡ row_width found → count ≡ row_count found → Shape es width count
shape_of h by_rows w n =
    record { width_is = ap row_width (sym h) ∙ sym w; count_is = ap row_count (sym h) ∙ sym n; cells_are = ap cells (sym h) ∙ rw (w, n) by_rows }

pub shape2 : (es : List ℕ) (e : Extents2) → extents2 e ≡ es → Shape es e.x e.y
unfolding row_count cells
shape2 es e h =
    record {
      width_is = ap row_width (sym h);
      count_is = ap row_count (sym h) ∙ mul-one e.y;
      cells_are = ap cells (sym h) ∙ rw mul-one refl;
    }

pub shape3 : (es : List ℕ) (e : Extents3) → extents3 e ≡ es → Shape es e.x (e.y * e.z)
unfolding row_count cells
shape3 es e h =
    record {
      width_is = ap row_width (sym h);
      count_is = ap row_count (sym h) ∙ rw mul-one refl;
      cells_are = ap cells (sym h) ∙ rw mul-one refl;
    }

-- no more than the most cells
pub few : (es : List ℕ) (width count : ℕ) → Shape es width count → InBounds es → width * count ≤ most_cells
few es width count s b = let e = s.cells_are in let most = b.1 in omega arith

-- a row is short, and has cells
pub width_short : (es : List ℕ) → AxesInBounds es → row_width es ≤ most_extent
width_short [] b = omega arith
width_short (e ∷ es) b = b.1

pub width_some : (es : List ℕ) (width count : ℕ) → Shape es width count → InBounds es → 0 < width
unfolding cells
width_some [] width count s b = let w = s.width_is in absurd (none-wide width w s.cells_are)
  where
    none-wide : (w : ℕ) → 0 ≡ w → 1 ≡ w * count → ⊥
    none-wide zero e h = omega (arith, h)
    none-wide (suc w) e h = omega (arith, e)
width_some (e ∷ es) width count s b = let w = s.width_is in let l = b.0.0 in omega arith
