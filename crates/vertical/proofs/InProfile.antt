-- A vertical beam in its profile: the facts that the code's test stands for, and the places of a column's cells.
-- Assumes nothing.
use Prim.Native.Nat.{ℕ, ◌≤◌, ◌<◌}
use mathlib.Core.Path.{◌≡◌}
use mathlib.Core.Bool.{Bool, ◌&&◌}
use mathlib.Core.List.{List, [], ◌∷◌}
use borrow.Author.Tests.{lt-ltb}
use lib.IntN.{pos}
use lib.Dec.{T, eqb, ltb, leb, ltb→lt, leb→le, eqb→eq}
use lib.ListN.{length, get_or}
use lib.Ieee.Fits.{and_l, and_r}
use Rattle.rules.specs.RefusalNumbers.{given}
use Rattle.rules.specs.Coordinates.{flat_index, along, on_grid_from}
use Rattle.rules.specs.VerticalBeam.{Vertical, height, in_profile, column_place}

-- ---- the profile, as facts
pub record Inside (es : List ℕ) (b : Vertical) : Type 0 where
  pub axes : length es ≡ 3
  pub x_on : b.x < get_or es 0 0
  pub y_on : b.y < get_or es 1 0
  pub bottom_on : b.bottom < height es
  pub rises : b.bottom ≤ b.top
  pub ends : b.top ≤ height es

pub inside_of : (es : List ℕ) (b : Vertical) → T (in_profile es b) → Inside es b
unfolding in_profile
inside_of es b t =
    let o : Bool = eqb (length es) 3 in
    let p : Bool = ltb b.x (get_or es 0 0) in
    let q : Bool = ltb b.y (get_or es 1 0) in
    let r : Bool = ltb b.bottom (height es) in
    let s : Bool = leb b.bottom b.top in
    let u : Bool = leb b.top (height es) in
    let t₄ = and_l (o && p && q && r && s) u t in
    let t₃ = and_l (o && p && q && r) s t₄ in
    let t₂ = and_l (o && p && q) r t₃ in
    let t₁ = and_l (o && p) q t₂ in
    record {
      axes = eqb→eq (length es) 3 (and_l o p t₁);
      x_on = ltb→lt b.x (get_or es 0 0) (and_r o p t₁);
      y_on = ltb→lt b.y (get_or es 1 0) (and_r (o && p) q t₂);
      bottom_on = ltb→lt b.bottom (height es) (and_r (o && p && q) r t₃);
      rises = leb→le b.bottom b.top (and_r (o && p && q && r) s t₄);
      ends = leb→le b.top (height es) (and_r (o && p && q && r && s) u t);
    }

-- ---- a cell of the column stands at its place
pub on-grid : (ex ey ez x y z : ℕ) → x < ex → y < ey → z < ez
    → flat_index (ex ∷ ey ∷ ez ∷ []) (pos x ∷ pos y ∷ pos z ∷ []) ≡ given (column_place (ex ∷ ey ∷ ez ∷ []) x y z)
unfolding flat_index on_grid_from along column_place
on-grid ex ey ez x y z hx hy hz = simp (lt-ltb x ex hx, lt-ltb y ey hy, lt-ltb z ez hz)
