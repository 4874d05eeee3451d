-- Points, directions, cells and extents of two and three axes as the rules' lists, axis 0 first. At the end, that two
-- axes and three are few. Assumes nothing.
use Rattle.std.specs.Prelude.{ℕ, ◌≤◌, refl, List, [], ◌∷◌, ℤ, Float}
use Rattle.std.proofs.Math.Nat.{le_refl}
use borrow.Author.Tests.{ltb-false}
use Rattle.types.specs.declared.points.Point2.{Point2}
use Rattle.types.specs.declared.points.Point3.{Point3}
use Rattle.types.specs.declared.points.Vector2.{Vector2}
use Rattle.types.specs.declared.points.Vector3.{Vector3}
use Rattle.types.specs.declared.points.Cell2.{Cell2}
use Rattle.types.specs.declared.points.Cell3.{Cell3}
use Rattle.types.specs.declared.points.Extents2.{Extents2}
use Rattle.types.specs.declared.points.Extents3.{Extents3}

abbrev pub point2 : Point2 → List Float
point2 p = p.x ∷ p.y ∷ []

abbrev pub point3 : Point3 → List Float
point3 p = p.x ∷ p.y ∷ p.z ∷ []

abbrev pub vector2 : Vector2 → List Float
vector2 v = v.x ∷ v.y ∷ []

abbrev pub vector3 : Vector3 → List Float
vector3 v = v.x ∷ v.y ∷ v.z ∷ []

abbrev pub cell2 : Cell2 → List ℤ
cell2 c = c.x ∷ c.y ∷ []

abbrev pub cell3 : Cell3 → List ℤ
cell3 c = c.x ∷ c.y ∷ c.z ∷ []

abbrev pub extents2 : Extents2 → List ℕ
extents2 e = e.x ∷ e.y ∷ []

abbrev pub extents3 : Extents3 → List ℕ
extents3 e = e.x ∷ e.y ∷ e.z ∷ []

pub two_few : 2 ≤ 3
two_few = ltb-false 3 2 refl

pub three_few : 3 ≤ 3
three_few = le_refl 3
