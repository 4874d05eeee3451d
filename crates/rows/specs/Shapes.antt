-- The cells of extents, row by row. Assumes nothing.
use Rattle.std.specs.Prelude.{◌≡◌, refl, ◌*◌}
use Rattle.rules.specs.TheGridAndItsBounds.{cells}
use Rattle.rules.specs.MapRecord.{row_width, row_count}
use Rattle.types.specs.Points.{extents2, extents3}
use Rattle.types.specs.declared.points.Extents2.{Extents2}
use Rattle.types.specs.declared.points.Extents3.{Extents3}

pub by_rows2 : (e : Extents2) → cells (extents2 e) ≡ row_width (extents2 e) * row_count (extents2 e)
unfolding row_count cells
by_rows2 e = refl

pub by_rows3 : (e : Extents3) → cells (extents3 e) ≡ row_width (extents3 e) * row_count (extents3 e)
unfolding row_count cells
by_rows3 e = refl
