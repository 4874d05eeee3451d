-- Each index is a call's.
use Rattle.rules.specs.Coordinates.{truncated_point}
use Rattle.bresenham.proofs.Laws.{held}
use Rattle.bresenham.proofs.line.Extents3Lines.current_cell.Goals as goal

pub returns : goal.returns
unfolding truncated_point
returns c = let x = c.cell_of in
    let y = c.cell_of-2 in
    let z = c.cell_of-3 in
    simp (held x.type_inv x.ensures, held y.type_inv y.ensures, held z.type_inv z.ensures)
