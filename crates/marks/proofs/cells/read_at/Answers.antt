-- A place that was found is in the list.
use Rattle.std.proofs.Common.{rules, ap}
use Rattle.types.specs.Answers.{place_of}
use Rattle.marks.proofs.cells.read_at.Goals as goal

pub offset_bounds-odds-at : goal.offset_bounds-odds-at
offset_bounds-odds-at c = let h = c.requires c.in-Ok.at (ap place_of c.in-Ok.is) in search rules

pub bounds-odds-at : goal.bounds-odds-at
bounds-odds-at c = c.requires c.in-Ok.at (ap place_of c.in-Ok.is)
