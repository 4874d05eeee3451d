-- The head takes over the frame alone, and so is the one that is answered by value.
use Rattle.grid_map.specs.Heads.{head_of}
use Rattle.lent.proofs.Opening.{advanced}
use Rattle.lent.proofs.head.begin_scan.Goals as goal

pub returns : goal.returns
returns g c = advanced (head_of g.E.Axes.extents g.E.Axes.model_of c.args.map.now) (head_of g.E.Axes.extents g.E.Axes.model_of c.in_ok-opened.opened) c.args.stamps.now c.begin_scan.new.stamps c.in_ok-opened.ensures
