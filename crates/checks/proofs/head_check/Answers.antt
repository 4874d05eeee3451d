-- The extents decide first; a map whose extents passed has its cells counted without wrapping.
use Rattle.std.proofs.Common.{rules, sym}
use Rattle.rules.specs.RefusalNumbers.Entries.{head_refusal}
use Rattle.rules.specs.TheGridAndItsBounds.{one_per_cell}
use Rattle.laws.specs.Checks.{extents_passed}
use Rattle.checks.specs.Checking.{used_refusal}
use Rattle.checks.proofs.head_check.Goals as goal

pub returns-in_err-extents_check : goal.returns-in_err-extents_check
unfolding head_refusal
returns-in_err-extents_check g c = rw (← c.in_err-extents_check.ensures) (search rules)

pub cells-requires : goal.cells-requires
cells-requires g c = extents_passed _ (sym c.in_ok-extents_check.ensures)

pub returns : goal.returns
unfolding head_refusal used_refusal one_per_cell
returns g c = simp (
  sym c.in_ok-extents_check.ensures,
  c.used_check.ensures,
  c.cells.ensures,
  c.model_bounded-bounded.ensures,
  c.cuts_bounded-cuts.ensures,
)
