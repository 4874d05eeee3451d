-- What the plotter and a step answer as the structs that C sees. A line that is done stays as it is. Definitions only.
use Rattle.std.specs.Prelude.{true, false, []}
use Rattle.rules.specs.RefusalNumbers.{Answer, given, refused}
use Rattle.rules.specs.TheLine as TheLine
use Rattle.bresenham.specs.declared.line.BresenhamLine2.{BresenhamLine2}
use Rattle.bresenham.specs.declared.line.BresenhamLine3.{BresenhamLine3}
use Rattle.c_types.specs.declared.lines.CLineAnswer2.{CLineAnswer2}
use Rattle.c_types.specs.declared.lines.CLineAnswer3.{CLineAnswer3}
use Rattle.c_types.specs.declared.lines.CStep2.{CStep2}
use Rattle.c_types.specs.declared.lines.CStep3.{CStep3}
use Rattle.c_types.specs.Refusals.{plain, c_refusal}
use Rattle.c_types.specs.Structs.{cell_of2, cell_of3, line_of2, line_of3, no_line}

abbrev pub c_line2 : Answer TheLine.Line → CLineAnswer2
c_line2 (given l) = record { refusal = plain 0; line = line_of2 l }
c_line2 (refused r) = record { refusal = c_refusal r; line = line_of2 no_line }

abbrev pub c_line3 : Answer TheLine.Line → CLineAnswer3
c_line3 (given l) = record { refusal = plain 0; line = line_of3 l }
c_line3 (refused r) = record { refusal = c_refusal r; line = line_of3 no_line }

abbrev pub c_step2 : BresenhamLine2 → TheLine.Step → CStep2
c_step2 l (TheLine.yields c next) = record { found = true; cell = cell_of2 c; line = line_of2 next }
c_step2 l TheLine.none = record { found = false; cell = cell_of2 []; line = l }

abbrev pub c_step3 : BresenhamLine3 → TheLine.Step → CStep3
c_step3 l (TheLine.yields c next) = record { found = true; cell = cell_of3 c; line = line_of3 next }
c_step3 l TheLine.none = record { found = false; cell = cell_of3 []; line = l }
