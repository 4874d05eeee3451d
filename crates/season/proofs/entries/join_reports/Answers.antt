-- No number of two good reports is above 512 a chart, so none of the sum wraps.
use Prim.Native.Nat.{◌/◌, ◌*◌, ◌+◌, ◌≤◌}
use mathlib.Core.Path.{◌≡◌, sym, ◌∙◌}
use native.Mathlib.Omega.{arith}
use mathlib.Core.Bool.{◌&&◌}
use lib.Dec.{T, eqb, eqb→eq, leb→le}
use Rattle.rules.specs.SeasonReport.{most_charts, is_report}
use lib.Ieee.Fits.{and_l, and_r}
use lib.ListN.{length}
use Rattle.season.proofs.Good.{all_sound, sound_most}
use Rattle.season.proofs.entries.join_reports.Goals as goal

pub add_all-requires-clause-roomy : goal.add_all-requires-clause-roomy
add_all-requires-clause-roomy c = let a = c.args in
    let held : T (is_report (length a.report.now) && eqb (length a.other.now) (length a.report.now)) = rw (sym c.if-not-same_reports.ensures) tt in
    let size : length a.report.now ≡ 12 * (length a.report.now / 12) = eqb→eq _ _ (and_l _ _ held) in
    let few : a.charts + a.more ≤ most_charts = leb→le _ _ (rw (sym c.if-not-few.ensures) tt) in
    let columns = length a.report.now / 12 in
    let first = all_sound a.charts a.report.now columns (rw (sym c.if-not-good_report.ensures) tt) in
    let second = all_sound a.more a.other.now columns (rw (sym c.if-not-good_report-2.ensures) tt) in
    λ i. let p = sound_most a.charts a.report.now columns size first i in
    let q = sound_most a.more a.other.now columns (eqb→eq _ _ (and_r _ _ held) ∙ size) second i in
    omega arith
