-- Request 12, "Season report": "Given many charts of equal size: for each column, how often each maximum-overlap total
-- from 0 to 8 stood, how often the two overlap rules differ, and the sum of each total over a common 512, all exact." A
-- report is a number of charts and a flat list of twelve numbers a column: nine counts, how often the rules differ, and
-- the two sums, by maximum and by random overlap. Definitions only.
use Rattle.std.specs.Prelude.{ℕ, zero, suc, ◌+◌, ◌*◌, ◌/◌, Bool, true, cond, ◌&&◌, List, [], ◌∷◌, ◌++◌, eqb, leb, length, get_or, drop, replicate}
use Rattle.rules.specs.RefusalNumbers.{given, unequal_sizes, too_many_charts, bad_chart}
use Rattle.rules.specs.RefusalNumbers.Entries.{Outcome, unless_refused, or_else, unless_holds}
use Rattle.rules.specs.LayerChart.{maximum_overlap, random_overlap}

-- "At most 4,096 charts."
abbrev pub most_charts : ℕ
most_charts = 4_096

-- numbers of a chart and of a report, a column
abbrev pub chart_width : ℕ
chart_width = 5

abbrev pub report_width : ℕ
report_width = 12

-- ---- what one night adds
abbrev pub stood : ℕ → ℕ → ℕ
stood total grade = cond (eqb total grade) 1 0

abbrev pub differs : ℕ → ℕ → ℕ
differs total random = cond (eqb (64 * total) random) 0 1

-- a column with these totals, the first of 8 and the second of 512
unfoldable pub night_column : ℕ → ℕ → List ℕ
night_column total random =
    stood total 0 ∷ stood total 1 ∷ stood total 2 ∷ stood total 3 ∷ stood total 4 ∷ stood total 5 ∷ stood total 6 ∷ stood total 7 ∷ stood total 8
    ∷ differs total random ∷ 64 * total ∷ random ∷ []

-- the first so many columns of a chart
unfoldable pub night : List ℕ → ℕ → List ℕ
night chart zero = []
night chart (suc n) = night chart n ++ night_column (get_or chart (5 * n + 3) 0) (get_or chart (5 * n + 4) 0)

-- number by number
unfoldable pub plus : List ℕ → List ℕ → List ℕ
plus [] ys = []
plus (x ∷ xs) [] = x ∷ xs
plus (x ∷ xs) (y ∷ ys) = (x + y) ∷ plus xs ys

abbrev pub empty_report : ℕ → List ℕ
empty_report columns = replicate (report_width * columns) 0

-- the report of a run: so many charts of so many columns, one after another in one list
unfoldable pub run_report : ℕ → ℕ → List ℕ → List ℕ
run_report columns zero charts = empty_report columns
run_report columns (suc n) charts = plus (night charts columns) (run_report columns n (drop (chart_width * columns) charts))

-- ---- what is refused
-- "19 for unequal sizes": the columns of a report's list, which has twelve numbers for each, and a run of charts with
-- five for each
abbrev pub report_columns : ℕ → ℕ
report_columns size = size / report_width

abbrev pub is_report : ℕ → Bool
is_report size = eqb size (report_width * report_columns size)

-- "a chart with a band above 8 or totals its bands don't give"
unfoldable pub good_column : List ℕ → ℕ → Bool
good_column chart at =
    let a : ℕ = get_or chart at 0 in
    let b : ℕ = get_or chart (at + 1) 0 in
    let c : ℕ = get_or chart (at + 2) 0 in
    leb a 8 && leb b 8 && leb c 8 && eqb (get_or chart (at + 3) 0) (maximum_overlap a b c) && eqb (get_or chart (at + 4) 0) (random_overlap a b c)

-- the first so many columns; those of a run are its charts' in order
unfoldable pub good_columns : List ℕ → ℕ → Bool
good_columns chart zero = true
good_columns chart (suc n) = good_columns chart n && good_column chart (chart_width * n)

-- "a report column whose nine counts don't add up to its charts or whose other numbers exceed 512 a chart"
unfoldable pub nine_counts : List ℕ → ℕ → ℕ
nine_counts report at =
    get_or report at 0 + get_or report (at + 1) 0 + get_or report (at + 2) 0 + get_or report (at + 3) 0 + get_or report (at + 4) 0 + get_or report (at + 5) 0
    + get_or report (at + 6) 0 + get_or report (at + 7) 0 + get_or report (at + 8) 0

unfoldable pub good_report_column : ℕ → List ℕ → ℕ → Bool
good_report_column charts report at =
    eqb (nine_counts report at) charts && leb (get_or report (at + 9) 0) (512 * charts) && leb (get_or report (at + 10) 0) (512 * charts)
    && leb (get_or report (at + 11) 0) (512 * charts)

unfoldable pub good_report : ℕ → List ℕ → ℕ → Bool
good_report charts report zero = true
good_report charts report (suc n) = good_report charts report n && good_report_column charts report (report_width * n)

-- ---- the entries: the charts that the report has afterwards, and its list; "in that order, and the report stays as
-- it stood"
unfoldable pub start_report_entry : ℕ → List ℕ → Outcome ℕ (List ℕ)
start_report_entry columns report =
    unless_refused (unless_holds true (eqb (length report) (report_width * columns)) unequal_sizes) report
    (record { answer = given 0; lent = empty_report columns })

-- a run of so many charts, one after another in one list
unfoldable pub add_charts_entry : ℕ → List ℕ → ℕ → List ℕ → Outcome ℕ (List ℕ)
add_charts_entry charts report count run =
    let columns : ℕ = report_columns (length report) in
    unless_refused
    (or_else (unless_holds true (is_report (length report) && eqb (length run) (chart_width * columns * count)) unequal_sizes)
    (or_else (unless_holds true (leb (charts + count) most_charts) too_many_charts)
    (unless_holds true (good_columns run (columns * count) && good_report charts report columns) bad_chart))) report
    (record { answer = given (charts + count); lent = plus report (run_report columns count run) })

-- one night
abbrev pub add_chart_entry : ℕ → List ℕ → List ℕ → Outcome ℕ (List ℕ)
add_chart_entry charts report chart = add_charts_entry charts report 1 chart

-- "joining two reports": the second into the first
unfoldable pub join_reports_entry : ℕ → List ℕ → ℕ → List ℕ → Outcome ℕ (List ℕ)
join_reports_entry charts report more other =
    let columns : ℕ = report_columns (length report) in
    unless_refused
    (or_else (unless_holds true (is_report (length report) && eqb (length other) (length report)) unequal_sizes)
    (or_else (unless_holds true (leb (charts + more) most_charts) too_many_charts)
    (unless_holds true (good_report charts report columns && good_report more other columns) bad_chart))) report
    (record { answer = given (charts + more); lent = plus report other })
