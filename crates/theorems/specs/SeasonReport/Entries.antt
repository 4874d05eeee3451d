-- The season's laws: the tests of the joined call are those of its parts, and the sums are the same. Assumes nothing.
use Rattle.std.specs.Prelude.{ℕ, ◌+◌, ◌*◌, ◌≡◌, Bool, true, ◌&&◌, List, ◌++◌, T, eqb, leb, Float, length, get_or, drop, replicate}
use Rattle.std.proofs.Math.Path.{refl}
use Rattle.std.proofs.Common.{sym, ap, ◌∙◌, mul-add, mul_assoc, add_assoc, zero-add, arith, length-append, get_or-drop, get_or-take}
use Rattle.std.proofs.Math.Nat.{mul-div_right}
use Rattle.std.specs.Float.Ieee.Fits.{and_i, eq→eqb}
use Rattle.std.proofs.lemmas.List.{length-replicate}
use Rattle.rules.specs.RefusalNumbers.{Refusal, given, refused}
use Rattle.rules.specs.RefusalNumbers.Entries.{Outcome}
use Rattle.rules.specs.LayerChart.{Cuts, column_chart, chart_of}
use Rattle.rules.specs.SeasonReport.{most_charts, plus, empty_report, run_report, report_columns, is_report, good_columns, good_report, add_charts_entry, join_reports_entry}
use Rattle.laws.specs.Floats.Tests.{eqb_iff}
use Rattle.chart.proofs.Bounds.{cover_most}
use Rattle.theorems.specs.LayerChart.Columns.{column-at}
use Rattle.theorems.specs.SeasonReport.{Alike, season, SeasonLaws}
use Rattle.season.proofs.Sums.{plus_assoc, zeros_plus}
use Rattle.season.proofs.Runs.{run_length, run_joined}
use Rattle.season.proofs.Good.{Proper, all_proper, all-good, all_sound_good, moved, run_sound}
use Rattle.theorems.specs.SeasonReport.Accepted.{tried, kept, alike_of, holds, front_proper, both-good, sizes, good, sum, entry_is, Accepted, accept, accepted, nothing_added, after-size, after-good}

-- ---- one run after another
five_each : (c n : ℕ) → 5 * c * n ≡ 5 * (c * n)
five_each c n = mul_assoc 5 c n

module _ (charts : ℕ) (report : List ℕ) (n m : ℕ) (first second : List ℕ) where
  abbrev w : ℕ
  w = report_columns (length report)

  module _ (a : Accepted charts report n first) where
    abbrev report' : List ℕ
    report' = plus report (run_report w n first)

    same_size : length report' ≡ length report
    same_size = after-size charts report n first a

    sizes-same : sizes report (n + m) (first ++ second) ≡ sizes report' m second
    sizes-same =
        let lengths = length-append first second in
        let parts = mul-add (5 * w) n m in
        let known = a.run_size in
        ap (λ b. is_report (length report) && b)
        (eqb_iff (length (first ++ second)) (5 * w * (n + m)) (length second) (5 * w * m) (λ e. omega arith) (λ e. omega arith))
        ∙ sym (ap (λ (k : ℕ). is_report k && eqb (length second) (5 * report_columns k * m)) same_size)

    good-same : good charts report (n + m) (first ++ second) ≡ good (charts + n) report' m second
    good-same =
        let columns : good_columns (first ++ second) (w * (n + m)) ≡ good_columns second (w * m) =
        ap (good_columns (first ++ second)) (mul-add w n m) ∙ both-good first second (w * n) (a.run_size ∙ five_each w n) (w * m) a.run_good in
        let before = holds (good_report charts report w) a.report_good in
        let after = holds (good_report (charts + n) report' w) (after-good charts report n first a) in
        ap (λ b. b && good_report charts report w) columns ∙ ap (λ b. good_columns second (w * m) && b) (before ∙ sym after)
        ∙ sym (ap (λ (k : ℕ). good_columns second (report_columns k * m) && good_report (charts + n) report' (report_columns k)) same_size)

    sum_same : sum charts report (n + m) (first ++ second) ≡ sum (charts + n) report' m second
    sum_same =
        let lists : plus report (run_report w (n + m) (first ++ second)) ≡ plus report' (run_report w m second) =
        ap (plus report) (run_joined w n m first second a.run_size)
        ∙ sym (plus_assoc report (run_report w n first) (run_report w m second) (a.report_size ∙ sym (run_length w n first)) (run_length w n first ∙ sym (run_length w m second))) in
        rw (lists, sym (add_assoc charts n m)) (rw same_size refl)

    pub added_twice : Alike (add_charts_entry charts report (n + m) (first ++ second)) (add_charts_entry (charts + n) report' m second)
    added_twice =
        rw (entry_is charts report (n + m) (first ++ second), entry_is (charts + n) report' m second)
        (alike_of _ _ _ _ _ _ report report' _ _ sizes-same (ap (λ (k : ℕ). leb k most_charts) (sym (add_assoc charts n m))) good-same sum_same)

given_is : (k j : ℕ) → given k ≡ given j → k ≡ j
given_is k j e = cc

night_by_night : (charts : ℕ) (report : List ℕ) (n m k : ℕ) (first second : List ℕ) → (add_charts_entry charts report n first).answer ≡ given k
    → Alike (add_charts_entry charts report (n + m) (first ++ second)) (add_charts_entry k (add_charts_entry charts report n first).lent m second)
night_by_night charts report n m k first second e =
    let a = accepted charts report n first k e in
    let count : charts + n ≡ k = given_is (charts + n) k (sym (ap (λ o. o.answer) a.outcome) ∙ e) in
    rw (ap (λ o. o.lent) a.outcome, sym count) (added_twice charts report n m first second a)

beginning : (charts : ℕ) (report : List ℕ) (n m k : ℕ) (first second : List ℕ) → length first ≡ 5 * report_columns (length report) * n
    → (add_charts_entry charts report (n + m) (first ++ second)).answer ≡ given k → (add_charts_entry charts report n first).answer ≡ given (charts + n)
beginning charts report n m k first second size e =
    let a = accepted charts report (n + m) (first ++ second) k e in
    let w : ℕ = report_columns (length report) in
    let front : T (good_columns first (w * n)) =
    all-good first (w * n) (λ i h. front_proper first second (w * n) (size ∙ five_each w n) i h
    (all_proper (first ++ second) (w * (n + m)) a.run_good i (omega (arith, mul-add w n m)))) in
    ap (λ o. o.answer)
    (accept charts report n first (and_i (is_report (length report)) _ (eq→eqb a.report_size) (eq→eqb size)) (omega (arith, a.few))
    (and_i (good_columns first (w * n)) _ front a.report_good)).outcome

-- ---- joining
empty-size : (columns : ℕ) → length (empty_report columns) ≡ 12 * columns
empty-size columns = length-replicate (12 * columns) 0

empty_columns : (columns : ℕ) → report_columns (length (empty_report columns)) ≡ columns
empty_columns columns = ap report_columns (empty-size columns) ∙ mul-div_right columns (omega arith)

-- the season's report is the run's
season_is : (columns n : ℕ) (run : List ℕ) → (season columns n run).answer ≡ given n → (season columns n run).lent ≡ run_report columns n run
season_is columns n run e =
    let a = accepted 0 (empty_report columns) n run n e in
    ap (λ o. o.lent) a.outcome ∙ ap (λ (k : ℕ). plus (empty_report columns) (run_report k n run)) (empty_columns columns)
    ∙ ap (λ (k : ℕ). plus (replicate k 0) (run_report columns n run)) (sym (run_length columns n run)) ∙ zeros_plus (run_report columns n run)

season-good : (columns n : ℕ) (run : List ℕ) → (season columns n run).answer ≡ given n → T (good_report n (run_report columns n run) columns)
season-good columns n run e =
    let a = accepted 0 (empty_report columns) n run n e in
    let run_good : T (good_columns run (columns * n)) = rw empty_columns at a.run_good in
    all_sound_good n (run_report columns n run) columns (run_sound columns n run (all_proper run (columns * n) run_good))

module _ (charts : ℕ) (report : List ℕ) (more : ℕ) (other : List ℕ) where
  abbrev join_sizes : Bool
  join_sizes = is_report (length report) && eqb (length other) (length report)

  abbrev join_good : Bool
  join_good = good_report charts report (report_columns (length report)) && good_report more other (report_columns (length report))

  abbrev join_sum : Outcome ℕ (List ℕ)
  join_sum = record { answer = given (charts + more); lent = plus report other }

  join_is : join_reports_entry charts report more other ≡ tried join_sizes (leb (charts + more) most_charts) join_good report join_sum
  unfolding join_reports_entry
  join_is = refl

  nothing_joined : (r : Refusal) → (join_reports_entry charts report more other).answer ≡ refused r → (join_reports_entry charts report more other).lent ≡ report
  nothing_joined r e = rw join_is (kept join_sizes (leb (charts + more) most_charts) join_good report join_sum (charts + more) r refl (rw join_is at e))

module _ (columns n m : ℕ) (first second : List ℕ) (e : (season columns n first).answer ≡ given n) (g : (season columns m second).answer ≡ given m) where
  abbrev A : List ℕ
  A = run_report columns n first

  abbrev B : List ℕ
  B = run_report columns m second

  abbrev empty : List ℕ
  empty = empty_report columns

  columns_of_A : report_columns (length A) ≡ columns
  columns_of_A = ap report_columns (run_length columns n first) ∙ mul-div_right columns (omega arith)

  size_of_A : length A ≡ 12 * report_columns (length A)
  size_of_A = run_length columns n first ∙ ap (λ (k : ℕ). 12 * k) (sym columns_of_A)

  join_sizes_lem : join_sizes n A m B ≡ true
  join_sizes_lem = holds _ (and_i (is_report (length A)) _ (eq→eqb size_of_A) (eq→eqb (run_length columns m second ∙ sym (run_length columns n first))))

  join_good_lem : join_good n A m B ≡ true
  join_good_lem =
      holds _ (and_i (good_report n A (report_columns (length A))) _ (rw columns_of_A (season-good columns n first e)) (rw columns_of_A (season-good columns m second g)))

  abbrev w₀ : ℕ
  w₀ = report_columns (length empty)

  run_sizes : sizes empty (n + m) (first ++ second) ≡ true
  run_sizes =
      let a = accepted 0 empty n first n e in
      let b = accepted 0 empty m second m g in
      let size : length (first ++ second) ≡ 5 * w₀ * (n + m) = length-append first second ∙ omega (arith, a.run_size, b.run_size, mul-add (5 * w₀) n m) in
      holds _ (and_i (is_report (length empty)) _ (eq→eqb a.report_size) (eq→eqb size))

  run_all_good : good 0 empty (n + m) (first ++ second) ≡ true
  run_all_good =
      let a = accepted 0 empty n first n e in
      let b = accepted 0 empty m second m g in
      let both : good_columns (first ++ second) (w₀ * (n + m)) ≡ true =
      ap (good_columns (first ++ second)) (mul-add w₀ n m) ∙ both-good first second (w₀ * n) (a.run_size ∙ five_each w₀ n) (w₀ * m) a.run_good
      ∙ holds (good_columns second (w₀ * m)) b.run_good in
      rw (both, holds (good_report 0 empty w₀) a.report_good) refl

  sums : join_sum n A m B ≡ sum 0 empty (n + m) (first ++ second)
  sums =
      let a = accepted 0 empty n first n e in
      let size : length first ≡ 5 * columns * n = a.run_size ∙ ap (λ (k : ℕ). 5 * k * n) (empty_columns columns) in
      let whole : List ℕ = run_report columns (n + m) (first ++ second) in
      let lists : plus A B ≡ plus empty (run_report w₀ (n + m) (first ++ second)) =
      sym (ap (λ (k : ℕ). plus empty (run_report k (n + m) (first ++ second))) (empty_columns columns)
      ∙ ap (λ (k : ℕ). plus (replicate k 0) whole) (sym (run_length columns (n + m) (first ++ second))) ∙ zeros_plus whole ∙ run_joined columns n m first second size) in
      rw (lists, zero-add) refl

  joining : Alike (join_reports_entry n (season columns n first).lent m (season columns m second).lent) (season columns (n + m) (first ++ second))
  joining =
      rw (season_is columns n first e, season_is columns m second g, join_is n A m B, entry_is 0 empty (n + m) (first ++ second))
      (alike_of _ _ _ _ _ _ A empty _ _ (join_sizes_lem ∙ sym run_sizes) (ap (λ (k : ℕ). leb k most_charts) (sym (zero-add (n + m)))) (join_good_lem ∙ sym run_all_good) sums)

-- ---- a map's chart
module _ (columns layers : ℕ) (ceiling : Float) (cuts : Cuts) (odds : List Float) where
  one_proper : (k : ℕ) → Proper (column_chart columns layers ceiling cuts odds k) 0
  unfolding column_chart
  one_proper k = record { low = cover_most ceiling _; middle = cover_most ceiling _; high = cover_most ceiling _; total = refl; random = refl }

  charts_are_good : (n : ℕ) → T (good_columns (chart_of columns layers ceiling cuts odds n) n)
  charts_are_good n =
      let chart : List ℕ = chart_of columns layers ceiling cuts odds n in
      all-good chart n (λ k h. moved (column_chart columns layers ceiling cuts odds k) chart 0 (5 * k)
      (λ i g. sym (get_or-drop (5 * k) chart i 0) ∙ sym (get_or-take 5 (drop (5 * k) chart) i 0 g)
      ∙ ap (λ (l : List ℕ). get_or l i 0) (column-at columns layers ceiling cuts odds n k h)
      ∙ ap (λ (j : ℕ). get_or (column_chart columns layers ceiling cuts odds k) j 0) (sym (zero-add i)))
      (one_proper k))

pub season_laws : SeasonLaws
season_laws =
    record {
      night_by_night = night_by_night;
      beginning = beginning;
      joining = joining;
      nothing_added = nothing_added;
      nothing_joined = nothing_joined;
      charts_are_good = charts_are_good;
    }
