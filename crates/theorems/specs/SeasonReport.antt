-- The season report: night by night is all at once, and joining two reports is the report of the joined run; of the
-- entries, refusals included. `Accepted` and `Entries` have the proofs; the rules' sums, runs and tests stand in
-- season/proofs. Definitions only.
pub mod Accepted
pub mod Entries
use Rattle.std.specs.Prelude.{ℕ, ◌+◌, ◌*◌, ◌≡◌, List, ◌++◌, T, Float, length}
use Rattle.rules.specs.RefusalNumbers.{Refusal, given, refused}
use Rattle.rules.specs.RefusalNumbers.Entries.{Outcome}
use Rattle.rules.specs.LayerChart.{Cuts, chart_of}
use Rattle.rules.specs.SeasonReport.{chart_width, empty_report, report_columns, good_columns, add_charts_entry, join_reports_entry}

-- two calls answer the same, and leave the same where they were not refused; a refused call leaves what it was given
pub record Alike (x y : Outcome ℕ (List ℕ)) : Type 0 where
  pub answers : x.answer ≡ y.answer
  pub reports : (charts : ℕ) → x.answer ≡ given charts → x.lent ≡ y.lent

-- the report of a run of so many charts of so many columns, from an empty one on
abbrev pub season : ℕ → ℕ → List ℕ → Outcome ℕ (List ℕ)
season columns n run = add_charts_entry 0 (empty_report columns) n run

pub record SeasonLaws : Type 0 where
  -- "Night by night equals all at once": where a first run was added, adding a second to what it left is adding both at
  -- once.
  pub night_by_night : (charts : ℕ) (report : List ℕ) (n m k : ℕ) (first second : List ℕ) → (add_charts_entry charts report n first).answer ≡ given k
      → Alike (add_charts_entry charts report (n + m) (first ++ second)) (add_charts_entry k (add_charts_entry charts report n first).lent m second)
  -- What is added at once can be added in parts: its beginning is accepted too.
  pub beginning : (charts : ℕ) (report : List ℕ) (n m k : ℕ) (first second : List ℕ) → length first ≡ chart_width * report_columns (length report) * n
      → (add_charts_entry charts report (n + m) (first ++ second)).answer ≡ given k → (add_charts_entry charts report n first).answer ≡ given (charts + n)
  -- "joining two reports equals the report of the joined run"
  pub joining : (columns n m : ℕ) (first second : List ℕ) → (season columns n first).answer ≡ given n → (season columns m second).answer ≡ given m
      → Alike (join_reports_entry n (season columns n first).lent m (season columns m second).lent) (season columns (n + m) (first ++ second))
  -- "the report stays as it stood"
  pub nothing_added : (charts : ℕ) (report : List ℕ) (n : ℕ) (run : List ℕ) (r : Refusal) → (add_charts_entry charts report n run).answer ≡ refused r
      → (add_charts_entry charts report n run).lent ≡ report
  pub nothing_joined : (charts : ℕ) (report : List ℕ) (more : ℕ) (other : List ℕ) (r : Refusal)
      → (join_reports_entry charts report more other).answer ≡ refused r → (join_reports_entry charts report more other).lent ≡ report
  -- A map's chart is never refused as a chart.
  pub charts_are_good : (columns layers : ℕ) (ceiling : Float) (cuts : Cuts) (odds : List Float) (n : ℕ)
      → T (good_columns (chart_of columns layers ceiling cuts odds n) n)
