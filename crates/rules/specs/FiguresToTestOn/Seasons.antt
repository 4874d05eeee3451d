-- Change request 12 by example: a season of two nights on two columns, the refusals in their order, and how large a
-- report's numbers may be. One table, proved of the definitions by computation.
use Rattle.std.specs.Prelude.{ℕ, Bool, true, false, ◌≡◌, refl, List, [], ◌∷◌, ◌++◌}
use Rattle.rules.specs.RefusalNumbers.{given, refused, unequal_sizes, too_many_charts, bad_chart}
use Rattle.rules.specs.SeasonReport.{night_column, night, plus, run_report, good_column, good_columns, nine_counts, good_report_column, good_report}
use Rattle.rules.specs.SeasonReport.{empty_report, start_report_entry, add_charts_entry, add_chart_entry, join_reports_entry}

-- bands of 4, 4 and 0: 4 eighths by maximum overlap, 384 of 512 by random; and a clear column
abbrev monday : List ℕ
monday = 4 ∷ 4 ∷ 0 ∷ 4 ∷ 384 ∷ 0 ∷ 0 ∷ 0 ∷ 0 ∷ 0 ∷ []

-- an overcast column, and one band of 3: there the rules agree
abbrev tuesday : List ℕ
tuesday = 8 ∷ 1 ∷ 0 ∷ 8 ∷ 512 ∷ 0 ∷ 3 ∷ 0 ∷ 3 ∷ 192 ∷ []

abbrev both : List ℕ
both = 0 ∷ 0 ∷ 0 ∷ 0 ∷ 1 ∷ 0 ∷ 0 ∷ 0 ∷ 1 ∷ 1 ∷ 768 ∷ 896 ∷ 1 ∷ 0 ∷ 0 ∷ 1 ∷ 0 ∷ 0 ∷ 0 ∷ 0 ∷ 0 ∷ 0 ∷ 192 ∷ 192 ∷ []

-- a report of one chart and one column, with these three numbers behind its nine counts
abbrev one_night : ℕ → ℕ → ℕ → Bool
one_night differ maximum random = good_report 1 (1 ∷ 0 ∷ 0 ∷ 0 ∷ 0 ∷ 0 ∷ 0 ∷ 0 ∷ 0 ∷ differ ∷ maximum ∷ random ∷ []) 1

pub record SeasonAnswers : Type 0 where
  pub started : start_report_entry 2 both ≡ record { answer = given 0; lent = empty_report 2 }
  pub two_nights : add_charts_entry 0 (empty_report 2) 2 (monday ++ tuesday) ≡ record { answer = given 2; lent = both }
  pub night-after-night : add_chart_entry 1 (add_chart_entry 0 (empty_report 2) monday).lent tuesday ≡ record { answer = given 2; lent = both }
  pub joined : (join_reports_entry 2 both 2 both).answer ≡ given 4
  -- 19 before 20, 20 before 21; the report stays.
  pub too_short : add_chart_entry 5000 both (0 ∷ []) ≡ record { answer = refused unequal_sizes; lent = both }
  pub no_report : (add_chart_entry 0 (0 ∷ []) []).answer ≡ refused unequal_sizes
  pub too_many : add_chart_entry 4096 both monday ≡ record { answer = refused too_many_charts; lent = both }
  pub other_charts : add_chart_entry 3 both monday ≡ record { answer = refused bad_chart; lent = both }
  -- A band of 9, and a total that the bands do not give.
  pub band_of_nine : (add_chart_entry 0 (empty_report 1) (9 ∷ 0 ∷ 0 ∷ 9 ∷ 512 ∷ [])).answer ≡ refused bad_chart
  pub another_total : (add_chart_entry 0 (empty_report 1) (1 ∷ 0 ∷ 0 ∷ 2 ∷ 64 ∷ [])).answer ≡ refused bad_chart
  pub unequal_reports : (join_reports_entry 2 both 0 (empty_report 1)).answer ≡ refused unequal_sizes
  -- "whose other numbers exceed 512 a chart": 512 stands, 513 does not, each of the three
  pub as_large_as_may_be : one_night 512 512 512 ≡ true
  pub differ_too_often : one_night 513 512 512 ≡ false
  pub maximum_too_large : one_night 512 513 512 ≡ false
  pub random_too_large : one_night 512 512 513 ≡ false

pub season_answers : SeasonAnswers
unfolding night_column night plus run_report good_column good_columns nine_counts good_report_column good_report start_report_entry add_charts_entry join_reports_entry
season_answers =
    record {
      started = refl;
      two_nights = refl;
      night-after-night = refl;
      joined = refl;
      too_short = refl;
      no_report = refl;
      too_many = refl;
      other_charts = refl;
      band_of_nine = refl;
      another_total = refl;
      unequal_reports = refl;
      as_large_as_may_be = refl;
      differ_too_often = refl;
      maximum_too_large = refl;
      random_too_large = refl;
    }
