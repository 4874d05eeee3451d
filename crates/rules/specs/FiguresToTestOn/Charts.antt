-- Change request 8 by example: a chart of 2 by 2 columns and three layers, ceiling 4; and each limit of the grades,
-- with the floats beside it. One table, proved of the definitions by computation.
use Rattle.std.specs.Prelude.{ℕ, ◌≡◌, refl, true, false, List, [], ◌∷◌, map, pos, negsuc, Float}
use Rattle.std.specs.Float.{nan, fin}
use Rattle.std.specs.Float.Ieee.{lt, eq, le, is_nan}
use Rattle.rules.specs.Floats.{zero_f, one_f}
use Rattle.rules.specs.RefusalNumbers.{given, refused, no_room, nan_column}
use Rattle.rules.specs.RefusalNumbers.Entries.{Outcome}
use Rattle.rules.specs.LayerChart.{Cuts, limits, reached, eighths, band_cover, stacked, cells_between, column_chart, chart_of, any_nan, first_nan, chart_refusal, charted}

abbrev plus : ℕ → Float
plus n = fin false n (pos 0)

abbrev minus : ℕ → Float
minus n = fin true n (pos 0)

abbrev cuts : Cuts
cuts = record { first = 1; second = 2 }

-- four columns, layer by layer: odds of 0, 4, -4, 1 below; -1, 0, -4, 4 in the middle; 2, -4, -4, 1 above
abbrev odds : List Float
odds = zero_f ∷ plus 4 ∷ minus 4 ∷ one_f ∷ minus 1 ∷ zero_f ∷ minus 4 ∷ plus 4 ∷ plus 2 ∷ minus 4 ∷ minus 4 ∷ one_f ∷ []

abbrev asked : List Float → List ℕ → Outcome (Unit {0}) (List ℕ)
asked xs chart = charted 4 3 (plus 4) cuts xs chart

-- room for four columns, and one number after them
abbrev room : List ℕ
room = 9 ∷ 9 ∷ 9 ∷ 9 ∷ 9 ∷ 9 ∷ 9 ∷ 9 ∷ 9 ∷ 9 ∷ 9 ∷ 9 ∷ 9 ∷ 9 ∷ 9 ∷ 9 ∷ 9 ∷ 9 ∷ 9 ∷ 9 ∷ 77 ∷ []

-- the float below each limit, the limit, and the float above it
abbrev beside_limits : List Float
beside_limits =
    fin true 8763600222181976 (negsuc 51) ∷ fin true 8763600222181975 (negsuc 51) ∷ fin true 8763600222181974 (negsuc 51)
    ∷ fin true 4947709893870348 (negsuc 51) ∷ fin true 4947709893870347 (negsuc 51) ∷ fin true 4947709893870346 (negsuc 51)
    ∷ fin true 4601108177687635 (negsuc 52) ∷ fin true 4601108177687634 (negsuc 52) ∷ fin true 4601108177687633 (negsuc 52)
    ∷ fin true 1 (negsuc 1073) ∷ zero_f ∷ fin false 1 (negsuc 1073)
    ∷ fin false 4601108177687633 (negsuc 52) ∷ fin false 4601108177687634 (negsuc 52) ∷ fin false 4601108177687635 (negsuc 52)
    ∷ fin false 4947709893870346 (negsuc 51) ∷ fin false 4947709893870347 (negsuc 51) ∷ fin false 4947709893870348 (negsuc 51)
    ∷ fin false 8763600222181974 (negsuc 51) ∷ fin false 8763600222181975 (negsuc 51) ∷ fin false 8763600222181976 (negsuc 51)
    ∷ []

pub record ChartAnswers : Type 0 where
  -- of the odds -4 is at no limit, -1 at two, 0 at four, 1 at five, 2 at all seven; the ceiling gives 8. The number
  -- after the chart stays.
  pub four-columns :
      asked odds room
      ≡ record {
        answer = given tt;
        lent = 4 ∷ 2 ∷ 7 ∷ 7 ∷ 488 ∷ 8 ∷ 4 ∷ 0 ∷ 8 ∷ 512 ∷ 0 ∷ 0 ∷ 0 ∷ 0 ∷ 0 ∷ 5 ∷ 8 ∷ 5 ∷ 8 ∷ 512 ∷ 77 ∷ [];
      }
  -- Too short by a number of one: 11 with what is needed, before 17.
  pub too_short : asked (nan ∷ odds) [] ≡ record { answer = refused (no_room 20); lent = [] }
  -- NaN in column 2, in its last layer, and in column 3, in its first: the first column is told, and the list stays.
  pub first-column :
      asked (zero_f ∷ zero_f ∷ zero_f ∷ nan ∷ zero_f ∷ zero_f ∷ zero_f ∷ zero_f ∷ zero_f ∷ zero_f ∷ nan ∷ zero_f ∷ []) room
      ≡ record { answer = refused (nan_column 2); lent = room }
  -- A ceiling below a limit: at the ceiling the grade is 8, whatever limits lie above it.
  pub low_ceiling : eighths one_f one_f ≡ 8
  -- Each limit counts from itself on; below the ceiling the grades run 0 to 7.
  pub at-each-limit :
      map (eighths (plus 4)) beside_limits
      ≡ 0 ∷ 1 ∷ 1 ∷ 1 ∷ 2 ∷ 2 ∷ 2 ∷ 3 ∷ 3 ∷ 3 ∷ 4 ∷ 4 ∷ 4 ∷ 5 ∷ 5 ∷ 5 ∷ 6 ∷ 6 ∷ 6 ∷ 7 ∷ 7 ∷ []

pub chart_answers : ChartAnswers
unfolding reached eighths band_cover stacked cells_between column_chart chart_of any_nan first_nan chart_refusal charted lt eq le is_nan
chart_answers = record { four-columns = refl; too_short = refl; first-column = refl; low_ceiling = refl; at-each-limit = refl }
