-- Change request 4 by example: points on a map and off it, in one call, and the refusals in their order. One table,
-- proved of the definitions by computation.
use Rattle.std.specs.Prelude.{◌≡◌, refl, List, [], ◌∷◌, Float}
use Rattle.std.specs.Float.{nan, binary64}
use Rattle.std.specs.Float.Ieee.{round, add, sub, mul, lt, le, of_int, to_signed}
use Rattle.rules.specs.Floats.{zero_f, half_f, one_f, number_f}
use Rattle.rules.specs.RefusalNumbers.{given, refused, bad_buffer, unequal_lists}
use Rattle.rules.specs.RefusalNumbers.Entries.{Outcome, first_too_small, extents_refusal, head_refusal}
use Rattle.rules.specs.TheGridAndItsBounds.{cells, all_at_least, all_at_most, fits_capacity, strides_from, strides, one_per_cell}
use Rattle.rules.specs.Coordinates.{truncated, folded_axis, stencil_axis, stencil, times_strides, corners, corner_place, weighed, weighed_without}
use Rattle.rules.specs.Coordinates.{value_from, slope_from, gradient_from, sample_at, sample}
use Rattle.rules.specs.ManySamples.{Slots, slots_all, found_all, sampled_all, same_counts, sample_all_log_odds_entry}
use Rattle.rules.specs.FiguresToTestOn.{plus, head_of}

-- the odds of a map of 2 by 2: 0, 1, 2, 3
abbrev up_to3 : List Float
up_to3 = zero_f ∷ one_f ∷ plus 2 1 ∷ plus 3 1 ∷ []

-- (1/2, 1/2) between the cells, (5/4, 0) off them, (1, 1) on the last cell
abbrev three : List Float
three = half_f ∷ half_f ∷ plus 5 4 ∷ zero_f ∷ one_f ∷ one_f ∷ []

-- slots for three points, each number its own; marks of 9
abbrev held : Slots
held = record { samples = plus 10 1 ∷ plus 11 1 ∷ plus 12 1 ∷ plus 13 1 ∷ nan ∷ plus 15 1 ∷ plus 16 1 ∷ plus 17 1 ∷ plus 18 1 ∷ []; found = 9 ∷ 9 ∷ 9 ∷ [] }

abbrev asked : List Float → List Float → Slots → Outcome (Unit {0}) Slots
asked points odds s = sample_all_log_odds_entry binary64 (head_of 2 2 1) points odds s

pub record ManyPointsAnswers : Type 0 where
  -- Value, then gradient; the slot of nothing keeps what it held, NaN too.
  pub two-of-three :
      asked three up_to3 held
      ≡ record {
        answer = given tt;
        lent =
            record {
              samples = plus 3 2 ∷ one_f ∷ plus 2 1 ∷ plus 13 1 ∷ nan ∷ plus 15 1 ∷ plus 3 1 ∷ one_f ∷ plus 2 1 ∷ [];
              found = 1 ∷ 0 ∷ 1 ∷ [];
            };
      }
  -- No points: nothing to do.
  pub no_points : asked [] up_to3 (record { samples = []; found = [] }) ≡ record { answer = given tt; lent = record { samples = []; found = [] } }
  -- A point too few, a number too many in the slots, a mark too few: 14, and nothing is written.
  pub point_too_few : asked (half_f ∷ half_f ∷ one_f ∷ one_f ∷ []) up_to3 held ≡ record { answer = refused unequal_lists; lent = held }
  pub number_too_many : (asked [] up_to3 (record { samples = one_f ∷ []; found = [] })).answer ≡ refused unequal_lists
  pub mark_too_few : (asked (one_f ∷ one_f ∷ []) up_to3 (record { samples = one_f ∷ one_f ∷ one_f ∷ []; found = [] })).answer ≡ refused unequal_lists
  -- 4 is tried before 14.
  pub buffer_first : asked [] (one_f ∷ []) held ≡ record { answer = refused bad_buffer; lent = held }

pub many_points_answers : ManyPointsAnswers
unfolding number_f cells all_at_least all_at_most fits_capacity strides_from strides one_per_cell truncated folded_axis stencil_axis stencil times_strides corners corner_place weighed weighed_without value_from slope_from gradient_from sample_at sample first_too_small extents_refusal head_refusal slots_all found_all sampled_all same_counts sample_all_log_odds_entry round add sub mul lt le of_int to_signed
many_points_answers = record { two-of-three = refl; no_points = refl; point_too_few = refl; number_too_many = refl; mark_too_few = refl; buffer_first = refl }
