-- Change request 11 by example: vertical beams on a map of 2 by 2 by 3, at the ends of the profile and past them. One
-- table, proved of the definitions by computation.
use Rattle.std.specs.Prelude.{ℕ, ◌≡◌, refl, Bool, true, false, List, [], ◌∷◌, Float}
use Rattle.std.specs.Float.{binary64}
use Rattle.rules.specs.Floats.{zero_f}
use Rattle.rules.specs.RefusalNumbers.{Refusal, given, refused, bad_frame, outside_profile}
use Rattle.rules.specs.RefusalNumbers.Entries.{Outcome, first_too_small, extents_refusal, head_refusal}
use Rattle.rules.specs.TheGridAndItsBounds.{Head, Grid, cuts_below, cuts_in_bounds}
use Rattle.rules.specs.VerticalBeam.{Vertical, in_profile, column_place, column_marks, ends_occupied, cells_above, vertical_marks, update_vertical_entry}
use Rattle.rules.specs.FiguresToTestOn.{plus, minus, model, opened}

abbrev head : ℕ → Head
head frame = record { extents = 2 ∷ 2 ∷ 3 ∷ []; model = model; frame = frame }

abbrev fresh : Grid
fresh =
    record {
      odds = zero_f ∷ zero_f ∷ zero_f ∷ zero_f ∷ zero_f ∷ zero_f ∷ zero_f ∷ zero_f ∷ zero_f ∷ zero_f ∷ zero_f ∷ zero_f ∷ [];
      stamps = 0 ∷ 0 ∷ 0 ∷ 0 ∷ 0 ∷ 0 ∷ 0 ∷ 0 ∷ 0 ∷ 0 ∷ 0 ∷ 0 ∷ [];
    }

-- in the column (1, 0), whose cells stand at 1, 5 and 9
abbrev beam : ℕ → ℕ → Bool → Vertical
beam bottom top hit = record { x = 1; y = 0; bottom = bottom; top = top; hit = hit }

abbrev sent : ℕ → Vertical → Outcome ℕ Grid
sent frame b = update_vertical_entry binary64 (head frame) b fresh

-- a count, and the odds and stamps of the column
abbrev column : ℕ → Float → ℕ → Float → ℕ → Float → ℕ → Outcome ℕ Grid
column count a i b j c k =
    record {
      answer = given count;
      lent =
          record {
            odds = zero_f ∷ a ∷ zero_f ∷ zero_f ∷ zero_f ∷ b ∷ zero_f ∷ zero_f ∷ zero_f ∷ c ∷ zero_f ∷ zero_f ∷ [];
            stamps = 0 ∷ i ∷ 0 ∷ 0 ∷ 0 ∷ j ∷ 0 ∷ 0 ∷ 0 ∷ k ∷ 0 ∷ 0 ∷ [];
          };
    }

abbrev unmarked : Refusal → Outcome ℕ Grid
unmarked r = record { answer = refused r; lent = fresh }

pub record UprightAnswers : Type 0 where
  -- The whole column, with cloud in its highest cell.
  pub to_the_highest : sent 1 (beam 0 2 true) ≡ column 3 (minus 1 2) 2 (minus 1 2) 2 (plus 3 4) 3
  -- One cell is both ends.
  pub one_cell : sent 1 (beam 1 1 true) ≡ column 1 zero_f 0 (plus 3 4) 3 zero_f 0
  -- A top of the extent: all clear, though it is a Hit; from the highest cell as well.
  pub ran_out : sent 1 (beam 1 3 true) ≡ column 2 zero_f 0 (minus 1 2) 2 (minus 1 2) 2
  pub ran_out_at_once : sent 1 (beam 2 3 true) ≡ column 1 zero_f 0 zero_f 0 (minus 1 2) 2
  -- Past the extent, from the extent, downward, or off a side: 18.
  pub too_high : sent 1 (beam 0 4 false) ≡ unmarked outside_profile
  pub from_the_face : sent 1 (beam 3 3 false) ≡ unmarked outside_profile
  pub downward : sent 1 (beam 2 1 true) ≡ unmarked outside_profile
  pub off_the_first_side : sent 1 (record { x = 2; y = 0; bottom = 0; top = 1; hit = true }) ≡ unmarked outside_profile
  pub off_the_second_side : sent 1 (record { x = 0; y = 2; bottom = 0; top = 1; hit = true }) ≡ unmarked outside_profile
  -- 9 is tried before 18.
  pub frame-first : sent 0 (beam 0 4 false) ≡ unmarked bad_frame

pub upright_answers : UprightAnswers
unfolding opened first_too_small extents_refusal cuts_below cuts_in_bounds head_refusal in_profile column_place column_marks ends_occupied cells_above vertical_marks update_vertical_entry
upright_answers =
    record {
      to_the_highest = refl;
      one_cell = refl;
      ran_out = refl;
      ran_out_at_once = refl;
      too_high = refl;
      from_the_face = refl;
      downward = refl;
      off_the_first_side = refl;
      off_the_second_side = refl;
      frame-first = refl;
    }
