-- The general beam of a vertical one, on a map of 2 by 2 by 3 at the ends of the profile: it leaves what the vertical
-- beam leaves (`Upright` of the rules' figures). By computation of the definitions.
use Rattle.std.specs.Prelude.{ℕ, ◌≡◌, refl, Bool, true, false, List, [], ◌∷◌, Float}
use Rattle.std.specs.Float.{binary64}
use Rattle.rules.specs.Floats.{zero_f}
use Rattle.rules.specs.RefusalNumbers.{given}
use Rattle.rules.specs.RefusalNumbers.Entries.{Outcome, first_too_small, extents_refusal, head_refusal, update_ray_entry}
use Rattle.rules.specs.TheGridAndItsBounds.{Head, Grid, cuts_below, cuts_in_bounds}
use Rattle.rules.specs.VerticalBeam.{Vertical}
use Rattle.theorems.specs.PromiseThree.Examples.{plus, minus, model, opened}
use Rattle.theorems.specs.VerticalBeam.{general_beam}

abbrev head : ℕ → Head
head frame = record { extents = 2 ∷ 2 ∷ 3 ∷ []; model = model; frame = frame }

abbrev fresh : Grid
fresh =
    record {
      odds = zero_f ∷ zero_f ∷ zero_f ∷ zero_f ∷ zero_f ∷ zero_f ∷ zero_f ∷ zero_f ∷ zero_f ∷ zero_f ∷ zero_f ∷ zero_f ∷ [];
      stamps = 0 ∷ 0 ∷ 0 ∷ 0 ∷ 0 ∷ 0 ∷ 0 ∷ 0 ∷ 0 ∷ 0 ∷ 0 ∷ 0 ∷ [];
    }

-- in the column (1, 0), whose cells stand at 1, 5 and 9
abbrev beam : ℕ → ℕ → Bool → Vertical
beam bottom top hit = record { x = 1; y = 0; bottom = bottom; top = top; hit = hit }

abbrev general : Vertical → Outcome ℕ Grid
general b = update_ray_entry binary64 (head 1) (general_beam binary64 (2 ∷ 2 ∷ 3 ∷ []) b) fresh

-- a count, and the odds and stamps of the column
abbrev column : ℕ → Float → ℕ → Float → ℕ → Float → ℕ → Outcome ℕ Grid
column count a i b j c k =
    record {
      answer = given count;
      lent =
          record {
            odds = zero_f ∷ a ∷ zero_f ∷ zero_f ∷ zero_f ∷ b ∷ zero_f ∷ zero_f ∷ zero_f ∷ c ∷ zero_f ∷ zero_f ∷ [];
            stamps = 0 ∷ i ∷ 0 ∷ 0 ∷ 0 ∷ j ∷ 0 ∷ 0 ∷ 0 ∷ k ∷ 0 ∷ 0 ∷ [];
          };
    }

pub record Cases : Type 0 where
  -- The whole column, with cloud in its highest cell.
  pub general_too : general (beam 0 2 true) ≡ column 3 (minus 1 2) 2 (minus 1 2) 2 (plus 3 4) 3
  -- One cell is both ends.
  pub one-cell-general : general (beam 1 1 true) ≡ column 1 zero_f 0 (plus 3 4) 3 zero_f 0
  -- A top of the extent: all clear, though it is a Hit; from the highest cell as well.
  pub ran_out_general : general (beam 1 3 true) ≡ column 2 zero_f 0 (minus 1 2) 2 (minus 1 2) 2
  pub ran_out_at_once_general : general (beam 2 3 true) ≡ column 1 zero_f 0 zero_f 0 (minus 1 2) 2

pub cases : Cases
unfolding opened first_too_small extents_refusal cuts_below cuts_in_bounds head_refusal update_ray_entry
cases =
    record {
      general_too = refl;
      one-cell-general = refl;
      ran_out_general = refl;
      ran_out_at_once_general = refl;
    }
