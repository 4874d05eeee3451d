-- A map of 2 by 2 by 3 with three equal pairs meets the premises, and neither premise can be spared: another pair above
-- gives other odds, and cuts that do not fit are refused. By computation of the definitions.
use Rattle.std.specs.Prelude.{ℕ, ◌≡◌, refl, true, [], ◌∷◌, get_or, Float}
use Rattle.std.specs.Float.{nan, binary64}
use Rattle.rules.specs.RefusalNumbers.{given, refused, bad_cuts}
use Rattle.rules.specs.RefusalNumbers.Entries.{Outcome, first_too_small, extents_refusal, head_refusal}
use Rattle.rules.specs.TheGridAndItsBounds.{Pair, Head, Grid, last_extent, rising, cuts_below, cuts_in_bounds}
use Rattle.rules.specs.VerticalBeam.{in_profile, column_place, column_marks, ends_occupied, cells_above, vertical_marks, update_vertical_entry}
use Rattle.theorems.specs.PromiseThree.Examples.{plus, minus, grid3, opened}
use Rattle.theorems.specs.EqualPairs.{OnePair}
use Rattle.record_laws.specs.Words.{plain_head}

abbrev low : Pair
low = record { occupied = plus 3 4; free = minus 1 2 }

-- three bands: the middle one from this height on, and the highest one's pair
abbrev head : ℕ → Pair → Head
head cut p =
    record {
      extents = 2 ∷ 2 ∷ 3 ∷ [];
      model = record { lowest = low; above = record { cut = cut; pair = low } ∷ record { cut = 2; pair = p } ∷ []; ceiling = plus 4 1; layer = 4 };
      frame = 1;
    }

-- a beam straight up that stops on cloud in the cell of place 9, in the highest band, whose odds are -3.25
abbrev straight : Head → Outcome ℕ Grid
straight h = update_vertical_entry binary64 h (record { x = 1; y = 0; bottom = 1; top = 2; hit = true }) grid3

abbrev highest : Outcome ℕ Grid → Float
highest o = get_or o.lent.odds 9 nan

unfoldable opened_checks : ℕ
unfolding first_too_small extents_refusal head_refusal last_extent rising cuts_below cuts_in_bounds
opened_checks = 0

pub record Cases : Type 0 where
  -- Every premise is met.
  pub met : OnePair (head 1 low)
  pub counted : (straight (head 1 low)).answer ≡ given 2
  pub odds : highest (straight (head 1 low)) ≡ minus 5 2
  pub plain-odds : highest (straight (plain_head (head 1 low))) ≡ minus 5 2
  -- Another pair in the highest band.
  pub other-pair : highest (straight (head 1 (record { occupied = plus 1 2; free = minus 1 4 }))) ≡ minus 11 4
  -- Cuts that do not rise: 15, which a model with one pair never gives.
  pub bad_cuts_lem : (straight (head 2 low)).answer ≡ refused bad_cuts
  pub plain-counted : (straight (plain_head (head 2 low))).answer ≡ given 2

pub cases : Cases
unfolding opened opened_checks in_profile column_place column_marks ends_occupied cells_above vertical_marks update_vertical_entry
cases =
    record {
      met = record { pairs = (refl, (refl, tt)); cuts = tt };
      counted = refl;
      odds = refl;
      plain-odds = refl;
      other-pair = refl;
      bad_cuts_lem = refl;
      plain-counted = refl;
    }
