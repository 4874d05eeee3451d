-- A figure for each bound and each number of a rule that no other figure names: the largest size of steps and ceiling,
-- of each band too; the threshold of three axes; frames that no call gives. One table, proved of the definitions by
-- computation.
use Rattle.std.specs.Prelude.{ℕ, Bool, true, false, List, [], ◌∷◌, ◌≡◌, refl, pos, negsuc, Float}
use Rattle.std.specs.Float.{fin, binary32, binary64}
use Rattle.std.proofs.Common.{◌∙◌}
use Rattle.rules.specs.RefusalNumbers.{given}
use Rattle.rules.specs.TheGridAndItsBounds.{Pair, Model, plain_model, bounded}
use Rattle.rules.specs.TheLine.{threshold_of}
use Rattle.rules.specs.FiguresToTestOn.{plus, minus, head_of, opens, opened}

-- 1,048,576, and the float above it
abbrev largest : Bool → Float
largest negative = fin negative 1 (pos 20)

abbrev above : Bool → Float
above negative = fin negative 4503599627370497 (negsuc 31)

abbrev pair : Float → Float → Pair
pair occupied free = record { occupied = occupied; free = free }

abbrev fair : Pair
fair = pair (plus 3 4) (minus 1 2)

abbrev bands : Pair → Pair → Pair → Float → Bool
bands low middle high ceiling =
    bounded
    (record { lowest = low; above = record { cut = 1; pair = middle } ∷ record { cut = 2; pair = high } ∷ []; ceiling = ceiling; layer = 4 })

pub record BoundsAnswers : Type 0 where
  -- "none above 1,048,576 in size": that size itself stands, the float above it does not
  pub largest_stands : bounded (plain_model (pair (largest false) (largest true)) (largest false)) ≡ true
  pub occupied_above : bounded (plain_model (pair (above false) (minus 1 2)) (plus 4 1)) ≡ false
  pub free_above : bounded (plain_model (pair (plus 3 4) (above true)) (plus 4 1)) ≡ false
  pub ceiling_above : bounded (plain_model fair (above false)) ≡ false
  -- each band's
  pub bands_stand : bands (pair (largest false) (largest true)) (pair (largest false) (largest true)) (pair (largest false) (largest true)) (largest false) ≡ true
  pub low_occupied_above : bands (pair (above false) (minus 1 2)) fair fair (plus 4 1) ≡ false
  pub low_free_above : bands (pair (plus 3 4) (above true)) fair fair (plus 4 1) ≡ false
  pub middle_occupied_above : bands fair (pair (above false) (minus 1 2)) fair (plus 4 1) ≡ false
  pub middle_free_above : bands fair (pair (plus 3 4) (above true)) fair (plus 4 1) ≡ false
  pub high_occupied_above : bands fair fair (pair (above false) (minus 1 2)) (plus 4 1) ≡ false
  pub high_free_above : bands fair fair (pair (plus 3 4) (above true)) (plus 4 1) ≡ false
  pub bands_ceiling_above : bands fair fair fair (above false) ≡ false
  -- "Threshold = 1 - 1/(N+1)": on three axes 0.75, in both formats
  pub threshold_of_three : threshold_of binary64 3 ≡ plus 3 4
  pub threshold_of_three_single : threshold_of binary32 3 ≡ plus 3 4
  -- "`begin_scan`: frame >= 2,147,483,647 zeroes all stamps and sets 1; else frame+1", at any frame
  pub opens-after-none : opens 0 ≡ record { answer = given (head_of 2 2 1); lent = 9 ∷ 9 ∷ 9 ∷ 9 ∷ [] }
  pub opens_above_the_highest : opens 2147483648 ≡ record { answer = given (head_of 2 2 1); lent = 0 ∷ 0 ∷ 0 ∷ 0 ∷ [] }
  pub opens-above-all : opens 4294967295 ≡ record { answer = given (head_of 2 2 1); lent = 0 ∷ 0 ∷ 0 ∷ 0 ∷ [] }

pub bounds_answers : BoundsAnswers
unfolding opened
bounds_answers =
    let narrow : threshold_of binary32 3 ≡ fin false 3 (negsuc 1) = refl in
    let wide : fin false 3 (negsuc 1) ≡ plus 3 4 = refl in
    record {
      largest_stands = refl;
      occupied_above = refl;
      free_above = refl;
      ceiling_above = refl;
      bands_stand = refl;
      low_occupied_above = refl;
      low_free_above = refl;
      middle_occupied_above = refl;
      middle_free_above = refl;
      high_occupied_above = refl;
      high_free_above = refl;
      bands_ceiling_above = refl;
      threshold_of_three = refl;
      threshold_of_three_single = narrow ∙ wide;
      opens-after-none = refl;
      opens_above_the_highest = refl;
      opens-above-all = refl;
    }
