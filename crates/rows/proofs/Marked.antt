-- A mark is below the highest bit exactly if its number is within the bounds: marks of numbers, and of patterns without
-- their signs. And a loop's step with each. Assumes nothing.
use Prim.Native.Nat.{ℕ, ◌+◌, ◌-◌, ◌*◌, ◌%◌, ◌≤◌, ◌<◌}
use mathlib.Core.Bool.{Bool, true, false, cond, ◌&&◌}
use mathlib.Core.List.{List, []}
use mathlib.Core.Path.{◌≡◌, refl, sym, ap, ◌∙◌}
use native.Mathlib.Omega.{arith}
use lib.Dec.{ltb, leb}
use lib.Bits.{bit_or}
use lib.Ieee.{Float, nan, binary64, fits, le, to_bits, of_bits}
use lib.ListN.{length, get_or, drop}
use borrow.Author.Tests.{leb-true, leb-false, lt-ltb, le-ltb}
use Rattle.std.proofs.lemmas.List.{at_drop_more}
use Rattle.rules.specs.Floats.{zero_f}
use Rattle.rules.specs.TheGridAndItsBounds.{Model, floor}
use Rattle.rules.specs.Fields.{from_little_endian, floats_in}
use Rattle.rules.specs.MapRecord.{from_floor_to_ceiling, odds_in_bounds}
use Rattle.rows.specs.Marks.{highest, first_above}
use Rattle.rows.proofs.Odds.{floats_step}
use Rattle.rows.proofs.Seen.{one_more, one_more_marked, no_more}
use Rattle.rows.proofs.Patterns.{within_by_pattern, within_none}

-- ---- one mark
low_under : (p k : ℕ) → ltb (p + highest - (k + 1)) highest ≡ leb p k
low_under p k = by_test (leb p k) refl
  where
    by_test : (b : Bool) → leb p k ≡ b → ltb (p + highest - (k + 1)) highest ≡ b
    by_test true e = let under = leb-true p k e in lt-ltb (p + highest - (k + 1)) highest (omega arith)
    by_test false e = let above = leb-false p k e in le-ltb (p + highest - (k + 1)) highest (omega arith)

low_pattern : (m : Model) → fits binary64 m.ceiling ≡ true → (n : ℕ)
    → ltb (n % highest + highest - first_above m.ceiling) highest ≡ from_floor_to_ceiling m (of_bits binary64 n)
unfolding first_above floor
low_pattern m h n = by_test (le zero_f m.ceiling) refl
  where
    by_test : (b : Bool) → le zero_f m.ceiling ≡ b
        → ltb (n % highest + highest - cond b (to_bits binary64 m.ceiling % highest + 1) 0) highest ≡ from_floor_to_ceiling m (of_bits binary64 n)
    by_test true e = low_under (n % highest) (to_bits binary64 m.ceiling % highest) ∙ sym (within_by_pattern binary64 m.ceiling (rw h tt) e n)
    by_test false e = le-ltb (n % highest + highest - 0) highest (omega arith) ∙ sym (within_none m.ceiling (of_bits binary64 n) e)

-- it can be taken from a pattern with the highest bit
pub first_small : (c : Float) → first_above c ≤ highest
unfolding first_above
first_small c = by_test (le zero_f c)
  where
    by_test : (b : Bool) → cond b (to_bits binary64 c % highest + 1) 0 ≤ highest
    by_test true = omega arith
    by_test false = omega arith

-- ---- a loop's step, and its end
module _ (m : Model) (seen : ℕ) where
  pub number_seen : (i : ℕ) (odds : List Float) → i < length odds
      → (ltb seen highest && odds_in_bounds m (drop i odds))
      ≡ (ltb (bit_or seen (cond (from_floor_to_ceiling m (get_or odds i nan)) 0 highest)) highest && odds_in_bounds m (drop (i + 1) odds))
  unfolding odds_in_bounds
  number_seen i odds h =
      at_drop_more (λ (xs : List Float). ltb seen highest && odds_in_bounds m xs) odds i nan h
      ∙ one_more_marked 63 seen (from_floor_to_ceiling m (get_or odds i nan)) _

  pub pattern_seen : (n i at : ℕ) (bytes : List ℕ) (above pattern : ℕ) → fits binary64 m.ceiling ≡ true → above ≡ first_above m.ceiling
      → pattern ≡ from_little_endian 8 (drop (at + 8 * i) bytes) → i < n
      → (ltb seen highest && odds_in_bounds m (floats_in (n - i) (drop (at + 8 * i) bytes)))
      ≡ (ltb (bit_or seen (pattern % highest + highest - above)) highest && odds_in_bounds m (floats_in (n - (i + 1)) (drop (at + 8 * (i + 1)) bytes)))
  unfolding odds_in_bounds
  pattern_seen n i at bytes above pattern good e p h =
      let x : ℕ = from_little_endian 8 (drop (at + 8 * i) bytes) in
      ap (λ (xs : List Float). ltb seen highest && odds_in_bounds m xs) (floats_step n i at bytes h)
      ∙ one_more 63 seen (pattern % highest + highest - above) (from_floor_to_ceiling m (of_bits binary64 x)) _ (rw (p, e) (low_pattern m good x))

pub all_seen : (m : Model) (seen : ℕ) → ltb seen highest && odds_in_bounds m [] ≡ ltb seen highest
unfolding odds_in_bounds
all_seen m seen = no_more 63 seen
