-- Marks put together by "or": what they come to is below a power of two exactly if each of them is. Assumes nothing.
use Prim.Native.Nat.{ℕ, ◌^◌, ◌≤◌}
use mathlib.Core.Bool.{Bool, true, false, cond, ◌&&◌}
use mathlib.Core.Path.{◌≡◌, refl, sym, ap, ◌∙◌}
use native.Mathlib.Omega.{arith}
use lib.Dec.{ltb}
use lib.Pow.{pow_pos}
use lib.Bits.{bit_or, or_lt, or_add_and, and_le_l, and_le_r}
use borrow.Author.Tests.{ltb-true, ltb-false, lt-ltb, le-ltb}

first-le : (a b : ℕ) → a ≤ bit_or a b
first-le a b = let e = or_add_and a b in let l = and_le_r a b in omega arith

second_le : (a b : ℕ) → b ≤ bit_or a b
second_le a b = let e = or_add_and a b in let l = and_le_l a b in omega arith

module _ (k : ℕ) where
  pub or_low : (a b : ℕ) → ltb (bit_or a b) (2 ^ k) ≡ (ltb a (2 ^ k) && ltb b (2 ^ k))
  or_low a b = by_tests (ltb a (2 ^ k)) (ltb b (2 ^ k)) refl refl
    where
      by_tests : (x y : Bool) → ltb a (2 ^ k) ≡ x → ltb b (2 ^ k) ≡ y → ltb (bit_or a b) (2 ^ k) ≡ (x && y)
      by_tests true true s t = lt-ltb _ _ (or_lt k a b (ltb-true a (2 ^ k) s) (ltb-true b (2 ^ k) t))
      by_tests true false s t = let above = ltb-false b (2 ^ k) t in let more = second_le a b in le-ltb (bit_or a b) (2 ^ k) (omega arith)
      by_tests false y s t = let above = ltb-false a (2 ^ k) s in let more = first-le a b in le-ltb (bit_or a b) (2 ^ k) (omega arith)

  -- a loop's step: the mark of the first that is left goes to those seen
  pub one_more : (seen mark : ℕ) (sound rest : Bool) → ltb mark (2 ^ k) ≡ sound
      → (ltb seen (2 ^ k) && (sound && rest)) ≡ (ltb (bit_or seen mark) (2 ^ k) && rest)
  one_more seen mark sound rest e =
      by_tests (ltb seen (2 ^ k)) sound ∙ ap (λ (x : Bool). x && rest) (sym (or_low seen mark ∙ ap (λ (y : Bool). ltb seen (2 ^ k) && y) e))
    where
      by_tests : (x y : Bool) → (x && (y && rest)) ≡ ((x && y) && rest)
      by_tests true y = refl
      by_tests false y = refl

  -- and with the mark that one is sound, or that it is not
  mark_low : (sound : Bool) → ltb (cond sound 0 (2 ^ k)) (2 ^ k) ≡ sound
  mark_low true = lt-ltb 0 (2 ^ k) (pow_pos k)
  mark_low false = le-ltb (2 ^ k) (2 ^ k) (omega arith)

  pub one_more_marked : (seen : ℕ) (sound rest : Bool) → (ltb seen (2 ^ k) && (sound && rest)) ≡ (ltb (bit_or seen (cond sound 0 (2 ^ k))) (2 ^ k) && rest)
  one_more_marked seen sound rest = one_more seen (cond sound 0 (2 ^ k)) sound rest (mark_low sound)

  -- its end: nothing is left
  pub no_more : (seen : ℕ) → (ltb seen (2 ^ k) && true) ≡ ltb seen (2 ^ k)
  no_more seen = by_test (ltb seen (2 ^ k))
    where
      by_test : (x : Bool) → (x && true) ≡ x
      by_test true = refl
      by_test false = refl
