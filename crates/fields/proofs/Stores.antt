-- A run of stores after another is one run. Assumes nothing.
use Prim.Native.Nat.{ℕ, suc, ◌+◌, ◌-◌, ◌≤◌}
use mathlib.Core.List.{List, [], ◌∷◌, ◌++◌, append_assoc}
use mathlib.Core.Path.{◌≡◌, refl, sym, ap, ◌∙◌}
use native.Mathlib.Omega.{arith}
use borrow.Rule.Slice.PartMut.{put_mid}
use lib.ListN.{length, set, take, drop}
use lib.Seq.{sets, sets-eq, drop-drop}

module _ {A : Type 0} where
  pub sets_append : (xs ys l : List A) (i : ℕ) → sets l i (xs ++ ys) ≡ sets (sets l i xs) (i + length xs) ys
  sets_append [] ys l i = let e : i + 0 ≡ i = omega arith in rw e refl
  sets_append (x ∷ xs) ys l i =
      let e : i + suc (length xs) ≡ suc i + length xs = omega arith in
      sets_append xs ys (set l i x) (suc i) ∙ ap (λ (k : ℕ). sets (sets (set l i x) (suc i) xs) k ys) (sym e)

  -- a run goes on where its first part ended
  pub run_on : (xs ys l l₁ : List A) (i n : ℕ) → length xs ≡ n → l₁ ≡ sets l i xs → sets l i (xs ++ ys) ≡ sets l₁ (i + n) ys
  run_on xs ys l l₁ i n size first =
      sets_append xs ys l i ∙ ap (λ (k : ℕ). sets (sets l i xs) (i + k) ys) size ∙ ap (λ (m : List A). sets m (i + n) ys) (sym first)

  -- the same, up to a place known by another name
  pub run_to : (xs ys l l₁ : List A) (i j : ℕ) → i + length xs ≡ j → l₁ ≡ sets l i xs → sets l i (xs ++ ys) ≡ sets l₁ j ys
  run_to xs ys l l₁ i j e first = run_on xs ys l l₁ i (length xs) refl first ∙ ap (λ (k : ℕ). sets l₁ k ys) e

  -- a list after one run, and after a second that starts where the first ended
  pub two_runs : (xs ys l l₁ l₂ : List A) (i n : ℕ) → length xs ≡ n → l₁ ≡ sets l i xs → l₂ ≡ sets l₁ (i + n) ys → l₂ ≡ sets l i (xs ++ ys)
  two_runs xs ys l l₁ l₂ i n size first second = second ∙ sym (run_on xs ys l l₁ i n size first)

  -- the same, where the second starts at a place known by another name
  pub then_run : (xs ys l l₁ l₂ : List A) (i j : ℕ) → l₁ ≡ sets l i xs → l₂ ≡ sets l₁ j ys → j ≡ i + length xs → l₂ ≡ sets l i (xs ++ ys)
  then_run xs ys l l₁ l₂ i j first second e = two_runs xs ys l l₁ l₂ i (length xs) refl first (second ∙ ap (λ (k : ℕ). sets l₁ k ys) e)

  -- a list after a write to a part of it
  pub put_part : (xs l : List A) (i n : ℕ) → length xs ≡ n → i + n ≤ length l → put_mid i (i + n - i) l xs ≡ sets l i xs
  put_part xs l i n size room =
      let k : i + n - i ≡ length xs = omega arith in
      rw (k, drop-drop (length xs) i l) (sym (sets-eq xs l i (omega arith) ∙ append_assoc (take i l) xs (drop (i + length xs) l)))
