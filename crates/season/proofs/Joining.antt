-- Two lists added number by number: those before one are sums, and the rest stands as it was. Assumes nothing.
use Prim.Native.Nat.{ℕ, suc, ◌+◌, ◌≤◌, ◌<◌}
use mathlib.Core.Path.{◌≡◌, sym, ap, ◌∙◌}
use mathlib.Core.List.{List, [], ◌∷◌, ◌++◌}
use native.Mathlib.Numerals.{add-one}
use native.Mathlib.Omega.{arith}
use lib.ListN.{length, get_or, take, drop, set}
use lib.Seq.{take-suc, drop-cons, set_at, get_or_at, append_snoc, length-take-le}
use Rattle.rules.specs.SeasonReport.{plus}
use Rattle.season.proofs.Sums.{plus-length, plus_append}

module _ (report₀ other : List ℕ) where
  abbrev sums : ℕ → List ℕ
  sums i = plus (take i report₀) (take i other)

  abbrev pub Joined : ℕ → List ℕ → Type 0
  Joined i report = report ≡ sums i ++ drop i report₀

  sums_length : (i : ℕ) → i ≤ length report₀ → length (sums i) ≡ i
  sums_length i h = plus-length (take i report₀) (take i other) ∙ length-take-le i report₀ h

  -- the number that is next has not been changed
  pub next_number : (i : ℕ) (report : List ℕ) → Joined i report → i < length report₀ → get_or report i 0 ≡ get_or report₀ i 0
  next_number i report w h =
      ap (λ (l : List ℕ). get_or l i 0) (w ∙ ap (λ (l : List ℕ). sums i ++ l) (drop-cons report₀ i 0 h))
      ∙ get_or_at (sums i) (get_or report₀ i 0) (drop (suc i) report₀) 0 i (sums_length i (omega arith))

  pub one_more : (i : ℕ) (report : List ℕ) → Joined i report → i < length report₀ → length other ≡ length report₀
      → Joined (i + 1) (set report i (get_or report i 0 + get_or other i 0))
  unfolding plus
  one_more i report w h same =
      let x : ℕ = get_or report₀ i 0 in
      let y : ℕ = get_or other i 0 in
      let rest : List ℕ = drop (suc i) report₀ in
      ap (λ (n : ℕ). set report i (n + y)) (next_number i report w h)
      ∙ ap (λ (l : List ℕ). set l i (x + y)) (w ∙ ap (λ (l : List ℕ). sums i ++ l) (drop-cons report₀ i 0 h))
      ∙ set_at (sums i) x rest (x + y) i (sums_length i (omega arith))
      ∙ sym (append_snoc (sums i) (x + y) rest)
      ∙ ap (λ (l : List ℕ). l ++ rest)
      (sym (plus_append (take i report₀) (take i other) (x ∷ []) (y ∷ []) (length-take-le i report₀ (omega arith) ∙ sym (length-take-le i other (omega arith))))
      ∙ ap (λ (l : List ℕ). plus l (take i other ++ y ∷ [])) (sym (take-suc report₀ i 0 h))
      ∙ ap (plus (take (suc i) report₀)) (sym (take-suc other i 0 (omega arith))))
      ∙ ap (λ (n : ℕ). sums n ++ drop n report₀) (sym (add-one i))
