-- A night column by column: the columns before one have theirs, and the rest of the list stands as it was. Assumes
-- nothing.
use Prim.Native.Nat.{ℕ, zero, suc, ◌+◌, ◌*◌, ◌≤◌, ◌<◌}
use mathlib.Core.Path.{◌≡◌, refl, sym, ap, ◌∙◌}
use mathlib.Core.Bool.{true}
use mathlib.Core.List.{List, [], ◌∷◌, ◌++◌, append_assoc}
use native.Mathlib.Nat.{add-zero}
use native.Mathlib.Numerals.{add-one}
use native.Mathlib.Omega.{arith}
use lib.ListN.{length, get_or, take, drop, set, length-drop}
use lib.Seq.{get_or-append-add, get_or-drop, take-add, drop-drop, length-take-le}
use Rattle.rules.specs.SeasonReport.{differs, night_column, night, plus, good_columns}
use Rattle.season.proofs.Sums.{plus-length, plus_append}
use Rattle.chart.specs.Totals.{overlaps}
use Rattle.season.proofs.Good.{all_proper}
use Rattle.season.proofs.Runs.{night-length}
use Rattle.season.specs.Reports.{added_column, Roomy}

-- ---- a store behind other numbers
next : (n k : ℕ) → suc n + k ≡ suc (n + k)
next n k = omega arith

set_after : (before l : List ℕ) (n v : ℕ) → set (before ++ l) (length before + n) v ≡ before ++ set l n v
set_after [] l n v = let e : 0 + n ≡ n = omega arith in rw e refl
set_after (x ∷ before) l n v = rw (next (length before) n) (ap (λ (r : List ℕ). x ∷ r) (set_after before l n v))

-- ---- one column, at the front of a list
abbrev at_front : List ℕ → ℕ → ℕ → List ℕ
at_front l t r = set (set (set (set l t (get_or l t 0 + 1)) 9 (get_or l 9 0 + differs t r)) 10 (get_or l 10 0 + 64 * t)) 11 (get_or l 11 0 + r)

behind : (before l : List ℕ) (t r : ℕ) → added_column (before ++ l) (length before) t r ≡ before ++ at_front l t r
behind before l t r =
    let n : ℕ = length before in
    rw (get_or-append-add before l t 0, get_or-append-add before l 9 0, get_or-append-add before l 10 0, get_or-append-add before l 11 0)
    (rw (set_after before l t (get_or l t 0 + 1)) (rw (set_after before (set l t (get_or l t 0 + 1)) 9 (get_or l 9 0 + differs t r))
    (rw (set_after before (set (set l t (get_or l t 0 + 1)) 9 (get_or l 9 0 + differs t r)) 10 (get_or l 10 0 + 64 * t))
    (set_after before (set (set (set l t (get_or l t 0 + 1)) 9 (get_or l 9 0 + differs t r)) 10 (get_or l 10 0 + 64 * t)) 11 (get_or l 11 0 + r)))))

-- twelve numbers, whichever of the nine stands
module _ (a b c d e f g h i j k m : ℕ) (rest : List ℕ) (r : ℕ) where
  abbrev twelve : List ℕ
  twelve = a ∷ b ∷ c ∷ d ∷ e ∷ f ∷ g ∷ h ∷ i ∷ j ∷ k ∷ m ∷ []

  each_total : (t : ℕ) → t ≤ 8 → at_front (twelve ++ rest) t r ≡ plus twelve (night_column t r) ++ rest
  unfolding plus night_column
  each_total zero q = simp add-zero
  each_total (suc zero) q = simp add-zero
  each_total (suc (suc zero)) q = simp add-zero
  each_total (suc (suc (suc zero))) q = simp add-zero
  each_total (suc (suc (suc (suc zero)))) q = simp add-zero
  each_total (suc (suc (suc (suc (suc zero))))) q = simp add-zero
  each_total (suc (suc (suc (suc (suc (suc zero)))))) q = simp add-zero
  each_total (suc (suc (suc (suc (suc (suc (suc zero))))))) q = simp add-zero
  each_total (suc (suc (suc (suc (suc (suc (suc (suc zero)))))))) q = simp add-zero
  each_total (suc (suc (suc (suc (suc (suc (suc (suc (suc t))))))))) q = absurd (omega arith)

front : (l : List ℕ) (t r : ℕ) → 12 ≤ length l → t ≤ 8 → at_front l t r ≡ plus (take 12 l) (night_column t r) ++ drop 12 l
front [] t r p q = absurd (omega arith)
front (a ∷ []) t r p q = absurd (omega arith)
front (a ∷ b ∷ []) t r p q = absurd (omega arith)
front (a ∷ b ∷ c ∷ []) t r p q = absurd (omega arith)
front (a ∷ b ∷ c ∷ d ∷ []) t r p q = absurd (omega arith)
front (a ∷ b ∷ c ∷ d ∷ e ∷ []) t r p q = absurd (omega arith)
front (a ∷ b ∷ c ∷ d ∷ e ∷ f ∷ []) t r p q = absurd (omega arith)
front (a ∷ b ∷ c ∷ d ∷ e ∷ f ∷ g ∷ []) t r p q = absurd (omega arith)
front (a ∷ b ∷ c ∷ d ∷ e ∷ f ∷ g ∷ h ∷ []) t r p q = absurd (omega arith)
front (a ∷ b ∷ c ∷ d ∷ e ∷ f ∷ g ∷ h ∷ i ∷ []) t r p q = absurd (omega arith)
front (a ∷ b ∷ c ∷ d ∷ e ∷ f ∷ g ∷ h ∷ i ∷ j ∷ []) t r p q = absurd (omega arith)
front (a ∷ b ∷ c ∷ d ∷ e ∷ f ∷ g ∷ h ∷ i ∷ j ∷ k ∷ []) t r p q = absurd (omega arith)
front (a ∷ b ∷ c ∷ d ∷ e ∷ f ∷ g ∷ h ∷ i ∷ j ∷ k ∷ m ∷ rest) t r p q = each_total a b c d e f g h i j k m rest r t q

-- ---- the columns in order
module _ (report₀ chart : List ℕ) where
  abbrev pub Added : ℕ → List ℕ → Type 0
  Added n report = report ≡ plus (take (12 * n) report₀) (night chart n) ++ drop (12 * n) report₀

  abbrev raised : ℕ → List ℕ
  raised n = plus (take (12 * n) report₀) (night chart n)

  raised_length : (n : ℕ) → 12 * n ≤ length report₀ → length (raised n) ≡ 12 * n
  raised_length n h = plus-length (take (12 * n) report₀) (night chart n) ∙ length-take-le (12 * n) report₀ h

  pub still_roomy : (n : ℕ) (report : List ℕ) → Added n report → 12 * n ≤ length report₀ → Roomy report₀ 0 → Roomy report (12 * n)
  still_roomy n report w h room i =
      let there : get_or report (12 * n + i) 0 ≡ get_or report₀ (0 + (12 * n + i)) 0 =
      ap (λ (l : List ℕ). get_or l (12 * n + i) 0) w ∙ ap (λ (k : ℕ). get_or (raised n ++ drop (12 * n) report₀) (k + i) 0) (sym (raised_length n h))
      ∙ get_or-append-add (raised n) (drop (12 * n) report₀) i 0 ∙ get_or-drop (12 * n) report₀ i 0
      ∙ ap (λ (k : ℕ). get_or report₀ k 0) (omega arith) in
      rw there (room (12 * n + i))

  pub one_more : (n : ℕ) (report : List ℕ) → Added n report → 12 * n + 12 ≤ length report₀ → get_or chart (5 * n + 3) 0 ≤ 8
      → Added (n + 1) (added_column report (12 * n) (get_or chart (5 * n + 3) 0) (get_or chart (5 * n + 4) 0))
  unfolding night
  one_more n report w h few =
      let t : ℕ = get_or chart (5 * n + 3) 0 in
      let r : ℕ = get_or chart (5 * n + 4) 0 in
      let rest : List ℕ = drop (12 * n) report₀ in
      let size : length (raised n) ≡ 12 * n = raised_length n (omega arith) in
      let enough : 12 ≤ length rest = omega (arith, length-drop (12 * n) report₀) in
      let twelve_more : 12 * n + 12 ≡ 12 * (n + 1) = omega arith in
      ap (λ (l : List ℕ). added_column l (12 * n) t r) w
      ∙ ap (λ (k : ℕ). added_column (raised n ++ rest) k t r) (sym size)
      ∙ behind (raised n) rest t r
      ∙ ap (λ (l : List ℕ). raised n ++ l) (front rest t r enough few)
      ∙ sym (append_assoc (raised n) (plus (take 12 rest) (night_column t r)) (drop 12 rest))
      ∙ ap (λ (l : List ℕ). l ++ drop 12 rest)
      (sym (plus_append (take (12 * n) report₀) (night chart n) (take 12 rest) (night_column t r) (length-take-le (12 * n) report₀ (omega arith) ∙ sym (night-length chart n)))
      ∙ ap (λ (l : List ℕ). plus l (night chart n ++ night_column t r)) (sym (take-add (12 * n) 12 report₀)))
      ∙ ap (λ (l : List ℕ). plus (take (12 * n + 12) report₀) (night chart (suc n)) ++ l) (drop-drop 12 (12 * n) report₀)
      ∙ ap (λ (k : ℕ). plus (take k report₀) (night chart (suc n)) ++ drop k report₀) twelve_more
      ∙ ap (λ (k : ℕ). plus (take (12 * (n + 1)) report₀) (night chart k) ++ drop (12 * (n + 1)) report₀) (sym (add-one n))

-- ---- a chart within a run
pub in_run : (run : List ℕ) (from n j : ℕ) → get_or run (5 * (from + n) + j) 0 ≡ get_or (drop (5 * from) run) (5 * n + j) 0
in_run run from n j =
    let e : 5 * (from + n) + j ≡ 5 * from + (5 * n + j) = omega arith in
    ap (λ (i : ℕ). get_or run i 0) e ∙ sym (get_or-drop (5 * from) run (5 * n + j) 0)

-- the totals of a column that has been tried
pub totals_most : (run : List ℕ) (columns k : ℕ) → good_columns run columns ≡ true → k < columns
    → (get_or run (5 * k + 3) 0 ≤ 8) × (get_or run (5 * k + 4) 0 ≤ 512)
totals_most run columns k good h =
    let p = all_proper run columns (rw good tt) k h in
    let over = overlaps _ _ _ p.low p.middle p.high in
    (rw p.total over.maximum_most, rw p.random over.random_most)
