-- Runs of charts: a joined run's report is the sum of the parts'. Assumes nothing.
use Prim.Native.Nat.{ℕ, zero, suc, ◌+◌, ◌*◌, ◌≤◌, ◌<◌}
use mathlib.Core.Path.{◌≡◌, refl, sym, ap, ◌∙◌}
use mathlib.Core.Bool.{Bool, true, false}
use mathlib.Core.List.{List, [], ◌∷◌, ◌++◌}
use native.Mathlib.Nat.{mul-suc, mul-zero, add-zero}
use native.Mathlib.Omega.{arith}
use lib.ListN.{length, get_or, take, drop, replicate, length-append, length-drop, length-replicate, take-append-drop, get_or-append}
use lib.Seq.{drop-append-le, get_or-append-add, length-take-le}
use lib.Dec.{eqb}
use borrow.Author.Tests.{eqb-true, eqb-false}
use Rattle.rules.specs.SeasonReport.{night_column, night, plus, run_report}
use Rattle.season.proofs.Sums.{plus-length, plus_assoc, plus_zeros, zeros_plus}

column-length : (total random : ℕ) → length (night_column total random) ≡ 12
unfolding night_column
column-length total random = refl

pub night-length : (chart : List ℕ) (n : ℕ) → length (night chart n) ≡ 12 * n
unfolding night
night-length chart zero = refl
night-length chart (suc n) =
    length-append (night chart n) _ ∙ omega (arith, night-length chart n, mul-suc 12 n, column-length (get_or chart (5 * n + 3) 0) (get_or chart (5 * n + 4) 0))

-- what follows a chart in its list adds nothing
pub night_front : (chart more : List ℕ) (n : ℕ) → 5 * n ≤ length chart → night (chart ++ more) n ≡ night chart n
unfolding night
night_front chart more zero h = refl
night_front chart more (suc n) h =
    let room : 5 * n + 5 ≤ length chart = omega (arith, mul-suc 5 n) in
    rw (get_or-append chart more 0 (5 * n + 3) (omega arith), get_or-append chart more 0 (5 * n + 4) (omega arith), night_front chart more n (omega arith)) refl

none_before : (m : ℕ) → 0 + m ≡ m
none_before m = omega arith

-- a column of a night, number by number
last_or_before : (chart : List ℕ) (n k j : ℕ) → k < suc n → j < 12
    → (k < n → get_or (night chart n) (12 * k + j) 0 ≡ get_or (night_column (get_or chart (5 * k + 3) 0) (get_or chart (5 * k + 4) 0)) j 0)
    → get_or (night chart n ++ night_column (get_or chart (5 * n + 3) 0) (get_or chart (5 * n + 4) 0)) (12 * k + j) 0
    ≡ get_or (night_column (get_or chart (5 * k + 3) 0) (get_or chart (5 * k + 4) 0)) j 0
last_or_before chart n k j h g below = go (eqb k n) refl
  where
    go : (b : Bool) → eqb k n ≡ b
        → get_or (night chart n ++ night_column (get_or chart (5 * n + 3) 0) (get_or chart (5 * n + 4) 0)) (12 * k + j) 0
        ≡ get_or (night_column (get_or chart (5 * k + 3) 0) (get_or chart (5 * k + 4) 0)) j 0
    go true e =
        let same : k ≡ n = eqb-true k n e in
        rw same
        (ap (λ (i : ℕ). get_or (night chart n ++ night_column (get_or chart (5 * n + 3) 0) (get_or chart (5 * n + 4) 0)) (i + j) 0) (sym (night-length chart n))
        ∙ get_or-append-add (night chart n) (night_column (get_or chart (5 * n + 3) 0) (get_or chart (5 * n + 4) 0)) j 0)
    go false e =
        let other = eqb-false k n e in
        let inside : k < n = omega arith in
        get_or-append (night chart n) (night_column (get_or chart (5 * n + 3) 0) (get_or chart (5 * n + 4) 0)) 0 (12 * k + j) (omega (arith, night-length chart n)) ∙ below inside

pub night-at : (chart : List ℕ) (n k j : ℕ) → k < n → j < 12
    → get_or (night chart n) (12 * k + j) 0 ≡ get_or (night_column (get_or chart (5 * k + 3) 0) (get_or chart (5 * k + 4) 0)) j 0
unfolding night
night-at chart zero k j h g = absurd (omega arith)
night-at chart (suc n) k j h g = last_or_before chart n k j h g (λ below. night-at chart n k j below g)

-- ---- the sum of a run's nights
pub run_length : (columns n : ℕ) (charts : List ℕ) → length (run_report columns n charts) ≡ 12 * columns
unfolding run_report
run_length columns zero charts = length-replicate (12 * columns) 0
run_length columns (suc n) charts = plus-length (night charts columns) _ ∙ night-length charts columns

one_more : (n m : ℕ) → suc n + m ≡ suc (n + m)
one_more n m = omega arith

pub run_joined : (columns n m : ℕ) (first second : List ℕ) → length first ≡ 5 * columns * n
    → run_report columns (n + m) (first ++ second) ≡ plus (run_report columns n first) (run_report columns m second)
unfolding run_report
run_joined columns zero m [] second e =
    let rest : List ℕ = run_report columns m second in
    rw (none_before m)
    (sym (ap (λ (k : ℕ). plus (replicate k 0) rest) (sym (run_length columns m second)) ∙ zeros_plus rest))
run_joined columns zero m (x ∷ first) second e = absurd (omega (arith, mul-zero (5 * columns)))
run_joined columns (suc n) m first second e =
    let size : length first ≡ 5 * columns * n + 5 * columns = e ∙ mul-suc (5 * columns) n in
    let left : length (drop (5 * columns) first) ≡ 5 * columns * n = length-drop (5 * columns) first ∙ omega arith in
    let rest = run_joined columns n m (drop (5 * columns) first) second left in
    ap (λ (k : ℕ). run_report columns k (first ++ second)) (one_more n m)
    ∙ ap (λ (l : List ℕ). plus l (run_report columns (n + m) (drop (5 * columns) (first ++ second)))) (night_front first second columns (omega arith))
    ∙ ap (λ (l : List ℕ). plus (night first columns) (run_report columns (n + m) l)) (drop-append-le (5 * columns) first second (omega arith))
    ∙ ap (plus (night first columns)) rest
    ∙ sym (plus_assoc (night first columns) (run_report columns n (drop (5 * columns) first)) (run_report columns m second)
    (night-length first columns ∙ sym (run_length columns n (drop (5 * columns) first)))
    (run_length columns n (drop (5 * columns) first) ∙ sym (run_length columns m second)))

-- a run of one chart more
one-night : (columns : ℕ) (chart : List ℕ) → run_report columns 1 chart ≡ night chart columns
unfolding run_report
one-night columns chart = ap (λ (k : ℕ). plus (night chart columns) (replicate k 0)) (sym (night-length chart columns)) ∙ plus_zeros (night chart columns)

pub run_next : (columns n : ℕ) (charts : List ℕ) → 5 * columns * n ≤ length charts
    → run_report columns (n + 1) charts ≡ plus (run_report columns n charts) (night (drop (5 * columns * n) charts) columns)
unfolding run_report
run_next columns n charts room =
    let first : List ℕ = take (5 * columns * n) charts in
    let second : List ℕ = drop (5 * columns * n) charts in
    let size : length first ≡ 5 * columns * n = length-take-le (5 * columns * n) charts room in
    let whole : first ++ second ≡ charts = take-append-drop (5 * columns * n) charts in
    let front : run_report columns n charts ≡ run_report columns n first =
    ap (run_report columns n) (sym whole) ∙ ap (λ (k : ℕ). run_report columns k (first ++ second)) (sym (add-zero n)) ∙ run_joined columns n 0 first second size
    ∙ ap (λ (k : ℕ). plus (run_report columns n first) (replicate k 0)) (sym (run_length columns n first)) ∙ plus_zeros (run_report columns n first) in
    ap (run_report columns (n + 1)) (sym whole) ∙ run_joined columns n 1 first second size
    ∙ ap (plus (run_report columns n first)) (one-night columns second) ∙ ap (λ (l : List ℕ). plus l (night second columns)) (sym front)
