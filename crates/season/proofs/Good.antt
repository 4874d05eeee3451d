-- Good charts make good reports, and the sum of two good reports is one: column by column, as facts about numbers.
-- Assumes nothing.
use Prim.Native.Nat.{ℕ, zero, suc, ◌+◌, ◌*◌, ◌/◌, ◌%◌, ◌≤◌, ◌<◌}
use mathlib.Core.Path.{◌≡◌, refl, sym, ap, ◌∙◌}
use mathlib.Core.Bool.{Bool, true, false, cond, ◌&&◌}
use mathlib.Core.Logic.{◌⊎◌, inl, inr}
use mathlib.Core.List.{List}
use native.Mathlib.Nat.{mul-suc, mul-add, add-zero, div-add-mod, mod-lt}
use native.Mathlib.Omega.{arith}
use lib.Dec.{T, eqb, leb, eqb→eq, leb→le, le→leb}
use lib.Ieee.Fits.{and_i, and_l, and_r, eq→eqb}
use lib.ListN.{length, get_or, drop, replicate, get_or-eq_default}
use lib.Seq.{get_or-drop}
use borrow.Author.Tests.{eqb-true, eqb-false}
use Rattle.rules.specs.LayerChart.{maximum_overlap, random_overlap}
use Rattle.rules.specs.SeasonReport.{stood, differs, night_column, night, plus, run_report, good_column, good_columns, nine_counts, good_report_column, good_report}
use Rattle.laws.specs.Floats.Tests.{order}
use Rattle.chart.specs.Totals.{each_below, overlaps}
use Rattle.season.proofs.Sums.{get_d_plus}
use Rattle.season.proofs.Runs.{night-length, night-at, run_length}

-- ---- one column of a chart
pub record Proper (chart : List ℕ) (at : ℕ) : Type 0 where
  pub low : get_or chart at 0 ≤ 8
  pub middle : get_or chart (at + 1) 0 ≤ 8
  pub high : get_or chart (at + 2) 0 ≤ 8
  pub total : get_or chart (at + 3) 0 ≡ maximum_overlap (get_or chart at 0) (get_or chart (at + 1) 0) (get_or chart (at + 2) 0)
  pub random : get_or chart (at + 4) 0 ≡ random_overlap (get_or chart at 0) (get_or chart (at + 1) 0) (get_or chart (at + 2) 0)

module _ (chart : List ℕ) (at : ℕ) where
  abbrev a : ℕ
  a = get_or chart at 0

  abbrev b : ℕ
  b = get_or chart (at + 1) 0

  abbrev c : ℕ
  c = get_or chart (at + 2) 0

  abbrev is_most : Bool
  is_most = eqb (get_or chart (at + 3) 0) (maximum_overlap a b c)

  abbrev is_random : Bool
  is_random = eqb (get_or chart (at + 4) 0) (random_overlap a b c)

  pub proper : T (good_column chart at) → Proper chart at
  unfolding good_column
  proper t =
      let t₁ = and_l (leb a 8 && leb b 8 && leb c 8 && is_most) is_random t in
      let t₂ = and_l (leb a 8 && leb b 8 && leb c 8) is_most t₁ in
      let t₃ = and_l (leb a 8 && leb b 8) (leb c 8) t₂ in
      record {
        low = leb→le a 8 (and_l (leb a 8) (leb b 8) t₃);
        middle = leb→le b 8 (and_r (leb a 8) (leb b 8) t₃);
        high = leb→le c 8 (and_r (leb a 8 && leb b 8) (leb c 8) t₂);
        total = eqb→eq _ _ (and_r (leb a 8 && leb b 8 && leb c 8) is_most t₁);
        random = eqb→eq _ _ (and_r (leb a 8 && leb b 8 && leb c 8 && is_most) is_random t);
      }

  pub proper_is_good : Proper chart at → T (good_column chart at)
  unfolding good_column
  proper_is_good p =
      and_i (leb a 8 && leb b 8 && leb c 8 && is_most) is_random
      (and_i (leb a 8 && leb b 8 && leb c 8) is_most
      (and_i (leb a 8 && leb b 8) (leb c 8) (and_i (leb a 8) (leb b 8) (le→leb a 8 p.low) (le→leb b 8 p.middle)) (le→leb c 8 p.high))
      (eq→eqb p.total))
      (eq→eqb p.random)

-- the same five numbers elsewhere
pub moved : (xs ys : List ℕ) (at to : ℕ) → ((i : ℕ) → i < 5 → get_or ys (to + i) 0 ≡ get_or xs (at + i) 0) → Proper xs at → Proper ys to
moved xs ys at to same p =
    let i₀ : get_or ys to 0 ≡ get_or xs at 0 = rw (add-zero, add-zero) at (same 0 (omega arith)) in
    let i₁ = same 1 (omega arith) in
    let i₂ = same 2 (omega arith) in
    record {
      low = rw i₀ p.low;
      middle = rw i₁ p.middle;
      high = rw i₂ p.high;
      total = rw (i₀, i₁, i₂, same 3 (omega arith)) p.total;
      random = rw (i₀, i₁, i₂, same 4 (omega arith)) p.random;
    }

-- ---- one column of a report
pub record Sound (charts : ℕ) (report : List ℕ) (at : ℕ) : Type 0 where
  pub counts : nine_counts report at ≡ charts
  pub differing : get_or report (at + 9) 0 ≤ 512 * charts
  pub maximum : get_or report (at + 10) 0 ≤ 512 * charts
  pub random : get_or report (at + 11) 0 ≤ 512 * charts

module _ (charts : ℕ) (report : List ℕ) (at : ℕ) where
  abbrev most : ℕ → Bool
  most i = leb (get_or report (at + i) 0) (512 * charts)

  abbrev add_up : Bool
  add_up = eqb (nine_counts report at) charts

  pub sound : T (good_report_column charts report at) → Sound charts report at
  unfolding good_report_column
  sound t =
      let t₁ = and_l (add_up && most 9 && most 10) (most 11) t in
      let t₂ = and_l (add_up && most 9) (most 10) t₁ in
      record {
        counts = eqb→eq _ _ (and_l add_up (most 9) t₂);
        differing = leb→le _ _ (and_r add_up (most 9) t₂);
        maximum = leb→le _ _ (and_r (add_up && most 9) (most 10) t₁);
        random = leb→le _ _ (and_r (add_up && most 9 && most 10) (most 11) t);
      }

  pub sound_is_good : Sound charts report at → T (good_report_column charts report at)
  unfolding good_report_column
  sound_is_good s =
      and_i (add_up && most 9 && most 10) (most 11)
      (and_i (add_up && most 9) (most 10) (and_i add_up (most 9) (eq→eqb s.counts) (le→leb _ _ s.differing)) (le→leb _ _ s.maximum))
      (le→leb _ _ s.random)

-- ---- all columns of a list, by a test of each: the two lists of tests go one way
here_or_before : (n k : ℕ) (P : ℕ → Type 0) → k < suc n → P n → (k < n → P k) → P k
here_or_before n k P h last before = go (eqb k n) refl
  where
    go : (b : Bool) → eqb k n ≡ b → P k
    go true e = let same : k ≡ n = eqb-true k n e in rw same last
    go false e = let other = eqb-false k n e in before (omega arith)

pub all_proper : (chart : List ℕ) (n : ℕ) → T (good_columns chart n) → (k : ℕ) → k < n → Proper chart (5 * k)
unfolding good_columns
all_proper chart zero t k h = absurd (omega arith)
all_proper chart (suc n) t k h =
    here_or_before n k (λ i. Proper chart (5 * i)) h (proper chart (5 * n) (and_r (good_columns chart n) (good_column chart (5 * n)) t))
    (λ g. all_proper chart n (and_l (good_columns chart n) (good_column chart (5 * n)) t) k g)

pub all-good : (chart : List ℕ) (n : ℕ) → ((k : ℕ) → k < n → Proper chart (5 * k)) → T (good_columns chart n)
unfolding good_columns
all-good chart zero p = tt
all-good chart (suc n) p =
    and_i (good_columns chart n) (good_column chart (5 * n)) (all-good chart n (λ k h. p k (omega arith))) (proper_is_good chart (5 * n) (p n (omega arith)))

pub all_sound : (charts : ℕ) (report : List ℕ) (n : ℕ) → T (good_report charts report n) → (k : ℕ) → k < n → Sound charts report (12 * k)
unfolding good_report
all_sound charts report zero t k h = absurd (omega arith)
all_sound charts report (suc n) t k h =
    here_or_before n k (λ i. Sound charts report (12 * i)) h
    (sound charts report (12 * n) (and_r (good_report charts report n) (good_report_column charts report (12 * n)) t))
    (λ g. all_sound charts report n (and_l (good_report charts report n) (good_report_column charts report (12 * n)) t) k g)

pub all_sound_good : (charts : ℕ) (report : List ℕ) (n : ℕ) → ((k : ℕ) → k < n → Sound charts report (12 * k)) → T (good_report charts report n)
unfolding good_report
all_sound_good charts report zero p = tt
all_sound_good charts report (suc n) p =
    and_i (good_report charts report n) (good_report_column charts report (12 * n)) (all_sound_good charts report n (λ k h. p k (omega arith)))
    (sound_is_good charts report (12 * n) (p n (omega arith)))

-- ---- sums
pub sound_plus : (p q : ℕ) (xs ys : List ℕ) (at : ℕ) → length xs ≡ length ys → Sound p xs at → Sound q ys at → Sound (p + q) (plus xs ys) at
unfolding nine_counts
sound_plus p q xs ys at e s t =
    let s₁ = s.counts in
    let t₁ = t.counts in
    record {
      counts =
          rw (
            get_d_plus xs ys at e,
            get_d_plus xs ys (at + 1) e,
            get_d_plus xs ys (at + 2) e,
            get_d_plus xs ys (at + 3) e,
            get_d_plus xs ys (at + 4) e,
            get_d_plus xs ys (at + 5) e,
            get_d_plus xs ys (at + 6) e,
            get_d_plus xs ys (at + 7) e,
            get_d_plus xs ys (at + 8) e,
          ) (omega arith);
      differing = rw (get_d_plus xs ys (at + 9) e) (omega (arith, s.differing, t.differing));
      maximum = rw (get_d_plus xs ys (at + 10) e) (omega (arith, s.maximum, t.maximum));
      random = rw (get_d_plus xs ys (at + 11) e) (omega (arith, s.random, t.random));
    }

zeros_at : (n i : ℕ) → ◌≡◌ {A = ℕ} (get_or (replicate n 0) i 0) 0
zeros_at zero i = refl
zeros_at (suc n) zero = refl
zeros_at (suc n) (suc i) = zeros_at n i

empty_sound : (n at : ℕ) → Sound 0 (replicate n 0) at
unfolding nine_counts
empty_sound n at =
    record {
      counts =
          rw (
            zeros_at n at,
            zeros_at n (at + 1),
            zeros_at n (at + 2),
            zeros_at n (at + 3),
            zeros_at n (at + 4),
            zeros_at n (at + 5),
            zeros_at n (at + 6),
            zeros_at n (at + 7),
            zeros_at n (at + 8),
          ) refl;
      differing = rw (zeros_at n (at + 9)) (omega arith);
      maximum = rw (zeros_at n (at + 10)) (omega arith);
      random = rw (zeros_at n (at + 11)) (omega arith);
    }

-- ---- a night
-- one of the nine stands
abbrev nine : ℕ → ℕ
nine t = stood t 0 + stood t 1 + stood t 2 + stood t 3 + stood t 4 + stood t 5 + stood t 6 + stood t 7 + stood t 8

nine_is_one : (t : ℕ) → t ≤ 8 → nine t ≡ 1
nine_is_one t h = eqb→eq (nine t) 1 (each_below 9 (λ i. eqb (nine i) 1) tt t (omega arith))

differs-most : (t r : ℕ) → differs t r ≤ 512
differs-most t r = go (eqb (64 * t) r)
  where
    go : (b : Bool) → cond b 0 1 ≤ 512
    go true = omega arith
    go false = omega arith

night_sound : (chart : List ℕ) (n k : ℕ) → k < n → Proper chart (5 * k) → Sound 1 (night chart n) (12 * k)
unfolding nine_counts night_column
night_sound chart n k h p =
    let over = overlaps _ _ _ p.low p.middle p.high in
    let t : ℕ = get_or chart (5 * k + 3) 0 in
    let r : ℕ = get_or chart (5 * k + 4) 0 in
    let t_most : t ≤ 8 = rw p.total over.maximum_most in
    let r_most : r ≤ 512 = rw p.random over.random_most in
    let first : get_or (night chart n) (12 * k) 0 ≡ stood t 0 = ap (λ (i : ℕ). get_or (night chart n) i 0) (sym (add-zero (12 * k))) ∙ night-at chart n k 0 h (omega arith) in
    record {
      counts =
          rw (
            first,
            night-at chart n k 1 h (omega arith),
            night-at chart n k 2 h (omega arith),
            night-at chart n k 3 h (omega arith),
            night-at chart n k 4 h (omega arith),
            night-at chart n k 5 h (omega arith),
            night-at chart n k 6 h (omega arith),
            night-at chart n k 7 h (omega arith),
            night-at chart n k 8 h (omega arith),
          ) (nine_is_one t t_most);
      differing = rw (night-at chart n k 9 h (omega arith)) (differs-most t r);
      maximum = rw (night-at chart n k 10 h (omega arith)) (omega arith);
      random = rw (night-at chart n k 11 h (omega arith)) (omega arith);
    }

-- ---- a run
one_and : (n : ℕ) → suc n ≡ 1 + n
one_and n = omega arith

pub proper_drop : (chart : List ℕ) (columns k : ℕ) → Proper chart (5 * (columns + k)) → Proper (drop (5 * columns) chart) (5 * k)
proper_drop chart columns k p =
    moved chart (drop (5 * columns) chart) (5 * (columns + k)) (5 * k)
    (λ i g. get_or-drop (5 * columns) chart (5 * k + i) 0 ∙ ap (λ (j : ℕ). get_or chart j 0) (omega (arith, mul-add 5 columns k))) p

pub run_sound : (columns n : ℕ) (charts : List ℕ) → ((k : ℕ) → k < columns * n → Proper charts (5 * k)) → (k : ℕ) → k < columns
    → Sound n (run_report columns n charts) (12 * k)
unfolding run_report
run_sound columns zero charts p k h = empty_sound (12 * columns) (12 * k)
run_sound columns (suc n) charts p k h =
    let size = mul-suc columns n in
    let rest = run_sound columns n (drop (5 * columns) charts) (λ i g. proper_drop charts columns i (p (columns + i) (omega arith))) k h in
    let here = night_sound charts columns k h (p k (omega arith)) in
    rw (one_and n) (sound_plus 1 n (night charts columns) (run_report columns n (drop (5 * columns) charts)) (12 * k)
    (night-length charts columns ∙ sym (run_length columns n (drop (5 * columns) charts))) here rest)

-- a good report with a good run added
pub added_sound : (charts : ℕ) (report : List ℕ) (columns n : ℕ) (run : List ℕ) → length report ≡ 12 * columns → T (good_report charts report columns)
    → ((k : ℕ) → k < columns * n → Proper run (5 * k)) → (k : ℕ) → k < columns → Sound (charts + n) (plus report (run_report columns n run)) (12 * k)
added_sound charts report columns n run size good p k h =
    sound_plus charts n report (run_report columns n run) (12 * k) (size ∙ sym (run_length columns n run)) (all_sound charts report columns good k h)
    (run_sound columns n run p k h)

-- ---- no number of a good report is above 512 a chart
one_of_twelve : (charts : ℕ) (report : List ℕ) (at : ℕ) → Sound charts report at → (j : ℕ) → j < 12 → get_or report (at + j) 0 ≤ 512 * charts
unfolding nine_counts
one_of_twelve charts report at s zero h = let n = s.counts in rw add-zero (omega arith)
one_of_twelve charts report at s (suc zero) h = let n = s.counts in omega arith
one_of_twelve charts report at s (suc (suc zero)) h = let n = s.counts in omega arith
one_of_twelve charts report at s (suc (suc (suc zero))) h = let n = s.counts in omega arith
one_of_twelve charts report at s (suc (suc (suc (suc zero)))) h = let n = s.counts in omega arith
one_of_twelve charts report at s (suc (suc (suc (suc (suc zero))))) h = let n = s.counts in omega arith
one_of_twelve charts report at s (suc (suc (suc (suc (suc (suc zero)))))) h = let n = s.counts in omega arith
one_of_twelve charts report at s (suc (suc (suc (suc (suc (suc (suc zero))))))) h = let n = s.counts in omega arith
one_of_twelve charts report at s (suc (suc (suc (suc (suc (suc (suc (suc zero)))))))) h = let n = s.counts in omega arith
one_of_twelve charts report at s (suc (suc (suc (suc (suc (suc (suc (suc (suc zero))))))))) h = s.differing
one_of_twelve charts report at s (suc (suc (suc (suc (suc (suc (suc (suc (suc (suc zero)))))))))) h = s.maximum
one_of_twelve charts report at s (suc (suc (suc (suc (suc (suc (suc (suc (suc (suc (suc zero))))))))))) h = s.random
one_of_twelve charts report at s (suc (suc (suc (suc (suc (suc (suc (suc (suc (suc (suc (suc j)))))))))))) h = absurd (omega arith)

pub sound_most : (charts : ℕ) (report : List ℕ) (columns : ℕ) → length report ≡ 12 * columns → ((k : ℕ) → k < columns → Sound charts report (12 * k))
    → (i : ℕ) → get_or report i 0 ≤ 512 * charts
sound_most charts report columns size p i = go (order i (length report))
  where
    go : (i < length report) ⊎ (length report ≤ i) → get_or report i 0 ≤ 512 * charts
    go (inl h) =
        let whole : 12 * (i / 12) + i % 12 ≡ i = div-add-mod i 12 in
        let rest : i % 12 < 12 = mod-lt i (omega arith) in
        rw whole at (one_of_twelve charts report (12 * (i / 12)) (p (i / 12) (omega arith)) (i % 12) rest)
    go (inr h) = rw (get_or-eq_default report 0 h) (omega arith)
