-- A run night by night: what one more adds, and that no number wraps. Assumes nothing.
use Prim.Native.Nat.{ℕ, ◌+◌, ◌*◌, ◌≤◌, ◌<◌}
use mathlib.Core.Path.{◌≡◌, sym, ap, ◌∙◌}
use mathlib.Core.Bool.{true}
use mathlib.Core.List.{List}
use native.Mathlib.Nat.{mul_assoc, mul-add, mul-one, mul-le-mul_left}
use native.Mathlib.Omega.{arith}
use lib.Dec.{T}
use lib.ListN.{length, drop, replicate}
use lib.Ieee.Bits.{is_true}
use Rattle.rules.specs.SeasonReport.{most_charts, night, plus, run_report, good_columns, good_report}
use Rattle.season.proofs.Sums.{plus_assoc, plus-length, plus_zeros}
use Rattle.season.proofs.Runs.{night-length, run_length, run_next}
use Rattle.season.proofs.Good.{all_proper, all-good, added_sound, sound_most}
use Rattle.season.specs.Reports.{Roomy}

module _ (charts : ℕ) (report₀ : List ℕ) (columns count : ℕ) (run : List ℕ) where
  pub record Tried : Type 0 where
    pub report_size : length report₀ ≡ 12 * columns
    pub run_size : length run ≡ 5 * columns * count
    pub few : charts + count ≤ most_charts
    pub run_good : T (good_columns run (columns * count))
    pub report_good : T (good_report charts report₀ columns)

  pub no_nights : length report₀ ≡ 12 * columns → report₀ ≡ plus report₀ (run_report columns 0 run)
  unfolding run_report
  no_nights size = sym (ap (λ (k : ℕ). plus report₀ (replicate k 0)) (sym size) ∙ plus_zeros report₀)

  module _ (t : Tried) (n : ℕ) (more : n < count) where
    -- the columns of the nights up to this one
    pub columns_fit : columns * n + columns ≤ columns * count
    columns_fit = let m : columns * (n + 1) ≤ columns * count = mul-le-mul_left columns (omega arith) in omega (arith, mul-add columns n 1, mul-one columns)

    pub run_fits : 5 * (columns * n + columns) ≤ length run
    run_fits = omega (arith, columns_fit, t.run_size, mul_assoc 5 columns count)

    pub good_so_far : good_columns run (columns * n + columns) ≡ true
    good_so_far =
        is_true (good_columns run (columns * n + columns))
        (all-good run (columns * n + columns) (λ k h. all_proper run (columns * count) t.run_good k (omega (arith, columns_fit))))

    pub room : Roomy (plus report₀ (run_report columns n run)) 0
    room i =
        let report : List ℕ = plus report₀ (run_report columns n run) in
        let sound = added_sound charts report₀ columns n run t.report_size t.report_good
        (λ k h. all_proper run (columns * count) t.run_good k (omega (arith, columns_fit))) in
        let most = sound_most (charts + n) report columns (plus-length report₀ (run_report columns n run) ∙ t.report_size) sound (0 + i) in
        omega (arith, t.few)

    pub next_night : plus (plus report₀ (run_report columns n run)) (night (drop (5 * (columns * n)) run) columns) ≡ plus report₀ (run_report columns (n + 1) run)
    next_night =
        let fits : 5 * columns * n ≤ length run = omega (arith, run_fits, mul_assoc 5 columns n) in
        plus_assoc report₀ (run_report columns n run) (night (drop (5 * (columns * n)) run) columns) (t.report_size ∙ sym (run_length columns n run))
        (run_length columns n run ∙ sym (night-length (drop (5 * (columns * n)) run) columns))
        ∙ ap (λ (k : ℕ). plus report₀ (plus (run_report columns n run) (night (drop k run) columns))) (sym (mul_assoc 5 columns n))
        ∙ ap (plus report₀) (sym (run_next columns n run fits))
