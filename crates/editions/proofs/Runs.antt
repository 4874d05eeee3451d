-- Bytes copied one run after another. Assumes nothing.
use Prim.Native.Nat.{ℕ, suc, ◌+◌, ◌-◌, ◌≤◌, ◌<◌}
use mathlib.Core.List.{List, [], ◌++◌, append-nil}
use mathlib.Core.Path.{◌≡◌, sym, ap, ◌∙◌}
use native.Mathlib.Omega.{arith}
use lib.ListN.{length, length-append, length-drop, take, drop, set, get_or}
use lib.Seq.{sets, take_at, length-take-le}
use Rattle.fields.proofs.Floats.{part_step}
use Rattle.fields.proofs.Stores.{then_run}

-- all that is left of a list
pub rest_taken : (k : ℕ) (bs : List ℕ) → take (length bs - k) (drop k bs) ≡ drop k bs
rest_taken k bs = ap (take (length bs - k)) (sym (append-nil (drop k bs))) ∙ take_at (drop k bs) [] (length bs - k) (length-drop k bs)

-- so many bytes from a place on
pub length_run : (n k : ℕ) (bs : List ℕ) → k + n ≤ length bs → length (take n (drop k bs)) ≡ n
length_run n k bs h = length-take-le n (drop k bs) (let d = length-drop k bs in omega arith)

-- a run of which so many bytes are copied, and one byte more
pub run_step : (n i at from : ℕ) (out bs : List ℕ) → i < n → from + n ≤ length bs
    → sets out (at + i) (take (n - i) (drop (from + i) bs))
    ≡ sets (set out (at + i) (get_or bs (from + i) 0)) (at + (i + 1)) (take (n - (i + 1)) (drop (from + (i + 1)) bs))
run_step n i at from out bs h l =
    let next : List ℕ = set out (at + i) (get_or bs (from + i) 0) in
    let place : suc (at + i) ≡ at + (i + 1) = omega arith in
    let left : n - i - 1 ≡ n - (i + 1) = omega arith in
    let here : from + i + 1 ≡ from + (i + 1) = omega arith in
    ap (sets out (at + i)) (part_step 0 (n - i) (from + i) bs (omega arith) (omega arith))
    ∙ ap (λ (k : ℕ). sets next k (take (n - i - 1) (drop (from + i + 1) bs))) place
    ∙ ap (λ (k : ℕ). sets next (at + (i + 1)) (take k (drop (from + i + 1) bs))) left
    ∙ ap (λ (k : ℕ). sets next (at + (i + 1)) (take (n - (i + 1)) (drop k bs))) here

-- three runs, each where the one before it ends
pub three_runs : (xs ys zs out out₁ out₂ out₃ : List ℕ) (at at₂ at₃ : ℕ) → out₁ ≡ sets out at xs → out₂ ≡ sets out₁ at₂ ys → out₃ ≡ sets out₂ at₃ zs
    → at₂ ≡ at + length xs → at₃ ≡ at₂ + length ys → out₃ ≡ sets out at (xs ++ ys ++ zs)
three_runs xs ys zs out out₁ out₂ out₃ at at₂ at₃ a b c e f =
    then_run (xs ++ ys) zs out out₂ out₃ at at₃ (then_run xs ys out out₁ out₂ at at₂ a b e) c (let d = length-append xs ys in omega arith)
