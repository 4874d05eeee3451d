-- The odds of a row and of all rows, one step at a time: what a loop over them has left. Assumes nothing.
use Prim.Native.Nat.{ℕ, zero, suc, ◌+◌, ◌-◌, ◌*◌, ◌<◌}
use mathlib.Core.Bool.{◌&&◌}
use mathlib.Core.List.{List, [], ◌∷◌, ◌++◌, append-nil}
use mathlib.Core.Path.{◌≡◌, refl, ap, ap₂, ◌∙◌}
use native.Mathlib.Nat.{suc-mul}
use native.Mathlib.Omega.{arith}
use lib.Ieee.{Float, neg, le, binary64, of_bits}
use lib.ListN.{length, length-append, drop}
use lib.Seq.{sets, sets-eq, drop-drop, drop-length}
use Rattle.rules.specs.TheGridAndItsBounds.{Model, floor}
use Rattle.rules.specs.Fields.{from_little_endian, floats_in, head_size, field_size}
use Rattle.rules.specs.MapRecord.{row_length, odds_in_bounds}
use Rattle.rows.specs.Rows.{odds_at}

-- ---- bounds
-- two models of one ceiling, whatever their pairs and cuts
pub odds_by_ceiling : (m k : Model) → m.ceiling ≡ k.ceiling → (xs : List Float) → odds_in_bounds m xs ≡ odds_in_bounds k xs
unfolding odds_in_bounds floor
odds_by_ceiling m k e [] = refl
odds_by_ceiling m k e (x ∷ xs) = ap₂ ◌&&◌ (ap (λ (c : Float). le (neg c) x && le x c) e) (odds_by_ceiling m k e xs)

-- ---- a row's floats
pub floats_step : (n i at : ℕ) (bs : List ℕ) → i < n
    → floats_in (n - i) (drop (at + 8 * i) bs) ≡ of_bits binary64 (from_little_endian 8 (drop (at + 8 * i) bs)) ∷ floats_in (n - (i + 1)) (drop (at + 8 * (i + 1)) bs)
unfolding floats_in
floats_step n i at bs h =
    let e : n - i ≡ suc (n - (i + 1)) = omega arith in
    let k : at + 8 * i + 8 ≡ at + 8 * (i + 1) = omega arith in
    rw (e, drop-drop 8 (at + 8 * i) bs, k) refl

pub length_floats : (n : ℕ) (bs : List ℕ) → length (floats_in n bs) ≡ n
unfolding floats_in
length_floats zero bs = refl
length_floats (suc n) bs = ap suc (length_floats n (drop 8 bs))

-- ---- the rows' floats
pub rows_step : (w n i at : ℕ) (bs : List ℕ) → i < n
    → odds_at w (n - i) (drop at bs) ≡ floats_in w (drop (at + head_size) bs) ++ odds_at w (n - (i + 1)) (drop (at + field_size (row_length w)) bs)
unfolding odds_at
rows_step w n i at bs h =
    let e : n - i ≡ suc (n - (i + 1)) = omega arith in
    rw (e, drop-drop head_size at bs, drop-drop (field_size (row_length w)) at bs) refl

pub length_rows : (w n : ℕ) (bs : List ℕ) → length (odds_at w n bs) ≡ n * w
unfolding odds_at
length_rows w zero bs = omega arith
length_rows w (suc n) bs =
    length-append (floats_in w (drop head_size bs)) (odds_at w n (drop (field_size (row_length w)) bs))
    ∙ (let a = length_floats w (drop head_size bs) in let b = length_rows w n (drop (field_size (row_length w)) bs) in let c = suc-mul n w in omega arith)

-- a run of stores over the whole list leaves the run
pub sets-whole : {A : Type 0} (xs l : List A) → length xs ≡ length l → sets l 0 xs ≡ xs
sets-whole {A} xs l e =
    sets-eq xs l 0 (omega arith)
    ∙ ap (λ (k : ℕ). [] ++ xs ++ drop k l) (let z : 0 + length xs ≡ length l = omega arith in z)
    ∙ ap (λ (d : List A). xs ++ d) (drop-length l) ∙ append-nil xs
