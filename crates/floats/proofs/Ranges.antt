-- The two ranges that a float is cut to, a cell's and a count's: what each keeps of a whole part, inside the range and
-- beyond it. Assumes nothing.
use Rattle.std.proofs.Common.{◌≡◌, ℕ, zero, suc, ◌-◌, ◌*◌, ◌/◌, ◌^◌, ◌<◌, ◌≤◌, min, Bool, true, false, cond, ℤ, pos, ◌-ℤ◌, neg_ℤ, sym, refl, ap, ◌∙◌, arith, w64, SFits, to_z, of_z}
use native.Mathlib.Nat.{min-eq_left, min-eq_right}
use lib.IntN.{+ℤ_idl}
use lib.Signed.{mag}
use lib.Ieee.{Float, inf, fin, binary64, up, down, fits, ne, to_signed, to_unsigned}
use mir.ValLaws.{to_z_pos, to_z-of_z}
use Rattle.rules.specs.Coordinates.{truncated}
use Rattle.floats.specs.Whole.{whole_part}
use Rattle.floats.proofs.WholePart.{at_least}
use Rattle.floats.proofs.Pattern.{sign_of, exponent_of, fraction_of, by_pattern}

-- ---- a cell: an i64
abbrev pub cell_kept : Bool → ℕ → ℤ
cell_kept s w = cond s (neg_ℤ (pos (min w (2 ^ 63)))) (pos (min w (2 ^ 63 - 1)))

abbrev cell_end : Bool → ℤ
cell_end s = cond s (neg_ℤ (pos (2 ^ 63))) (pos (2 ^ 63 - 1))

cell-end : (s : Bool) (w : ℕ) → 2 ^ 63 ≤ w → cell_kept s w ≡ cell_end s
cell-end true w h = ap (λ (n : ℕ). neg_ℤ (pos n)) (min-eq_right {n = 2 ^ 63} {m = w} h)
cell-end false w h = ap pos (min-eq_right {n = 2 ^ 63 - 1} {m = w} (omega arith))

cell-finite : (s : Bool) (m : ℕ) (e : ℤ) → truncated (fin s m e) ≡ cell_kept s (m * up e / down e)
unfolding truncated to_signed
cell-finite s m e = refl

cell_infinite : (s : Bool) (w : ℕ) → 2 ^ 64 ≤ w → truncated (inf s) ≡ cell_kept s w
unfolding truncated to_signed
cell_infinite s w h = sym (cell-end s w (omega arith))

pub cell_is : (x : Float) (s : Bool) → fits binary64 x ≡ true → ne x x ≡ false → sign_of x ≡ s → truncated x ≡ cell_kept s (whole_part (exponent_of x) (fraction_of x))
cell_is = by_pattern truncated cell_kept cell-finite cell_infinite

pub cell_beyond : (x : Float) (s : Bool) → fits binary64 x ≡ true → ne x x ≡ false → sign_of x ≡ s → 1086 ≤ exponent_of x → truncated x ≡ cell_end s
cell_beyond x s f n g h = cell_is x s f n g ∙ cell-end s _ (at_least (exponent_of x) (fraction_of x) 63 h)

pub cell-plus : (w : ℕ) → w < 2 ^ 63 → to_z w64 w ≡ cell_kept false w
cell-plus w h = to_z_pos w64 w h ∙ ap pos (sym (min-eq_left {n = w} {m = 2 ^ 63 - 1} (omega arith)))

neg-pos : (w : ℕ) → w < 2 ^ 63 → mag (neg_ℤ (pos w)) < 2 ^ 63
neg-pos zero h = omega arith
neg-pos (suc w) h = omega arith

-- 0 - w in an i64
less : (w : ℕ) → w < 2 ^ 63 → pos 0 -ℤ to_z w64 w ≡ neg_ℤ (pos w)
less w h = ap (λ (z : ℤ). pos 0 -ℤ z) (to_z_pos w64 w h) ∙ +ℤ_idl (neg_ℤ (pos w))

pub negated : (w : ℕ) → w < 2 ^ 63 → SFits w64 (pos 0 -ℤ to_z w64 w)
negated w h = rw (less w h) (record { sfits = neg-pos w h })

pub cell-minus : (w : ℕ) → w < 2 ^ 63 → to_z w64 (of_z w64 (pos 0 -ℤ to_z w64 w)) ≡ cell_kept true w
cell-minus w h = to_z-of_z w64 _ (negated w h) ∙ less w h ∙ ap (λ (n : ℕ). neg_ℤ (pos n)) (sym (min-eq_left {n = w} {m = 2 ^ 63} (omega arith)))

-- ---- a count: a u64
abbrev count_kept : Bool → ℕ → ℕ
count_kept s w = cond s 0 (min w (2 ^ 64 - 1))

count_end : (w : ℕ) → 2 ^ 64 ≤ w → count_kept false w ≡ 2 ^ 64 - 1
count_end w h = min-eq_right {n = 2 ^ 64 - 1} {m = w} (omega arith)

pub count_plus : (w : ℕ) → w < 2 ^ 64 → w ≡ count_kept false w
count_plus w h = sym (min-eq_left {n = w} {m = 2 ^ 64 - 1} (omega arith))

count_finite : (s : Bool) (m : ℕ) (e : ℤ) → to_unsigned 64 (fin s m e) ≡ count_kept s (m * up e / down e)
unfolding to_unsigned
count_finite s m e = refl

count_infinite : (s : Bool) (w : ℕ) → 2 ^ 64 ≤ w → to_unsigned 64 (inf s) ≡ count_kept s w
unfolding to_unsigned
count_infinite true w h = refl
count_infinite false w h = sym (count_end w h)

pub count_is : (x : Float) (s : Bool) → fits binary64 x ≡ true → ne x x ≡ false → sign_of x ≡ s → to_unsigned 64 x ≡ count_kept s (whole_part (exponent_of x) (fraction_of x))
count_is = by_pattern (to_unsigned 64) count_kept count_finite count_infinite

pub count_beyond : (x : Float) → fits binary64 x ≡ true → ne x x ≡ false → sign_of x ≡ false → 1087 ≤ exponent_of x → to_unsigned 64 x ≡ 2 ^ 64 - 1
count_beyond x f n g h = count_is x false f n g ∙ count_end _ (at_least (exponent_of x) (fraction_of x) 64 h)
