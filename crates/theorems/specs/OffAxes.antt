-- Change request 1: the set of the axes that are off is a number whose bit k is 1 where axis k is off, and nowhere
-- else. Of any number of axes. Assumes nothing.
use Rattle.std.specs.Prelude.{ℕ, zero, suc, ◌+◌, ◌*◌, ◌/◌, ◌%◌, ◌≤◌, ◌<◌, ◌≡◌, refl, Bool, true, false, cond, not, ◌&&◌, List, [], ◌∷◌, ℤ, pos, length, get_or, Float}
use Rattle.std.proofs.Common.{sym, ap, ◌∙◌, arith}
use Rattle.std.specs.Float.{nan, Format}
use Rattle.std.specs.Float.Ieee.Scale.{finite}
use Rattle.rules.specs.Coordinates.{within, along, with_bit, is_off, off_axes, outside_axes}

-- bit k of a number, as 0 or 1
unfoldable pub bit : ℕ → ℕ → ℕ
bit zero s = s % 2
bit (suc k) s = bit k (s / 2)

abbrev pub as_bit : Bool → ℕ
as_bit b = cond b 1 0

first_bit : (b : Bool) (s : ℕ) → bit 0 (with_bit b s) ≡ as_bit b
unfolding bit
first_bit true s = omega arith
first_bit false s = omega arith

halved : (b : Bool) (s : ℕ) → with_bit b s / 2 ≡ s
halved true s = omega arith
halved false s = omega arith

later_bit : (k : ℕ) (b : Bool) (s : ℕ) → bit (suc k) (with_bit b s) ≡ bit k s
unfolding bit
later_bit k b s = ap (bit k) (halved b s)

-- A cell: an axis is in the set where its index is off.
pub off_axis : (es : List ℕ) (is : List ℤ) (k : ℕ) → length is ≡ length es → k < length es
    → bit k (off_axes es is) ≡ as_bit (is_off (along (get_or es k 0) (get_or is k (pos 0))))
unfolding off_axes
off_axis [] is k l h = absurd (omega arith)
off_axis (e ∷ es) [] k l h = absurd (omega arith)
off_axis (e ∷ es) (i ∷ is) zero l h = first_bit (is_off (along e i)) (off_axes es is)
off_axis (e ∷ es) (i ∷ is) (suc k) l h = later_bit k (is_off (along e i)) (off_axes es is) ∙ off_axis es is k (omega arith) (omega arith)

-- A point: up to the first coordinate that is not finite, an axis is in the set where its coordinate is not in [0,
-- extent).
pub finite_up_to : ℕ → List Float → Bool
finite_up_to k [] = true
finite_up_to zero (x ∷ xs) = finite x
finite_up_to (suc k) (x ∷ xs) = finite x && finite_up_to k xs

pub outside_axis : (f : Format) (es : List ℕ) (xs : List Float) (k : ℕ) → length xs ≡ length es → k < length es
    → bit k (outside_axes f es xs) ≡ cond (finite_up_to k xs) (as_bit (not (within f (get_or es k 0) (get_or xs k nan)))) 0
unfolding outside_axes finite_up_to bit
outside_axis f [] xs k l h = absurd (omega arith)
outside_axis f (e ∷ es) [] k l h = absurd (omega arith)
outside_axis f (e ∷ es) (x ∷ xs) zero l h = go (finite x)
  where
    go : (b : Bool) → bit 0 (cond b (with_bit (not (within f e x)) (outside_axes f es xs)) 0) ≡ cond b (as_bit (not (within f e x))) 0
    go true = first_bit (not (within f e x)) (outside_axes f es xs)
    go false = refl
outside_axis f (e ∷ es) (x ∷ xs) (suc k) l h = go (finite x) (outside_axis f es xs k (omega arith) (omega arith))
  where
    empty : (j : ℕ) → bit j 0 ≡ 0
    empty zero = refl
    empty (suc j) = empty j

    go : (b : Bool) → bit k (outside_axes f es xs) ≡ cond (finite_up_to k xs) (as_bit (not (within f (get_or es k 0) (get_or xs k nan)))) 0
        → bit (suc k) (cond b (with_bit (not (within f e x)) (outside_axes f es xs)) 0) ≡ cond (b && finite_up_to k xs) (as_bit (not (within f (get_or es k 0) (get_or xs k nan)))) 0
    go true ih = later_bit k (not (within f e x)) (outside_axes f es xs) ∙ ih
    go false ih = empty (suc k)
