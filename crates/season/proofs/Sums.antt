-- Sums of lists, number by number, for lists of one length. Assumes nothing.
use Prim.Native.Nat.{ℕ, zero, suc, ◌+◌}
use mathlib.Core.Path.{◌≡◌, refl, ap}
use mathlib.Core.List.{List, [], ◌∷◌, ◌++◌}
use native.Mathlib.Nat.{add_comm, add_assoc, add-zero, zero-add}
use native.Mathlib.Omega.{arith}
use lib.ListN.{length, get_or, replicate}
use Rattle.rules.specs.SeasonReport.{plus}

pub plus-length : (xs ys : List ℕ) → length (plus xs ys) ≡ length xs
unfolding plus
plus-length [] ys = refl
plus-length (x ∷ xs) [] = refl
plus-length (x ∷ xs) (y ∷ ys) = ap suc (plus-length xs ys)

pub plus_comm : (xs ys : List ℕ) → length xs ≡ length ys → plus xs ys ≡ plus ys xs
unfolding plus
plus_comm [] [] e = refl
plus_comm [] (y ∷ ys) e = absurd (omega arith)
plus_comm (x ∷ xs) [] e = absurd (omega arith)
plus_comm (x ∷ xs) (y ∷ ys) e = rw (add_comm x y, plus_comm xs ys (omega arith)) refl

pub plus_assoc : (xs ys zs : List ℕ) → length xs ≡ length ys → length ys ≡ length zs → plus (plus xs ys) zs ≡ plus xs (plus ys zs)
unfolding plus
plus_assoc [] ys zs e g = refl
plus_assoc (x ∷ xs) [] zs e g = absurd (omega arith)
plus_assoc (x ∷ xs) (y ∷ ys) [] e g = absurd (omega arith)
plus_assoc (x ∷ xs) (y ∷ ys) (z ∷ zs) e g = rw (add_assoc x y z, plus_assoc xs ys zs (omega arith) (omega arith)) refl

pub plus_zeros : (xs : List ℕ) → plus xs (replicate (length xs) 0) ≡ xs
unfolding plus
plus_zeros [] = refl
plus_zeros (x ∷ xs) = rw (add-zero x, plus_zeros xs) refl

pub zeros_plus : (xs : List ℕ) → plus (replicate (length xs) 0) xs ≡ xs
unfolding plus
zeros_plus [] = refl
zeros_plus (x ∷ xs) = rw (zero-add x, zeros_plus xs) refl

pub plus_append : (xs ys us vs : List ℕ) → length xs ≡ length ys → plus (xs ++ us) (ys ++ vs) ≡ plus xs ys ++ plus us vs
unfolding plus
plus_append [] [] us vs e = refl
plus_append [] (y ∷ ys) us vs e = absurd (omega arith)
plus_append (x ∷ xs) [] us vs e = absurd (omega arith)
plus_append (x ∷ xs) (y ∷ ys) us vs e = ap (λ (l : List ℕ). (x + y) ∷ l) (plus_append xs ys us vs (omega arith))

pub get_d_plus : (xs ys : List ℕ) (i : ℕ) → length xs ≡ length ys → get_or (plus xs ys) i 0 ≡ get_or xs i 0 + get_or ys i 0
unfolding plus
get_d_plus [] [] i e = refl
get_d_plus [] (y ∷ ys) i e = absurd (omega arith)
get_d_plus (x ∷ xs) [] i e = absurd (omega arith)
get_d_plus (x ∷ xs) (y ∷ ys) zero e = refl
get_d_plus (x ∷ xs) (y ∷ ys) (suc i) e = get_d_plus xs ys i (omega arith)
