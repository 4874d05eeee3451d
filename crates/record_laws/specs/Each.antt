-- A fact of each element of a list, said by its place, as the facts about a lent list's numbers are; and tests of which
-- all must hold. Assumes nothing.
use Rattle.std.specs.Prelude.{ℕ, zero, suc, List, [], ◌∷◌, ◌++◌, Bool, true, false, ◌&&◌, ◌≡◌, refl, take, drop}
use Rattle.std.proofs.Common.{arith}
use Rattle.record_laws.specs.Words.{Each}

module _ {A : Type 0} (P : A → Type 0) (d : A) where
  pub each_nil : Each P d []
  each_nil i l = absurd (omega arith)

  pub each_tail : (x : A) (xs : List A) → Each P d (x ∷ xs) → Each P d xs
  each_tail x xs h i l = h (suc i) (omega arith)

  pub each_cons : (x : A) (xs : List A) → P x → Each P d xs → Each P d (x ∷ xs)
  each_cons x xs p h zero l = p
  each_cons x xs p h (suc i) l = h i (omega arith)

  pub each_drop : (k : ℕ) (xs : List A) → Each P d xs → Each P d (drop k xs)
  each_drop zero xs h = h
  each_drop (suc k) [] h = h
  each_drop (suc k) (x ∷ xs) h = each_drop k xs (each_tail x xs h)

  pub each_take : (k : ℕ) (xs : List A) → Each P d xs → Each P d (take k xs)
  each_take zero xs h = each_nil
  each_take (suc k) [] h = h
  each_take (suc k) (x ∷ xs) h = each_cons x (take k xs) (h 0 (omega arith)) (each_take k xs (each_tail x xs h))

  pub each_left : (xs ys : List A) → Each P d (xs ++ ys) → Each P d xs
  each_left [] ys h = each_nil
  each_left (x ∷ xs) ys h = each_cons x xs (h 0 (omega arith)) (each_left xs ys (each_tail x (xs ++ ys) h))

  pub each_right : (xs ys : List A) → Each P d (xs ++ ys) → Each P d ys
  each_right [] ys h = h
  each_right (x ∷ xs) ys h = each_right xs ys (each_tail x (xs ++ ys) h)

  pub each_append : (xs ys : List A) → Each P d xs → Each P d ys → Each P d (xs ++ ys)
  each_append [] ys h g = g
  each_append (x ∷ xs) ys h g = each_cons x (xs ++ ys) (h 0 (omega arith)) (each_append xs ys (each_tail x xs h) g)

pub both : (a b : Bool) → a && b ≡ true → (a ≡ true) × (b ≡ true)
both true true e = (refl, refl)
both true false e = let z : ◌≡◌ {A = ℕ} 0 1 = cc in absurd (omega arith)
both false b e = let z : ◌≡◌ {A = ℕ} 0 1 = cc in absurd (omega arith)

pub all_three : (a b c : Bool) → a && b && c ≡ true → (a ≡ true) × (b ≡ true) × (c ≡ true)
all_three a b c e = let x = both (a && b) c e in let y = both a b x.0 in (y.0, y.1, x.1)
