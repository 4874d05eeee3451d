-- Different cells of a map have different places in the lists, over any number of axes: the place tells each index by
-- its remainder. Assumes nothing.
use Rattle.std.specs.Prelude.{ℕ, suc, ◌+◌, ◌*◌, ◌%◌, ◌<◌, ◌≡◌, refl, Bool, true, false, cond, List, [], ◌∷◌, ℤ, pos, negsuc, length, ltb}
use Rattle.std.proofs.Common.{sym, ap, ap₂, ◌∙◌, mul_assoc, mul_comm, mul-zero, one-mul, mul-add, mod-eq_of_lt, arith}
use Rattle.std.proofs.Math.Option.{Option, some, none}
use Rattle.std.proofs.Math.Nat.{add-mul-mod_self_left, eq_of_mul-eq-mul_left}
use Rattle.rules.specs.RefusalNumbers.{Answer, given, refused, and_then}
use Rattle.rules.specs.TheGridAndItsBounds.{strides_from, strides}
use Rattle.rules.specs.Coordinates.{along, or_off, off_axes, on_grid_from, times_strides, flat_index}
use Rattle.laws.specs.Places.{along-lt}

-- a place by the extents alone: the first index, and so many extents as the place among the axes after it
abbrev place_of : List ℕ → List ℕ → ℕ
place_of [] es = 0
place_of (n ∷ ns) [] = 0
place_of (n ∷ ns) (e ∷ es) = n + e * place_of ns es

by_extents : (stride : ℕ) (ns es : List ℕ) → times_strides ns (strides_from stride es) ≡ stride * place_of ns es
unfolding times_strides strides_from
by_extents stride [] es = sym (mul-zero stride)
by_extents stride (n ∷ ns) [] = sym (mul-zero stride)
by_extents stride (n ∷ ns) (e ∷ es) =
    ap₂ (λ (x y : ℕ). x + y) (mul_comm n stride) (by_extents (stride * e) ns es ∙ mul_assoc stride e (place_of ns es)) ∙ sym (mul-add stride n (e * place_of ns es))

-- ---- one axis: the index is the remainder
same_index : (e n m x y : ℕ) → n < e → m < e → n + e * x ≡ m + e * y → n ≡ m
same_index e n m x y p q h =
    sym (mod-eq_of_lt p) ∙ sym (add-mul-mod_self_left n e x) ∙ ap (λ (z : ℕ). z % e) h ∙ add-mul-mod_self_left m e y ∙ mod-eq_of_lt q

same_rest : (e n m x y : ℕ) → 0 < e → n ≡ m → n + e * x ≡ m + e * y → x ≡ y
same_rest e n m x y p q h = eq_of_mul-eq-mul_left e p x y (omega arith)

along_is : (e : ℕ) (i : ℤ) (n : ℕ) → along e i ≡ some n → i ≡ pos n
unfolding along
along_is e (pos k) n h = go (ltb k e) h
  where
    go : (b : Bool) → cond b (some k) none ≡ some n → pos k ≡ pos n
    go true q = cc
    go false q = let z : ◌≡◌ {A = ℕ} 0 1 = cc in absurd (omega arith)
along_is e (negsuc k) n h = let z : ◌≡◌ {A = ℕ} 0 1 = cc in absurd (omega arith)

-- ---- what a cell that was found has along its first axis, and along the others
record First (off k e : ℕ) (es : List ℕ) (i : ℤ) (is : List ℤ) (ns : List ℕ) : Type 0 where
  index : ℕ
  others : List ℕ
  is_index : along e i ≡ some index
  are_others : on_grid_from off (suc k) es is ≡ given others
  together : ns ≡ index ∷ others

first : (off k e : ℕ) (es : List ℕ) (i : ℤ) (is : List ℤ) (ns : List ℕ) → on_grid_from off k (e ∷ es) (i ∷ is) ≡ given ns → First off k e es i is ns
unfolding on_grid_from
first off k e es i is ns q = go (along e i) refl (on_grid_from off (suc k) es is) refl q
  where
    go : (a : Option ℕ) → along e i ≡ a → (r : Answer (List ℕ)) → on_grid_from off (suc k) es is ≡ r
        → and_then (or_off off k e i a) (λ n. and_then r (λ ms. given (n ∷ ms))) ≡ given ns → First off k e es i is ns
    go (some n) t (given ms) u v = record { index = n; others = ms; is_index = t; are_others = u; together = cc }
    go (some n) t (refused x) u v = let z : ◌≡◌ {A = ℕ} 0 1 = cc in absurd (omega arith)
    go none t r u v = let z : ◌≡◌ {A = ℕ} 0 1 = cc in absurd (omega arith)

same-cell : (o o' k : ℕ) (es : List ℕ) (is js : List ℤ) (ns ms : List ℕ) → length is ≡ length es → length js ≡ length es
    → on_grid_from o k es is ≡ given ns → on_grid_from o' k es js ≡ given ms → place_of ns es ≡ place_of ms es → is ≡ js
same-cell o o' k [] [] [] ns ms l r p q h = refl
same-cell o o' k [] [] (j ∷ js) ns ms l r p q h = absurd (omega arith)
same-cell o o' k [] (i ∷ is) js ns ms l r p q h = absurd (omega arith)
same-cell o o' k (e ∷ es) [] js ns ms l r p q h = absurd (omega arith)
same-cell o o' k (e ∷ es) (i ∷ is) [] ns ms l r p q h = absurd (omega arith)
same-cell o o' k (e ∷ es) (i ∷ is) (j ∷ js) ns ms l r p q h =
    let a = first o k e es i is ns p in
    let b = first o' k e es j js ms q in
    let x = place_of a.others es in
    let y = place_of b.others es in
    let g : a.index + e * x ≡ b.index + e * y = ap (λ (z : List ℕ). place_of z (e ∷ es)) (sym a.together) ∙ h ∙ ap (λ (z : List ℕ). place_of z (e ∷ es)) b.together in
    let here = same_index e a.index b.index x y (along-lt e i a.index a.is_index) (along-lt e j b.index b.is_index) g in
    let above : 0 < e = omega (arith, along-lt e i a.index a.is_index) in
    ap₂ (λ (z : ℤ) (zs : List ℤ). z ∷ zs) (along_is e i a.index a.is_index ∙ ap pos here ∙ sym (along_is e j b.index b.is_index))
    (same-cell o o' (suc k) es is js a.others b.others (omega arith) (omega arith) a.are_others b.are_others (same_rest e a.index b.index x y above here g))

-- ---- the place
pub place_tells : (es : List ℕ) (is js : List ℤ) (place : ℕ) → length is ≡ length es → length js ≡ length es → flat_index es is ≡ given place → flat_index es js ≡ given place → is ≡ js
unfolding flat_index strides
place_tells es is js place l r p q = go (on_grid_from (off_axes es is) 0 es is) refl (on_grid_from (off_axes es js) 0 es js) refl p q
  where
    go : (a : Answer (List ℕ)) → on_grid_from (off_axes es is) 0 es is ≡ a → (b : Answer (List ℕ)) → on_grid_from (off_axes es js) 0 es js ≡ b
        → and_then a (λ ns. given (times_strides ns (strides_from 1 es))) ≡ given place → and_then b (λ ns. given (times_strides ns (strides_from 1 es))) ≡ given place → is ≡ js
    go (given ns) t (given ms) u v w =
        let x : times_strides ns (strides_from 1 es) ≡ place = cc in
        let y : times_strides ms (strides_from 1 es) ≡ place = cc in
        same-cell (off_axes es is) (off_axes es js) 0 es is js ns ms l r t u (sym (one-mul (place_of ns es)) ∙ sym (by_extents 1 ns es) ∙ x ∙ sym y ∙ by_extents 1 ms es ∙ one-mul (place_of ms es))
    go (given ns) t (refused x) u v w = let z : ◌≡◌ {A = ℕ} 0 1 = cc in absurd (omega arith)
    go (refused x) t b u v w = let z : ◌≡◌ {A = ℕ} 0 1 = cc in absurd (omega arith)
