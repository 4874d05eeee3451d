-- Of two maps of which one has no lower grade in any cell: no number of its chart is lower; and where the other holds
-- no NaN it holds none. Assumes nothing.
use Prim.Native.Nat.{ℕ, zero, suc, ◌+◌, ◌-◌, ◌*◌, ◌≤◌}
use Rattle.std.proofs.Math.Path.{◌≡◌, refl}
use Rattle.std.proofs.Common.{sym, ap, mul-le-mul, ltb-true, ltb-false}
use Rattle.std.specs.Prelude.{Bool, ◌||◌, List, [], ◌∷◌, ◌++◌, ltb, get_or, Float}
use Rattle.std.proofs.Math.Bool.{true, false, cond}
use Rattle.std.proofs.Math.Option.{some, none}
use native.Mathlib.Omega.{arith}
use Rattle.std.specs.Float.{nan}
use Rattle.std.specs.Float.Ieee.{is_nan}
use Rattle.rules.specs.RefusalNumbers.{nan_column}
use Rattle.rules.specs.LayerChart.{Cuts, eighths, larger, band_cover, random_overlap, stacked, cells_between, five_of, column_chart, chart_of, any_nan, first_nan}
use Rattle.chart.proofs.Bounds.{larger-most}
use Rattle.theorems.specs.LayerChart.{NoneAbove}

-- ---- lists of numbers
pub above-joined : (xs ys us vs : List ℕ) → NoneAbove xs us → NoneAbove ys vs → NoneAbove (xs ++ ys) (us ++ vs)
above-joined [] ys [] vs p q = q
above-joined [] ys (u ∷ us) vs p q = absurd p
above-joined (x ∷ xs) ys [] vs p q = absurd p
above-joined (x ∷ xs) ys (u ∷ us) vs p q = (p.0, above-joined xs ys us vs p.1 q)

pub above_same : (xs : List ℕ) → NoneAbove xs xs
above_same [] = tt
above_same (x ∷ xs) = (omega arith, above_same xs)

-- ---- a column's numbers
larger-left : (a b : ℕ) → a ≤ larger a b
larger-left a b = go (ltb a b) refl
  where
    go : (t : Bool) → ltb a b ≡ t → a ≤ cond t b a
    go true e = let l = ltb-true a b e in omega arith
    go false e = omega arith

larger_right : (a b : ℕ) → b ≤ larger a b
larger_right a b = go (ltb a b) refl
  where
    go : (t : Bool) → ltb a b ≡ t → b ≤ cond t b a
    go true e = omega arith
    go false e = omega (arith, ltb-false a b e)

larger_more : (a b c d : ℕ) → a ≤ c → b ≤ d → larger a b ≤ larger c d
larger_more a b c d p q = larger-most a b (larger c d) (omega (arith, larger-left c d)) (omega (arith, larger_right c d))

random_more : (a b c x y z : ℕ) → a ≤ x → b ≤ y → c ≤ z → random_overlap a b c ≤ random_overlap x y z
random_more a b c x y z p q r =
    let l : (8 - x) * (8 - y) * (8 - z) ≤ (8 - a) * (8 - b) * (8 - c) =
    mul-le-mul (mul-le-mul {n₁ = 8 - x} {m₁ = 8 - y} {n₂ = 8 - a} {m₂ = 8 - b} (omega arith) (omega arith)) (omega arith) in
    omega arith

five_more : (a b c x y z : ℕ) → a ≤ x → b ≤ y → c ≤ z → NoneAbove (five_of a b c) (five_of x y z)
five_more a b c x y z p q r =
    (p, (q, (r, (larger_more (larger a b) c (larger x y) z (larger_more a b x y p q) r, (random_more a b c x y z p q r, tt)))))

-- ---- the whole chart
module _ (ceiling : Float) (odds other : List Float) (more : (p : ℕ) → eighths ceiling (get_or odds p nan) ≤ eighths ceiling (get_or other p nan)) where
  cover_more : (apart n place : ℕ) → band_cover ceiling (stacked apart odds n place) ≤ band_cover ceiling (stacked apart other n place)
  unfolding band_cover stacked
  cover_more apart zero place = omega arith
  cover_more apart (suc n) place = larger_more _ _ _ _ (more place) (cover_more apart n (place + apart))

  column_more : (columns layers : ℕ) (cuts : Cuts) (k : ℕ) → NoneAbove (column_chart columns layers ceiling cuts odds k) (column_chart columns layers ceiling cuts other k)
  unfolding column_chart cells_between
  column_more columns layers cuts k =
      five_more _ _ _ _ _ _ (cover_more columns _ _) (cover_more columns _ _) (cover_more columns _ _)

  pub chart_more : (columns layers : ℕ) (cuts : Cuts) (n : ℕ) → NoneAbove (chart_of columns layers ceiling cuts odds n) (chart_of columns layers ceiling cuts other n)
  unfolding chart_of
  chart_more columns layers cuts zero = tt
  chart_more columns layers cuts (suc n) =
      above-joined (chart_of columns layers ceiling cuts odds n) (column_chart columns layers ceiling cuts odds n) (chart_of columns layers ceiling cuts other n)
      (column_chart columns layers ceiling cuts other n) (chart_more columns layers cuts n) (column_more columns layers cuts n)

-- ---- no NaN
neither : (a b : Bool) → (a || b) ≡ false → (a ≡ false) × (b ≡ false)
neither false b e = (refl, e)
neither true b e = let z : ◌≡◌ {A = ℕ} 0 1 = ap (λ (t : Bool). cond t 1 0) (sym e) in absurd (omega arith)

module _ (odds other : List Float) (good : (p : ℕ) → is_nan (get_or odds p nan) ≡ false → is_nan (get_or other p nan) ≡ false) where
  no_nan : (apart n place : ℕ) → any_nan (stacked apart odds n place) ≡ false → any_nan (stacked apart other n place) ≡ false
  unfolding any_nan stacked
  no_nan apart zero place e = refl
  no_nan apart (suc n) place e =
      let p = neither (is_nan (get_or odds place nan)) (any_nan (stacked apart odds n (place + apart))) e in
      rw (good place p.0) (no_nan apart n (place + apart) p.1)

  pub none_first : (columns layers n column : ℕ) → first_nan columns layers odds n column ≡ none → first_nan columns layers other n column ≡ none
  unfolding first_nan cells_between
  none_first columns layers zero column e = refl
  none_first columns layers (suc n) column e = go (any_nan (stacked columns odds (layers - 0) (column + 0 * columns))) refl (λ w. none_first columns layers n (suc column) w) e
    where
      go : (b : Bool) → any_nan (stacked columns odds (layers - 0) (column + 0 * columns)) ≡ b
          → (first_nan columns layers odds n (suc column) ≡ none → first_nan columns layers other n (suc column) ≡ none)
          → cond b (some (nan_column column)) (first_nan columns layers odds n (suc column)) ≡ none → first_nan columns layers other (suc n) column ≡ none
      go true q ih w = let z : ◌≡◌ {A = ℕ} 0 1 = cc in absurd (omega arith)
      go false q ih w = rw (no_nan columns (layers - 0) (column + 0 * columns) q) (ih w)
