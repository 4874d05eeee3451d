-- One cell of promise 3's last sentence, from its premises: a clear mark that a cloud mark takes back leaves what the
-- cloud mark alone would. Assumes nothing.
use Rattle.std.specs.Prelude.{◌≡◌, refl, ◌⊎◌, ℕ, ◌+◌, ◌*◌, ◌/◌, ◌^◌, ◌≤◌, ◌<◌, Bool, true, false, ◌&&◌, cond, T, leb, ltb, Float}
use Rattle.std.proofs.Common.{ap, ◌∙◌, subst, inl, inr, zero-mul, arith, leb→le, ltb→lt}
use Rattle.std.specs.Float.{Format, binary32, binary64}
use Rattle.std.specs.Float.Ieee.{sub, neg, lt, le, fits}
use Rattle.std.specs.Float.Ieee.Scale.{finite}
use Rattle.std.specs.Float.Ieee.Fits.{and_l, and_r}
use Rattle.std.specs.Float.Ieee.Exact.{HasValue}
use Rattle.rules.specs.Floats.{zero_f}
use Rattle.rules.specs.TheGridAndItsBounds.{Pair, Model, most_size, pair_bounded, bounded, floor}
use Rattle.rules.specs.MarksAndFrames.{Steps, pair_for, steps_at, freed}
use Rattle.marks.proofs.BandLaws.{pair_passes}
use Rattle.laws.specs.Floats.Tests.{or_cases}
use Rattle.theorems.specs.PromiseThree.Dyadic.{Units, Signed, dif, at, dif-units, dif-sub, neg_units_are, units_val, lt_signed, le_signed}
use Rattle.theorems.specs.PromiseThree.Multiple.{many, negative, multiple-units, plus, less, own_value}
use Rattle.theorems.specs.PromiseThree.TakeBack.{alone, taken_back, most, most-fits, StepUnits, units-dif, take_back}
use Rattle.theorems.specs.PromiseThree.{places, multiple, odds_within, of_units, largest_size, pair_of_units, model_of_units, clear_of_floor}

largest_value : (f : Format) → HasValue (largest_size f) false (most f) (2 ^ places f)
largest_value binary32 = (refl, refl)
largest_value binary64 = (refl, refl)

least_value : (f : Format) → HasValue (neg (largest_size f)) true (most f) (2 ^ places f)
unfolding neg
least_value binary32 = (refl, refl)
least_value binary64 = (refl, refl)

zero_value : (f : Format) → HasValue zero_f false 0 (2 ^ places f)
zero_value f = (refl, zero-mul (2 ^ places f))

-- what a comparison says of two numbers of units
says : (b c : Bool) → b ≡ c → T b → T c
says b c e t = subst (λ (x : Bool). T x) e t

signed : (s : Bool) (n : ℕ) → Signed s n (cond s 0 n) (cond s n 0)
signed true n = omega arith
signed false n = omega arith

-- the order of a multiple x and of a float y that is ±k units
module _ (f : Format) (x y : Float) (w : T (multiple f x)) (t : Bool) (k c d : ℕ) (v : HasValue y t k (2 ^ places f)) (g : Signed t k c d) where
  lt-left : T (lt x y) → plus f x + d < c + less f x
  lt-left h =
      ltb→lt (plus f x + d) (c + less f x) (says (lt x y) (ltb (plus f x + d) (c + less f x))
      (lt_signed f x y (negative x) t (many f x) k (plus f x) (less f x) c d (own_value f x w) v (signed (negative x) (many f x)) g) h)

  lt_right : T (lt y x) → c + less f x < plus f x + d
  lt_right h =
      ltb→lt (c + less f x) (plus f x + d) (says (lt y x) (ltb (c + less f x) (plus f x + d))
      (lt_signed f y x t (negative x) k (many f x) c d (plus f x) (less f x) v (own_value f x w) g (signed (negative x) (many f x))) h)

  le_left : T (le x y) → plus f x + d ≤ c + less f x
  le_left h =
      leb→le (plus f x + d) (c + less f x) (says (le x y) (leb (plus f x + d) (c + less f x))
      (le_signed f x y (negative x) t (many f x) k (plus f x) (less f x) c d (own_value f x w) v (signed (negative x) (many f x)) g) h)

  le_right : T (le y x) → c + less f x ≤ plus f x + d
  le_right h =
      leb→le (c + less f x) (plus f x + d) (says (le y x) (leb (c + less f x) (plus f x + d))
      (le_signed f y x t (negative x) k (many f x) c d (plus f x) (less f x) v (own_value f x w) g (signed (negative x) (many f x))) h)

-- one of the two numbers is zero
split : (f : Format) (x : Float) → ((plus f x ≡ many f x) × (less f x ≡ 0)) ⊎ ((plus f x ≡ 0) × (less f x ≡ many f x))
split f x = go (negative x) (many f x)
  where
    go : (s : Bool) (n : ℕ) → ((cond s 0 n ≡ n) × (cond s n 0 ≡ 0)) ⊎ ((cond s 0 n ≡ 0) × (cond s n 0 ≡ n))
    go true n = inr (refl, refl)
    go false n = inl (refl, refl)

-- ---- a step or a bound
module _ (f : Format) (x : Float) (p : T (fits f x)) (w : T (multiple f x)) where
  pub positive_units : T (lt zero_f x) → T (le x (largest_size f)) → Units f x (many f x) 0 × (0 < many f x) × (many f x ≤ most f)
  positive_units a b =
      let lo = lt_right f x zero_f w false 0 0 0 (zero_value f) (omega arith) a in
      let hi = le_left f x (largest_size f) w false (most f) (most f) 0 (largest_value f) (omega arith) b in
      go (split f x) lo hi
    where
      go : ((plus f x ≡ many f x) × (less f x ≡ 0)) ⊎ ((plus f x ≡ 0) × (less f x ≡ many f x)) → 0 + less f x < plus f x + 0 → plus f x + 0 ≤ most f + less f x
          → Units f x (many f x) 0 × (0 < many f x) × (many f x ≤ most f)
      go (inl e) lo hi =
          let u : Units f x (plus f x) (less f x) = multiple-units f x p w (omega (arith, most-fits f)) in
          (rw (e.0, e.1) at u, omega arith, omega arith)
      go (inr e) lo hi = absurd (omega arith)

  pub negative-units : T (lt x zero_f) → T (le (neg (largest_size f)) x) → Units f x 0 (many f x) × (0 < many f x) × (many f x ≤ most f)
  negative-units a b =
      let hi = lt-left f x zero_f w false 0 0 0 (zero_value f) (omega arith) a in
      let lo = le_right f x (neg (largest_size f)) w true (most f) 0 (most f) (least_value f) (omega arith) b in
      go (split f x) lo hi
    where
      go : ((plus f x ≡ many f x) × (less f x ≡ 0)) ⊎ ((plus f x ≡ 0) × (less f x ≡ many f x)) → 0 + less f x ≤ plus f x + most f → plus f x + 0 < 0 + less f x
          → Units f x 0 (many f x) × (0 < many f x) × (many f x ≤ most f)
      go (inl e) lo hi = absurd (omega arith)
      go (inr e) lo hi =
          let u : Units f x (plus f x) (less f x) = multiple-units f x p w (omega (arith, most-fits f)) in
          (rw (e.0, e.1) at u, omega arith, omega arith)

-- ---- the model
first_three : (a b c d e f g h i : Bool) → T (a && b && c && d && e && f && g && h && i) → T a × T b × T c
first_three true true true d e f g h i t = (tt, tt, tt)
first_three true true false d e f g h i t = absurd t
first_three true false c d e f g h i t = absurd t
first_three false b c d e f g h i t = absurd t

three : (a b c : Bool) → T (a && b && c) → T a × T b × T c
three true true true t = (tt, tt, tt)
three true true false t = absurd t
three true false c t = absurd t
three false b c t = absurd t

signs : (c : Float) (p : Pair) → T (pair_bounded c p) → T (lt zero_f p.occupied) × T (lt p.free zero_f) × T (lt zero_f c)
unfolding pair_bounded
signs c p t =
    first_three (lt zero_f p.occupied) (lt p.free zero_f) (lt zero_f c) (finite p.occupied) (finite p.free) (finite c)
    (le p.occupied most_size) (le (neg most_size) p.free) (le c most_size) t

pub of_units_lem : (f : Format) (x : Float) → T (of_units f x) → T (fits f x) × T (multiple f x)
unfolding of_units
of_units_lem f x t = (and_l (fits f x) (multiple f x) t, and_r (fits f x) (multiple f x) t)

-- a cell's steps are its band's
pub step_units : (f : Format) (m : Model) (i : ℕ) → T (bounded m) → T (model_of_units f m)
    → StepUnits f (steps_at m i) (many f (pair_for m i).occupied) (many f (pair_for m i).free) (many f m.ceiling)
unfolding bounded model_of_units pair_of_units steps_at floor
step_units f m i bounds units =
    let p = pair_for m i in
    let b = pair_passes (pair_bounded m.ceiling) (i / m.layer) m.lowest m.above bounds in
    let t = pair_passes (pair_of_units f m.ceiling) (i / m.layer) m.lowest m.above units in
    let a = of_units f p.occupied && of_units f p.free && of_units f m.ceiling in
    let z = le p.occupied (largest_size f) && le (neg (largest_size f)) p.free && le m.ceiling (largest_size f) in
    let u = three (of_units f p.occupied) (of_units f p.free) (of_units f m.ceiling) (and_l a z t) in
    let w = three (le p.occupied (largest_size f)) (le (neg (largest_size f)) p.free) (le m.ceiling (largest_size f)) (and_r a z t) in
    let s = signs m.ceiling p b in
    let o = positive_units f p.occupied (of_units_lem f p.occupied u.0).0 (of_units_lem f p.occupied u.0).1 s.0 w.0 in
    let n = negative-units f p.free (of_units_lem f p.free u.1).0 (of_units_lem f p.free u.1).1 s.1 w.1 in
    let c = positive_units f m.ceiling (of_units_lem f m.ceiling u.2).0 (of_units_lem f m.ceiling u.2).1 s.2 w.2 in
    record {
      occupied = o.0;
      free = n.0;
      floor = neg_units_are f m.ceiling (many f m.ceiling) 0 c.0;
      ceiling = c.0;
      occupied_pos = o.1;
      free_pos = n.1;
      ceiling_pos = c.1;
      occupied_most = o.2;
      free_most = n.2;
      ceiling_most = c.2;
    }

-- ---- the cell
module _ (f : Format) (s : Steps) (O F C : ℕ) (u : StepUnits f s O F C) (o : Float) (p : T (fits f o)) (w : T (multiple f o)) where
  pub above : T (le s.floor o) → less f o ≤ plus f o + C
  above h =
      let v = u.floor in
      omega (arith, le_right f o s.floor w v.sign v.count 0 C (units_val f s.floor 0 C v) v.apart h)

  below : T (le o s.ceiling) → plus f o ≤ C + less f o
  below h =
      let v = u.ceiling in
      omega (arith, le_left f o s.ceiling w v.sign v.count C 0 (units_val f s.ceiling C 0 v) v.apart h)

  on-floor : T (le o s.floor) → plus f o + C ≤ less f o
  on-floor h =
      let v = u.floor in
      omega (arith, le_left f o s.floor w v.sign v.count 0 C (units_val f s.floor 0 C v) v.apart h)

  over_floor : T (lt (sub f s.floor s.free) o) → less f o + F < plus f o + C
  over_floor h =
      let v : Units f (dif f (0 + F) (C + 0)) (0 + F) (C + 0) =
      dif-units f (0 + F) (C + 0) (omega (arith, u.free_most, most-fits f)) (omega (arith, u.ceiling_most, most-fits f)) in
      let e : sub f s.floor s.free ≡ dif f (0 + F) (C + 0) =
      ap (λ (x : Float). sub f x s.free) (units-dif f s.floor 0 C u.floor (inl u.ceiling_pos))
      ∙ dif-sub f s.free 0 C 0 F u.free (omega (arith, most-fits f, u.ceiling_pos, u.ceiling_most)) (omega (arith, most-fits f, u.ceiling_most)) in
      let g : T (lt (dif f (0 + F) (C + 0)) o) = subst (λ (x : Float). T (lt x o)) e h in
      omega (arith, lt_right f o (dif f (0 + F) (C + 0)) w v.sign v.count (0 + F) (C + 0) (units_val f (dif f (0 + F) (C + 0)) (0 + F) (C + 0) v) v.apart g)

  small : less f o ≤ plus f o + C → plus f o ≤ C + less f o → many f o ≤ C
  small a b = go (split f o)
    where
      go : ((plus f o ≡ many f o) × (less f o ≡ 0)) ⊎ ((plus f o ≡ 0) × (less f o ≡ many f o)) → many f o ≤ C
      go (inl e) = omega arith
      go (inr e) = omega arith

  pub in_units : T (le s.floor o) → T (le o s.ceiling) → Units f o (plus f o) (less f o)
  in_units a b = multiple-units f o p w (omega (arith, small (above a) (below b), u.ceiling_most, most-fits f))

  pub near-zero : T (le s.floor o) → T (le o s.ceiling) → (plus f o ≤ less f o + 4 * most f) × (less f o ≤ plus f o + 4 * most f)
  near-zero a b = (omega (arith, below b, u.ceiling_most), omega (arith, above a, u.ceiling_most))

  settles : T (le s.floor o) → T (le o s.ceiling) → T (le o s.floor) ⊎ T (lt (sub f s.floor s.free) o) → taken_back f s (freed f s o) ≡ alone f s o
  settles a b h =
      let near = near-zero a b in
      take_back f s O F C u o (plus f o) (less f o) (in_units a b) near.0 near.1 (go h (above a))
    where
      go : T (le o s.floor) ⊎ T (lt (sub f s.floor s.free) o) → less f o ≤ plus f o + C → (plus f o + C ≡ less f o) ⊎ (less f o + F < plus f o + C)
      go (inl k) x = inl (omega (arith, on-floor k))
      go (inr k) x = inr (over_floor k)

-- PROMISE 3, of one cell
pub exact : (f : Format) (m : Model) (i : ℕ) (o : Float) → T (bounded m) → T (model_of_units f m) → T (odds_within m o) → T (of_units f o)
    → T (clear_of_floor f (steps_at m i) o) → taken_back f (steps_at m i) (freed f (steps_at m i) o) ≡ alone f (steps_at m i) o
unfolding odds_within clear_of_floor steps_at
exact f m i o b n t w c =
    let s = steps_at m i in
    settles f s (many f (pair_for m i).occupied) (many f (pair_for m i).free) (many f m.ceiling) (step_units f m i b n) o (of_units_lem f o w).0 (of_units_lem f o w).1
    (and_l (le (floor m) o) (le o m.ceiling) t) (and_r (le (floor m) o) (le o m.ceiling) t)
    (or_cases (le o s.floor) (lt (sub f s.floor s.free) o) c)
