-- With multiples of the unit, a clear mark that a cloud mark takes back leaves what the cloud mark alone would: of one
-- cell, from numbers of units. Assumes nothing.
use Rattle.std.specs.Prelude.{◌≡◌, ℕ, ◌+◌, ◌*◌, ◌^◌, ◌≤◌, ◌<◌, min, max, Bool, true, false, ◌⊎◌, ltb, Float}
use Rattle.std.proofs.Common.{sym, ◌∙◌, arith, inl, inr, lt-ltb, le-ltb, le-leb, lit≤}
use Rattle.std.proofs.Math.Path.{ap, ap₂, subst}
use Rattle.std.proofs.Math.Bool.{cond}
use Rattle.std.proofs.lemmas.Bool.{lt-leb}
use Rattle.std.specs.Float.{Format, binary32, binary64}
use Rattle.std.specs.Float.Ieee.{prec, add, sub, neg, le}
use Rattle.rules.specs.MarksAndFrames.{Steps, clamp, limited, freed, occupy}
use Rattle.laws.specs.Floats.Tests.{order}
use Rattle.theorems.specs.PromiseThree.Dyadic.{Units, Signed, dif, at, dif_neg, dif_pos, dif-same, dif-units, add-dif, neg_units_are, lt-units, le-units}

-- the odds after a cloud mark alone, and after one that takes back a clear mark of this frame
abbrev pub alone : Format → Steps → Float → Float
alone f s o = occupy f s o s.occupied

abbrev pub taken_back : Format → Steps → Float → Float
taken_back f s o = occupy f s o (cond (le o s.floor) s.occupied (sub f s.occupied s.free))

-- the largest steps and bounds in units: 2,048 and 1,048,576
abbrev pub most : Format → ℕ
most binary32 = 524288
most binary64 = 1099511627776

pub most-fits : (f : Format) → 8 * most f < 2 ^ prec f
most-fits binary32 = lit≤ tt
most-fits binary64 = lit≤ tt

-- a number of units that is not zero has one form
pub units-dif : (f : Format) (x : Float) (a b : ℕ) (u : Units f x a b) → (a < b) ⊎ (b < a) → x ≡ dif f a b
units-dif f x a b u h = u.is ∙ go u.sign u.count u.apart h
  where
    go : (s : Bool) (n : ℕ) → Signed s n a b → (a < b) ⊎ (b < a) → at f s n ≡ dif f a b
    go true n e (inl p) = ap (λ (k : ℕ). at f true k) (omega arith) ∙ sym (dif_neg f a b p)
    go true n e (inr p) = absurd (omega arith)
    go false n e (inl p) = absurd (omega arith)
    go false n e (inr p) = ap (λ (k : ℕ). at f false k) (omega arith) ∙ sym (dif_pos f a b (omega arith))

-- the steps and bounds of a cell are O, -F, -C and C units
pub record StepUnits (f : Format) (s : Steps) (O F C : ℕ) : Type 0 where
  pub occupied : Units f s.occupied O 0
  pub free : Units f s.free 0 F
  pub floor : Units f s.floor 0 C
  pub ceiling : Units f s.ceiling C 0
  pub occupied_pos : 0 < O
  pub free_pos : 0 < F
  pub ceiling_pos : 0 < C
  pub occupied_most : O ≤ most f
  pub free_most : F ≤ most f
  pub ceiling_most : C ≤ most f

module _ (f : Format) (s : Steps) (O F C : ℕ) (u : StepUnits f s O F C) where
  limited_is : (x : Float) (a b : ℕ) → x ≡ dif f a b → a < b + 2 ^ prec f → b < a + 2 ^ prec f → limited s x ≡ dif f (max b (min (a + C) (b + C + C))) (b + C)
  unfolding limited clamp
  limited_is x a b e p q =
      let w : Units f x a b = subst (λ (z : Float). Units f z a b) (sym e) (dif-units f a b p q) in
      ap₂ (λ (i j : Bool). cond i s.floor (cond j s.ceiling x)) (lt-units f x s.floor a b 0 C w u.floor) (lt-units f s.ceiling x C 0 a b u.ceiling w)
      ∙ go (order (a + C) (0 + b)) (order (C + b) (a + 0))
    where
      go : (a + C < 0 + b) ⊎ (0 + b ≤ a + C) → (C + b < a + 0) ⊎ (a + 0 ≤ C + b)
          → cond (ltb (a + C) (0 + b)) s.floor (cond (ltb (C + b) (a + 0)) s.ceiling x) ≡ dif f (max b (min (a + C) (b + C + C))) (b + C)
      go (inl h) k =
          ap (λ (t : Bool). cond t s.floor (cond (ltb (C + b) (a + 0)) s.ceiling x)) (lt-ltb (a + C) (0 + b) h)
          ∙ units-dif f s.floor 0 C u.floor (inl u.ceiling_pos) ∙ dif-same f 0 C (max b (min (a + C) (b + C + C))) (b + C) (omega arith)
      go (inr h) (inl k) =
          ap₂ (λ (t v : Bool). cond t s.floor (cond v s.ceiling x)) (le-ltb (a + C) (0 + b) h) (lt-ltb (C + b) (a + 0) k)
          ∙ units-dif f s.ceiling C 0 u.ceiling (inr u.ceiling_pos) ∙ dif-same f C 0 (max b (min (a + C) (b + C + C))) (b + C) (omega arith)
      go (inr h) (inr k) =
          ap₂ (λ (t v : Bool). cond t s.floor (cond v s.ceiling x)) (le-ltb (a + C) (0 + b) h) (le-ltb (C + b) (a + 0) k)
          ∙ e ∙ dif-same f a b (max b (min (a + C) (b + C + C))) (b + C) (omega arith)

  -- what a step of (c - d) units and the bounds make of (a - b) units
  shifted : (o : Float) (a b c d : ℕ) → Units f o a b → c ≤ most f + most f → d ≤ most f → a ≤ b + 4 * most f → b ≤ a + 4 * most f
      → limited s (add f o (dif f c d)) ≡ dif f (max (b + d) (min (a + c + C) (b + d + C + C))) (b + d + C)
  shifted o a b c d w p q g h =
      let M = most-fits f in
      limited_is (add f o (dif f c d)) (a + c) (b + d) (add-dif f o a b c d w (omega arith) (omega arith)) (omega arith) (omega arith)

  pub free_is : s.free ≡ dif f 0 F
  free_is = units-dif f s.free 0 F u.free (inl u.free_pos)

  occupied_is : s.occupied ≡ dif f O 0
  occupied_is = units-dif f s.occupied O 0 u.occupied (inr u.occupied_pos)

  both_is : sub f s.occupied s.free ≡ dif f (O + F) 0
  unfolding sub
  both_is =
      let M = most-fits f in
      let n : Units f (neg s.free) F 0 = neg_units_are f s.free 0 F u.free in
      ap (λ (y : Float). add f s.occupied y) (units-dif f (neg s.free) F 0 n (inr u.free_pos))
      ∙ add-dif f s.occupied O 0 F 0 u.occupied (omega (arith, u.free_most)) (omega (arith, u.free_most))

  module _ (o : Float) (a b : ℕ) (w : Units f o a b) (near : a ≤ b + 4 * most f) (near' : b ≤ a + 4 * most f) where
    pub freed_is : freed f s o ≡ dif f (max (b + F) (min (a + 0 + C) (b + F + C + C))) (b + F + C)
    unfolding freed
    freed_is = ap (λ (y : Float). limited s (add f o y)) free_is ∙ shifted o a b 0 F w (omega arith) u.free_most near near'

    stepped : (c : ℕ) (d : Float) → d ≡ dif f c 0 → c ≤ most f + most f → occupy f s o d ≡ dif f (max (b + 0) (min (a + c + C) (b + 0 + C + C))) (b + 0 + C)
    unfolding occupy
    stepped c d e h = ap (λ (y : Float). limited s (add f o y)) e ∙ shifted o a b c 0 w h (omega arith) near near'

    pub alone_is : alone f s o ≡ dif f (max (b + 0) (min (a + O + C) (b + 0 + C + C))) (b + 0 + C)
    alone_is = stepped O s.occupied occupied_is (omega (arith, u.occupied_most))

    pub back_low : a + C ≤ b → taken_back f s o ≡ dif f (max (b + 0) (min (a + O + C) (b + 0 + C + C))) (b + 0 + C)
    back_low h =
        ap (λ (t : Bool). occupy f s o (cond t s.occupied (sub f s.occupied s.free)))
        (le-units f o s.floor a b 0 C w u.floor ∙ le-leb (a + C) (0 + b) (omega arith))
        ∙ alone_is

    back_high : b < a + C → taken_back f s o ≡ dif f (max (b + 0) (min (a + (O + F) + C) (b + 0 + C + C))) (b + 0 + C)
    back_high h =
        ap (λ (t : Bool). occupy f s o (cond t s.occupied (sub f s.occupied s.free)))
        (le-units f o s.floor a b 0 C w u.floor ∙ lt-leb (a + C) (0 + b) (omega arith))
        ∙ stepped (O + F) (sub f s.occupied s.free) both_is (omega (arith, u.occupied_most, u.free_most))

  -- of one cell that is on the floor, or above it by more than the clear step
  pub take_back : (o : Float) (a b : ℕ) → Units f o a b → a ≤ b + 4 * most f → b ≤ a + 4 * most f → (a + C ≡ b) ⊎ (b + F < a + C)
      → taken_back f s (freed f s o) ≡ alone f s o
  take_back o a b w g h k = ap (λ (x : Float). taken_back f s x) (freed_is o a b w g h) ∙ go k ∙ sym (alone_is o a b w g h)
    where
      p : ℕ
      p = max (b + F) (min (a + 0 + C) (b + F + C + C))

      q : ℕ
      q = b + F + C

      v : Units f (dif f p q) p q
      v = dif-units f p q (omega (arith, u.ceiling_most, most-fits f)) (omega (arith, u.ceiling_most, most-fits f))

      go : (a + C ≡ b) ⊎ (b + F < a + C) → taken_back f s (dif f p q) ≡ dif f (max (b + 0) (min (a + O + C) (b + 0 + C + C))) (b + 0 + C)
      go (inl e) =
          back_low (dif f p q) p q v (omega (arith, u.ceiling_most)) (omega (arith, u.ceiling_most)) (omega arith)
          ∙ dif-same f (max (q + 0) (min (p + O + C) (q + 0 + C + C))) (q + 0 + C) (max (b + 0) (min (a + O + C) (b + 0 + C + C))) (b + 0 + C) (omega arith)
      go (inr e) =
          back_high (dif f p q) p q v (omega (arith, u.ceiling_most)) (omega (arith, u.ceiling_most)) (omega arith)
          ∙ dif-same f (max (q + 0) (min (p + (O + F) + C) (q + 0 + C + C))) (q + 0 + C) (max (b + 0) (min (a + O + C) (b + 0 + C + C))) (b + 0 + C) (omega arith)
