-- The sum over the corners of a stencil, where every offset is a zero or a one: the weights are zeros but for one
-- corner's, which is one, so the sum is that corner's odds, but that a zero may change its sign. Over any number of
-- axes. Assumes nothing.
use Rattle.std.specs.Prelude.{◌≡◌, ◌⊎◌, Bool, false, ◌&&◌, T, length, Float}
use Rattle.std.proofs.Math.Path.{refl, subst}
use Rattle.std.proofs.Common.{sym, ap, inr}
use mathlib.Core.List.{List, [], ◌∷◌}
use Rattle.std.proofs.Math.Logic.{inl}
use Rattle.std.proofs.Math.Bool.{true}
use Rattle.std.specs.Bool.{beq}
use Rattle.std.specs.Float.{nan, inf, fin, Format, binary32, binary64}
use Rattle.std.specs.Float.Ieee.{add, sub, neg, mul, fits}
use Rattle.std.specs.Float.Ieee.Fits.{add-fits, mul-fits}
use Rattle.std.specs.Float.Ieee.Scale.{finite}
use Rattle.rules.specs.Floats.{zero_f, one_f}
use Rattle.rules.specs.Coordinates.{with_axis, corners, side, weighed, value_from}
use Rattle.laws.specs.Floats.Zeros.{is_zero, SameNumber, same_trans, zero-finite, same-finite, same-zero, add_right_zero, add-left-zero, mul-left-zero}
use Rattle.laws.specs.Floats.Zeros.{mul_right_zero, mul-one-left}

-- ---- weights: one, or a zero of either sign
abbrev pub Weight : Bool → Float → Type 0
Weight true w = w ≡ one_f
Weight false w = T (is_zero w)

-- the offsets of a whole-numbered point: one or zero on each axis
pub data Whole : List Bool → List Float → Type 0 where
  none : Whole [] []
  next : {p : Bool} {o : Float} {ps : List Bool} {os : List Float} → Weight p o → Whole ps os → Whole (p ∷ ps) (o ∷ os)

one-fits : (f : Format) → T (fits f one_f)
unfolding fits
one-fits binary32 = tt
one-fits binary64 = tt

weight_finite : (b : Bool) (w : Float) → Weight b w → T (finite w)
weight_finite true w h = subst (λ (x : Float). T (finite x)) (sym h) tt
weight_finite false w h = zero-finite w h

same-one : (x : Float) → SameNumber x one_f → x ≡ one_f
same-one x (inl p) = p
same-one x (inr p) = absurd p.1

neg-zero : (x : Float) → T (is_zero x) → T (is_zero (neg x))
unfolding neg
neg-zero nan t = t
neg-zero (inf s) t = t
neg-zero (fin s m e) t = t

one-less-one : (f : Format) → T (is_zero (sub f one_f one_f))
unfolding sub add neg
one-less-one binary32 = tt
one-less-one binary64 = tt

factor : (f : Format) (b p : Bool) (o : Float) → Weight p o → Weight (beq b p) (side f o b)
factor f true true o h = h
factor f true false o h = h
factor f false true o h = subst (λ (x : Float). T (is_zero (sub f one_f x))) (sym h) (one-less-one f)
factor f false false o h = unfold sub in same-one (add f one_f (neg o)) (add_right_zero f one_f (neg o) (one-fits f) tt (neg-zero o h))

times : (f : Format) (a b : Bool) (w v : Float) → Weight a w → Weight b v → Weight (a && b) (mul f w v)
times f true true w v p q = rw (p, q) (same-one (mul f one_f one_f) (mul-one-left f one_f (one-fits f) tt))
times f true false w v p q = mul_right_zero f w v (weight_finite true w p) q
times f false b w v p q = mul-left-zero f w v p (weight_finite b v q)

-- ---- whether a corner is the one that the point stands on
abbrev agree : List Bool → List Bool → Bool
agree [] bs = true
agree (p ∷ ps) [] = true
agree (p ∷ ps) (b ∷ bs) = beq b p && agree ps bs

and_assoc : (a b c : Bool) → (a && b) && c ≡ a && (b && c)
and_assoc true b c = refl
and_assoc false b c = refl

and_one : (a : Bool) → a && true ≡ a
and_one true = refl
and_one false = refl

weighed_is : (f : Format) (a : Bool) (w : Float) (ps : List Bool) (os : List Float) (bs : List Bool) → Whole ps os → Weight a w
    → Weight (a && agree ps bs) (weighed f w os bs)
unfolding weighed
weighed_is f a w [] [] bs none h = subst (λ (b : Bool). Weight b w) (sym (and_one a)) h
weighed_is f a w [] (o ∷ os) bs x h = elim x [ ]
weighed_is f a w (p ∷ ps) [] bs x h = elim x [ ]
weighed_is f a w (p ∷ ps) (o ∷ os) [] (next q r) h = subst (λ (b : Bool). Weight b w) (sym (and_one a)) h
weighed_is f a w (p ∷ ps) (o ∷ os) (b ∷ bs) (next q r) h =
    subst (λ (c : Bool). Weight c (weighed f (mul f w (side f o b)) os bs)) (and_assoc a (beq b p) (agree ps bs))
    (weighed_is f (a && beq b p) (mul f w (side f o b)) ps os bs r (times f a (beq b p) w (side f o b) h (factor f b p o q)))

-- ---- one corner agrees, and only one
abbrev None : List Bool → List (List Bool) → Type 0
None ps [] = Unit {0}
None ps (c ∷ cs) = (agree ps c ≡ false) × None ps cs

abbrev Once : List Bool → List (List Bool) → Type 0
Once ps [] = ⊥
Once ps (c ∷ cs) = ((agree ps c ≡ true) × (c ≡ ps) × None ps cs) ⊎ ((agree ps c ≡ false) × Once ps cs)

off : (b p a : Bool) → a ≡ false → beq b p && a ≡ false
off true true a h = h
off true false a h = refl
off false true a h = refl
off false false a h = h

axis-none : (p : Bool) (ps : List Bool) (cs : List (List Bool)) → None ps cs → None (p ∷ ps) (with_axis cs)
axis-none p ps [] h = tt
axis-none p ps (c ∷ cs) h = (off false p (agree ps c) h.0, (off true p (agree ps c) h.0, axis-none p ps cs h.1))

axis_once : (p : Bool) (ps : List Bool) (cs : List (List Bool)) → Once ps cs → Once (p ∷ ps) (with_axis cs)
axis_once p ps [] h = absurd h
axis_once false ps (c ∷ cs) (inl h) = inl (h.0, ap (λ (x : List Bool). false ∷ x) h.1, (refl, axis-none false ps cs h.2))
axis_once true ps (c ∷ cs) (inl h) = inr (refl, inl (h.0, ap (λ (x : List Bool). true ∷ x) h.1, axis-none true ps cs h.2))
axis_once p ps (c ∷ cs) (inr h) = inr (off false p (agree ps c) h.0, inr (off true p (agree ps c) h.0, axis_once p ps cs h.1))

corners_once : (ps : List Bool) → Once ps (corners (length ps))
unfolding corners
corners_once [] = inl (refl, refl, tt)
corners_once (p ∷ ps) = axis_once p ps (corners (length ps)) (corners_once ps)

-- ---- the sum, with finite odds of the format at each corner
abbrev pub Sound : Format → (List Bool → Float) → List (List Bool) → Type 0
Sound f odds [] = Unit {0}
Sound f odds (c ∷ cs) = T (finite (odds c)) × T (fits f (odds c)) × Sound f odds cs

module _ (f : Format) (ps : List Bool) (os : List Float) (r : Whole ps os) (odds : List Bool → Float) where
  zero_term : (c : List Bool) → agree ps c ≡ false → T (finite (odds c)) → T (is_zero (mul f (weighed f one_f os c) (odds c)))
  zero_term c h q =
      mul-left-zero f (weighed f one_f os c) (odds c) (subst (λ (b : Bool). Weight b (weighed f one_f os c)) h (weighed_is f true one_f ps os c r refl)) q

  after : (cs : List (List Bool)) (v : Float) → Sound f odds cs → None ps cs → T (fits f v) → T (finite v) → SameNumber (value_from f v os odds cs) v
  unfolding value_from
  after [] v s h p q = inl refl
  after (c ∷ cs) v s h p q =
      let t = mul f (weighed f one_f os c) (odds c) in
      let l : SameNumber (add f v t) v = add_right_zero f v t p q (zero_term c h.0 s.0) in
      same_trans (value_from f (add f v t) os odds cs) (add f v t) v
      (after cs (add f v t) s.2 h.1 (add-fits f v t) (same-finite (add f v t) v l q)) l

  before : (cs : List (List Bool)) (v : Float) → Sound f odds cs → Once ps cs → T (fits f v) → T (is_zero v) → SameNumber (value_from f v os odds cs) (odds ps)
  unfolding value_from
  before [] v s h p q = absurd h
  before (c ∷ cs) v s (inl h) p q =
      let w = weighed f one_f os c in
      let t = mul f w (odds c) in
      let e : w ≡ one_f = subst (λ (b : Bool). Weight b w) h.0 (weighed_is f true one_f ps os c r refl) in
      let a : SameNumber t (odds c) = subst (λ (x : Float). SameNumber (mul f x (odds c)) (odds c)) (sym e) (mul-one-left f (odds c) s.1 s.0) in
      let l : SameNumber (add f v t) t = add-left-zero f v t (mul-fits f w (odds c)) (same-finite t (odds c) a s.0) q in
      let b : SameNumber (add f v t) (odds c) = same_trans (add f v t) t (odds c) l a in
      subst (λ (d : List Bool). SameNumber (value_from f (add f v t) os odds cs) (odds d)) h.1
      (same_trans (value_from f (add f v t) os odds cs) (add f v t) (odds c)
      (after cs (add f v t) s.2 h.2 (add-fits f v t) (same-finite (add f v t) (odds c) b s.0)) b)
  before (c ∷ cs) v s (inr h) p q =
      let t = mul f (weighed f one_f os c) (odds c) in
      before cs (add f v t) s.2 h.1 (add-fits f v t) (same-zero (add f v t) v (add_right_zero f v t p (zero-finite v q) (zero_term c h.0 s.0)) q)

  pub value_whole : Sound f odds (corners (length ps)) → SameNumber (value_from f zero_f os odds (corners (length ps))) (odds ps)
  value_whole s = before (corners (length ps)) zero_f s (corners_once ps) (zero-fits f) tt
    where
      zero-fits : (f : Format) → T (fits f zero_f)
      zero-fits f = unfold fits in tt
