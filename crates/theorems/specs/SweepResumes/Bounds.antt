-- What a mark leaves of one cell: odds that lie from the floor to the ceiling stay there, values of the format stay
-- values of it, and a stamp bears the mark's frame or is left. Over any format. Assumes nothing.
use Rattle.std.specs.Prelude.{ℕ, ◌+◌, ◌*◌, ◌/◌, ◌≤◌, ◌<◌, Bool, cond, ◌&&◌, ◌||◌, List, [], ◌∷◌, ◌⊎◌, ◌≡◌, refl, ltb, eqb, Float}
use Rattle.std.proofs.Math.Bool.{true, false}
use Rattle.std.specs.Bool.{beq}
use Rattle.std.proofs.Common.{true≢false, inl, inr, sym, ap, ◌∙◌, arith, lt-ltb, le-ltb, le-leb, ltb-false, eq-eqb}
use Rattle.std.proofs.Math.Dec.{T}
use Rattle.std.specs.Float.{nan, inf, fin, Format}
use Rattle.std.specs.Float.Ieee.{up, down, round, sum, add, sub, neg, below, level, lt, le, eq, fits, is_nan}
use Rattle.std.specs.Float.Ieee.Bits.{is_true}
use Rattle.std.specs.Float.Ieee.Fits.{add-fits, neg-fits, cond-fits}
use Rattle.std.specs.Float.Ieee.Scale.{finite}
use Rattle.rules.specs.Floats.{zero_f}
use Rattle.rules.specs.TheGridAndItsBounds.{Pair, Band, Model, most_size, pair_bounded, all_pairs, bounded, floor, pair_at}
use Rattle.rules.specs.MarksAndFrames.{Steps, steps_at, stamp_of, frame_of, clamp, limited, Cell, unmarked, freed, mark_free, occupied_step, occupy, mark_occupied, mark_cell}
use Rattle.rules.specs.MapRecord.{from_floor_to_ceiling}
use Rattle.laws.specs.Floats.Tests.{order, and-true, lt_or_eq}
use Rattle.laws.specs.Floats.Sizes.{Signed, signed_round}
use Rattle.record_laws.specs.Each.{both}

-- ---- a sum of a finite number and another number is a number
signed_number : (s : Bool) (x : Float) → Signed s x → is_nan x ≡ false
unfolding is_nan
signed_number s nan h = absurd h
signed_number s (inf t) h = refl
signed_number s (fin t m e) h = refl

round_number : (f : Format) (s : Bool) (a c : ℕ) → is_nan (round f s a c) ≡ false
round_number f s a c = signed_number s (round f s a c) (signed_round f s a c)

number_either : (b : Bool) (x y : Float) → is_nan x ≡ false → is_nan y ≡ false → is_nan (cond b x y) ≡ false
number_either true x y p q = p
number_either false x y p q = q

sum_number : (f : Format) (s : Bool) (a : ℕ) (t : Bool) (b c : ℕ) → is_nan (sum f s a t b c) ≡ false
unfolding sum
sum_number f s a t b c =
    number_either (beq s t) _ _ (round_number f s _ c) (number_either (ltb a b) _ _ (round_number f t _ c) (round_number f _ _ c))

add_number : (f : Format) (x y : Float) → finite x ≡ true → is_nan y ≡ false → is_nan (add f x y) ≡ false
unfolding add is_nan
add_number f nan y p q = absurd (true≢false (sym p))
add_number f (inf s) y p q = absurd (true≢false (sym p))
add_number f (fin s m e) nan p q = absurd (true≢false q)
add_number f (fin s m e) (inf t) p q = refl
add_number f (fin s m e) (fin t n d) p q = sum_number f s _ t _ _

finite_number : (x : Float) → finite x ≡ true → is_nan x ≡ false
unfolding is_nan
finite_number nan p = absurd (true≢false (sym p))
finite_number (inf s) p = absurd (true≢false (sym p))
finite_number (fin s m e) p = refl

neg-finite : (x : Float) → finite x ≡ true → finite (neg x) ≡ true
unfolding neg
neg-finite nan p = p
neg-finite (inf s) p = p
neg-finite (fin s m e) p = p

sub_number : (f : Format) (x y : Float) → finite x ≡ true → finite y ≡ true → is_nan (sub f x y) ≡ false
unfolding sub
sub_number f x y p q = add_number f x (neg y) p (finite_number (neg y) (neg-finite y q))

-- ---- of two numbers of which one is not below the other, the other is at most the one
not-below-level : (s t : Bool) (a b : ℕ) → below s a t b ≡ false → below t b s a || level t b s a ≡ true
not-below-level false false a b h = ap (λ (x : Bool). ltb b a || x) (and-true (eqb b a)) ∙ lt_or_eq b a ∙ le-leb b a (ltb-false a b h)
not-below-level true true a b h = go (order a b)
  where
    go : (a < b) ⊎ (b ≤ a) → ltb a b || (eqb b a && true) ≡ true
    go (inl l) = rw (lt-ltb a b l) refl
    go (inr l) = let same : b ≡ a = omega (arith, ltb-false b a h) in rw (le-ltb a b l, eq-eqb b a same) refl
not-below-level false true a b h = go (order 0 (b + a))
  where
    go : (0 < b + a) ⊎ (b + a ≤ 0) → ltb 0 (b + a) || (eqb b a && eqb b 0) ≡ true
    go (inl l) = rw (lt-ltb 0 (b + a) l) refl
    go (inr l) = let p : b ≡ 0 = omega arith in let q : b ≡ a = omega arith in rw (le-ltb 0 (b + a) l, eq-eqb b a q, eq-eqb b 0 p) refl
not-below-level true false a b h =
    let l = ltb-false 0 (a + b) h in
    let p : b ≡ 0 = omega arith in
    let q : b ≡ a = omega arith in
    rw (eq-eqb b a q, eq-eqb b 0 p) refl

not-below : (x y : Float) → is_nan x ≡ false → is_nan y ≡ false → lt x y ≡ false → le y x ≡ true
unfolding lt eq le is_nan
not-below nan y p q h = absurd (true≢false p)
not-below (inf s) nan p q h = absurd (true≢false q)
not-below (inf false) (inf false) p q h = refl
not-below (inf false) (inf true) p q h = refl
not-below (inf true) (inf false) p q h = absurd (true≢false h)
not-below (inf true) (inf true) p q h = refl
not-below (inf false) (fin t n d) p q h = refl
not-below (inf true) (fin t n d) p q h = absurd (true≢false h)
not-below (fin s m e) nan p q h = absurd (true≢false q)
not-below (fin s m e) (inf true) p q h = refl
not-below (fin s m e) (inf false) p q h = absurd (true≢false h)
not-below (fin s m e) (fin t n d) p q h = not-below-level s t _ _ h

not-less : (n : ℕ) → ltb n n ≡ false
not-less n = le-ltb n n (omega arith)

own_not_below : (x : Float) → lt x x ≡ false
unfolding lt
own_not_below nan = refl
own_not_below (inf true) = refl
own_not_below (inf false) = refl
own_not_below (fin true m e) = not-less (m * up e * down e)
own_not_below (fin false m e) = not-less (m * up e * down e)

at_most_itself : (x : Float) → is_nan x ≡ false → le x x ≡ true
at_most_itself x p = not-below x x p p (own_not_below x)

-- a ceiling above zero is no lower than its floor
floor-below : (c : Float) → lt zero_f c ≡ true → finite c ≡ true → le (neg c) c ≡ true
unfolding lt neg is_nan
floor-below nan p q = absurd (true≢false (sym q))
floor-below (inf s) p q = absurd (true≢false (sym q))
floor-below (fin true m e) p q = absurd (true≢false (sym p))
floor-below (fin false m e) p q = not-below (fin false m e) (fin true m e) refl refl refl

-- zero lies between a ceiling above it and the floor
both_hold : (a b : Bool) → a ≡ true → b ≡ true → a && b ≡ true
both_hold true true p q = refl
both_hold true false p q = q
both_hold false b p q = p

below-at-most : (x y : Float) → lt x y ≡ true → le x y ≡ true
unfolding le
below-at-most x y p = rw p refl

zero-between : (c : Float) → lt zero_f c ≡ true → finite c ≡ true → le (neg c) zero_f && le zero_f c ≡ true
unfolding lt neg is_nan
zero-between nan p q = absurd (true≢false (sym q))
zero-between (inf s) p q = absurd (true≢false (sym q))
zero-between (fin true m e) p q = absurd (true≢false (sym p))
zero-between (fin false m e) p q =
    both_hold (le (fin true m e) zero_f) (le zero_f (fin false m e)) (not-below zero_f (fin true m e) refl refl refl) (below-at-most zero_f (fin false m e) p)

-- a number between a finite ceiling and its floor is finite
between-finite : (c x : Float) → finite c ≡ true → le (neg c) x ≡ true → le x c ≡ true → finite x ≡ true
unfolding lt eq le neg
between-finite nan x q h l = absurd (true≢false (sym q))
between-finite (inf s) x q h l = absurd (true≢false (sym q))
between-finite (fin s m e) nan q h l = absurd (true≢false (sym l))
between-finite (fin s m e) (inf true) q h l = absurd (true≢false (sym h))
between-finite (fin s m e) (inf false) q h l = absurd (true≢false (sym l))
between-finite (fin s m e) (fin t n d) q h l = refl

-- ---- the clamp
clamp-within : (lo hi x : Float) → is_nan lo ≡ false → is_nan hi ≡ false → is_nan x ≡ false → le lo hi ≡ true → le lo (clamp lo hi x) && le (clamp lo hi x) hi ≡ true
unfolding clamp
clamp-within lo hi x p q r l = go (lt x lo) (lt hi x) refl refl
  where
    go : (i j : Bool) → lt x lo ≡ i → lt hi x ≡ j → le lo (cond i lo (cond j hi x)) && le (cond i lo (cond j hi x)) hi ≡ true
    go true j a b = rw (at_most_itself lo p, l) refl
    go false true a b = rw (at_most_itself hi q, l) refl
    go false false a b = rw (not-below x lo r p a, not-below hi x q r b) refl

-- ---- what the bounds of a model say
pair-at : (test : Pair → Bool) (height : ℕ) (p : Pair) (bs : List Band) → all_pairs test p bs ≡ true → test (pair_at height p bs) ≡ true
unfolding all_pairs pair_at
pair-at test height p [] e = e
pair-at test height p (b ∷ bs) e =
    let t = both (test p) (all_pairs test b.pair bs) e in
    go (ltb height b.cut) t.0 (pair-at test height b.pair bs t.1)
  where
    go : (i : Bool) → test p ≡ true → test (pair_at height b.pair bs) ≡ true → test (cond i p (pair_at height b.pair bs)) ≡ true
    go true u v = u
    go false u v = v

record PairFacts (c : Float) (p : Pair) : Type 0 where
  ceiling_positive : lt zero_f c ≡ true
  occupied_finite : finite p.occupied ≡ true
  free_finite : finite p.free ≡ true
  ceiling_finite : finite c ≡ true

pair_facts : (c : Float) (p : Pair) → pair_bounded c p ≡ true → PairFacts c p
unfolding pair_bounded
pair_facts c p e =
    let t₁ = lt zero_f p.occupied && lt p.free zero_f in
    let t₂ = t₁ && lt zero_f c in
    let t₃ = t₂ && finite p.occupied in
    let t₄ = t₃ && finite p.free in
    let t₅ = t₄ && finite c in
    let t₆ = t₅ && le p.occupied most_size in
    let t₇ = t₆ && le (neg most_size) p.free in
    let e₅ = (both t₅ (le p.occupied most_size) (both t₆ (le (neg most_size) p.free) (both t₇ (le c most_size) e).0).0).0 in
    let e₄ = both t₄ (finite c) e₅ in
    let e₃ = both t₃ (finite p.free) e₄.0 in
    let e₂ = both t₂ (finite p.occupied) e₃.0 in
    let e₁ = both t₁ (lt zero_f c) e₂.0 in
    record { ceiling_positive = e₁.1; occupied_finite = e₂.1; free_finite = e₃.1; ceiling_finite = e₄.1 }

module _ (m : Model) (b : bounded m ≡ true) (place : ℕ) where
  facts : PairFacts m.ceiling (pair_at (place / m.layer) m.lowest m.above)
  unfolding bounded
  facts = pair_facts m.ceiling _ (pair-at (pair_bounded m.ceiling) (place / m.layer) m.lowest m.above b)

  limited-within : (x : Float) → is_nan x ≡ false → from_floor_to_ceiling m (limited (steps_at m place) x) ≡ true
  unfolding limited steps_at floor
  limited-within x p =
      let c = m.ceiling in
      let q = facts.ceiling_finite in
      clamp-within (neg c) c x (finite_number (neg c) (neg-finite c q)) (finite_number c q) p (floor-below c facts.ceiling_positive q)

  pub zero-within : from_floor_to_ceiling m zero_f ≡ true
  unfolding floor
  zero-within = zero-between m.ceiling facts.ceiling_positive facts.ceiling_finite

  odds-finite : (x : Float) → from_floor_to_ceiling m x ≡ true → finite x ≡ true
  unfolding floor
  odds-finite x w = let t = both (le (neg m.ceiling) x) (le x m.ceiling) w in between-finite m.ceiling x facts.ceiling_finite t.0 t.1

  -- the odds are left, or a number is added and the sum put between the bounds
  abbrev Left : Format → Float → Float → Type 0
  Left f o x = (x ≡ o) ⊎ ((d : Float) × (is_nan d ≡ false) × (x ≡ limited (steps_at m place) (add f o d)))

  either_left : (f : Format) (i : Bool) (c : Cell) (d : Float) (stamp : ℕ) → is_nan d ≡ false
      → Left f c.odds (cond i (unmarked c) (record { cell = record { odds = limited (steps_at m place) (add f c.odds d); stamp = stamp }; changed = true })).cell.odds
  either_left f true c d stamp n = inl refl
  either_left f false c d stamp n = inr (d, n, refl)

  free_number : is_nan (steps_at m place).free ≡ false
  unfolding steps_at
  free_number = finite_number _ facts.free_finite

  step_number : (f : Format) (k : ℕ) (c : Cell) → is_nan (occupied_step f (steps_at m place) k c) ≡ false
  unfolding occupied_step steps_at
  step_number f k c =
      let s = steps_at m place in
      let p = facts.occupied_finite in
      let alone = finite_number s.occupied p in
      number_either (eqb c.stamp (stamp_of k false)) (cond (le c.odds s.floor) s.occupied (sub f s.occupied s.free)) s.occupied
      (number_either (le c.odds s.floor) s.occupied (sub f s.occupied s.free) alone (sub_number f s.occupied s.free p facts.free_finite))
      alone

  leaves : (f : Format) (k : ℕ) (occupied : Bool) (c : Cell) → Left f c.odds (mark_cell f (steps_at m place) k occupied c).cell.odds
  unfolding mark_cell mark_free mark_occupied freed occupy
  leaves f k false c = either_left f (eqb (frame_of c.stamp) k) c (steps_at m place).free (stamp_of k false) free_number
  leaves f k true c = either_left f (eqb c.stamp (stamp_of k true)) c (occupied_step f (steps_at m place) k c) (stamp_of k true) (step_number f k c)

  -- odds within the bounds stay there
  pub mark_within : (f : Format) (k : ℕ) (occupied : Bool) (c : Cell) → from_floor_to_ceiling m c.odds ≡ true
      → from_floor_to_ceiling m (mark_cell f (steps_at m place) k occupied c).cell.odds ≡ true
  mark_within f k occupied c w = go (leaves f k occupied c)
    where
      go : {x : Float} → Left f c.odds x → from_floor_to_ceiling m x ≡ true
      go (inl e) = ap (from_floor_to_ceiling m) e ∙ w
      go (inr q) = ap (from_floor_to_ceiling m) q.2 ∙ limited-within (add f c.odds q.0) (add_number f c.odds q.0 (odds-finite c.odds w) q.1)

  -- values of the format stay values of it
  limited-fits : (f : Format) (x : Float) → fits f m.ceiling ≡ true → T (fits f x) → T (fits f (limited (steps_at m place) x))
  unfolding limited clamp steps_at floor
  limited-fits f x p q =
      let t : T (fits f m.ceiling) = rw p tt in
      cond-fits f (lt x (neg m.ceiling)) (neg m.ceiling) (cond (lt m.ceiling x) m.ceiling x) (neg-fits f m.ceiling t)
      (cond-fits f (lt m.ceiling x) m.ceiling x t q)

  pub mark_fits : (f : Format) (k : ℕ) (occupied : Bool) (c : Cell) → fits f m.ceiling ≡ true → fits f c.odds ≡ true
      → fits f (mark_cell f (steps_at m place) k occupied c).cell.odds ≡ true
  mark_fits f k occupied c p w = go (leaves f k occupied c)
    where
      go : {x : Float} → Left f c.odds x → fits f x ≡ true
      go (inl e) = ap (fits f) e ∙ w
      go (inr q) = ap (fits f) q.2 ∙ is_true _ (limited-fits f (add f c.odds q.0) p (add-fits f c.odds q.0))

-- ---- the stamp
stamp_either : (k : ℕ) (i : Bool) (c : Cell) (x : Float) (stamp : ℕ) → frame_of c.stamp ≤ k → frame_of stamp ≤ k
    → frame_of (cond i (unmarked c) (record { cell = record { odds = x; stamp = stamp }; changed = true })).cell.stamp ≤ k
stamp_either k true c x stamp p q = p
stamp_either k false c x stamp p q = q

stamp_frame : (k : ℕ) (occupied : Bool) → frame_of (stamp_of k occupied) ≤ k
unfolding stamp_of
stamp_frame k false = omega arith
stamp_frame k true = omega arith

-- a mark of frame k leaves no stamp above k where there was none
pub mark_stamp : (f : Format) (s : Steps) (k : ℕ) (occupied : Bool) (c : Cell) → frame_of c.stamp ≤ k → frame_of (mark_cell f s k occupied c).cell.stamp ≤ k
unfolding mark_cell mark_free mark_occupied
mark_stamp f s k false c p = stamp_either k (eqb (frame_of c.stamp) k) c (freed f s c.odds) (stamp_of k false) p (stamp_frame k false)
mark_stamp f s k true c p =
    stamp_either k (eqb c.stamp (stamp_of k true)) c (occupy f s c.odds (occupied_step f s k c)) (stamp_of k true) p (stamp_frame k true)
