-- A beam whose coordinates are numbers of halves, that starts on the map, goes down on no axis and ends on the map or
-- on its upper faces: it is not cut, both of its computed points are the given ones, and the clamp takes an end on a
-- face half a cell back. Of every format and any number of axes. Assumes nothing.
use Rattle.std.specs.Prelude.{◌≡◌, ◌⊎◌, Bool, true, false, ◌&&◌, ◌||◌, ℕ, ◌+◌, ◌-◌, ◌*◌, ◌≤◌, ◌<◌, min, T, ltb, Float}
use Rattle.std.proofs.Math.Path.{refl, ap, ap₂}
use Rattle.std.proofs.Common.{sym, ◌∙◌, subst, inl, inr, zero-lt-suc, arith}
use mathlib.Core.List.{List, [], ◌∷◌, map}
use Rattle.std.proofs.Math.Option.{some, none}
use Rattle.std.proofs.Math.Bool.{cond}
use borrow.Author.Tests.{lt-ltb, le-ltb, le-leb, lt-leb, eq-eqb, ne_eqb}
use Rattle.std.proofs.Math.Dec.{eqb}
use Rattle.std.specs.Float.{Format}
use Rattle.std.specs.Float.Ieee.{round, add, sub, mul, div, lt, le, eq}
use Rattle.std.specs.Float.Ieee.Bits.{is_true}
use Rattle.std.specs.Float.Ieee.Scale.{finite}
use Rattle.rules.specs.Floats.{zero_f, half_f, one_f, number_f, all_finite, mag}
use Rattle.rules.specs.TheGridAndItsBounds.{most_extent}
use Rattle.rules.specs.Coordinates.{within}
use Rattle.rules.specs.MarksAndFrames.{clamp}
use Rattle.rules.specs.OneBeam.{Span, Clipped, whole_span, cut_to, slab, slabs, unless_missed, directions, point_at, both_beyond, all_within}
use Rattle.rules.specs.OneBeam.{is_inside, clamp_axis, clamp_point, clipped_at, clip}
use Rattle.laws.specs.Floats.Tests.{order}
use Rattle.laws.specs.Floats.Sizes.{Signed, signed_round}
use Rattle.laws.specs.Floats.Quotients.{ZeroOrLess, OneOrMore, not_crossed, no_smaller, signs_unlike}
use Rattle.laws.specs.Floats.Differences.{difference, downward, zero_value}
use Rattle.clip.proofs.OnTheMap.{cut_to_whole}
use Rattle.theorems.specs.VerticalBeam.Halves.{half, most_halves, half_value, no_halves, one-half, two_halves, number_halves, add_halves, sub_halves}
use Rattle.theorems.specs.VerticalBeam.Halves.{mul_halves_zero, mul_halves_one, divides, lt_halves, eq_halves, le_halves, mag_halves, finite_halves}

-- ---- one axis, in halves
pub record Rise : Type 0 where
  pub extent : ℕ
  pub from : ℕ
  pub to : ℕ

-- within the map, but that the end may be on the upper face
pub record Upward (a : Rise) : Type 0 where
  pub known : a.extent ≤ most_extent
  pub positive : 0 < a.from
  pub starts : a.from < 2 * a.extent
  pub rises : a.from ≤ a.to
  pub ends : a.to ≤ 2 * a.extent

-- where the clamp leaves the end
abbrev pub stop : Rise → ℕ
stop a = min a.to (2 * a.extent - 1)

module _ (f : Format) (a : Rise) (u : Upward a) where
  -- every number of halves at hand is exact
  few_from : a.from ≤ most_halves
  few_from = let s = u.starts in let k = u.known in omega arith

  few_to : a.to ≤ most_halves
  few_to = let s = u.ends in let k = u.known in omega arith

  few_extent : 2 * a.extent ≤ most_halves
  few_extent = let k = u.known in omega arith

  few_length : a.to - a.from ≤ most_halves
  few_length = let s = few_to in omega arith

  abbrev origin : Float
  origin = half f a.from

  abbrev endpoint : Float
  endpoint = half f a.to

  abbrev length : Float
  length = half f (a.to - a.from)

  direction_is : sub f endpoint origin ≡ length
  direction_is = sub_halves f a.to a.from few_to u.rises

  abbrev near : Float
  near = div f (sub f zero_f origin) length

  abbrev far : Float
  far = div f (sub f (number_f f a.extent) origin) length

  to_face : sub f (number_f f a.extent) origin ≡ half f (2 * a.extent - a.from)
  to_face =
      ap (λ (x : Float). sub f x origin) (number_halves f a.extent)
      ∙ sub_halves f (2 * a.extent) a.from few_extent (let s = u.starts in omega arith)

  from-face : sub f zero_f origin ≡ round f true (a.from - 0) 2
  from-face =
      difference f origin zero_f false false a.from 0 2 (zero-lt-suc 1) (half_value f a.from few_from) (zero_value 2)
      ∙ downward f false false a.from 0 2 (λ t. absurd t) (λ t. absurd t) u.positive

  near-less : a.from < a.to → ZeroOrLess near
  near-less h =
      signs_unlike f true (sub f zero_f origin) length (subst (Signed true) (sym from-face) (signed_round f true (a.from - 0) 2))
      (signed_round f false (a.to - a.from) 2) (divides length (a.to - a.from) (omega arith) (half_value f (a.to - a.from) few_length))

  far_more : a.from < a.to → OneOrMore far
  far_more h =
      no_smaller f false (sub f (number_f f a.extent) origin) length
      (subst (Signed false) (sym to_face) (signed_round f false (2 * a.extent - a.from) 2)) (signed_round f false (a.to - a.from) 2)
      (divides length (a.to - a.from) (omega arith) (half_value f (a.to - a.from) few_length))
      (subst T
      (sym (ap₂ le (mag_halves f (a.to - a.from)) (ap mag to_face ∙ mag_halves f (2 * a.extent - a.from))
      ∙ le_halves f (a.to - a.from) (2 * a.extent - a.from) few_length (let s = few_extent in omega arith)
      ∙ le-leb (a.to - a.from) (2 * a.extent - a.from) (let e = u.ends in omega arith)))
      tt)

  not-below : lt origin zero_f ≡ false
  not-below =
      ap (λ (x : Float). lt origin x) (sym (no_halves f)) ∙ lt_halves f a.from 0 few_from (omega arith) ∙ le-ltb a.from 0 (omega arith)

  not_beyond : le (number_f f a.extent) origin ≡ false
  not_beyond =
      ap (λ (x : Float). le x origin) (number_halves f a.extent) ∙ le_halves f (2 * a.extent) a.from few_extent few_from
      ∙ lt-leb (2 * a.extent) a.from u.starts

  slab_passed : slab f a.extent origin length whole_span ≡ some whole_span
  unfolding slab
  slab_passed = go (order a.from a.to)
    where
      level_is : eq length zero_f ≡ eqb (a.to - a.from) 0
      level_is = ap (λ (x : Float). eq length x) (sym (no_halves f)) ∙ eq_halves f (a.to - a.from) 0 few_length (omega arith)

      go : (a.from < a.to) ⊎ (a.to ≤ a.from)
          → cond (eq length zero_f) (cond (lt origin zero_f || le (number_f f a.extent) origin) none (some whole_span))
          (cond (lt far near) (cut_to far near whole_span) (cut_to near far whole_span))
          ≡ some whole_span
      go (inl h) =
          ap₂ (λ (i j : Bool). cond i (cond (lt origin zero_f || le (number_f f a.extent) origin) none (some whole_span))
          (cond j (cut_to far near whole_span) (cut_to near far whole_span)))
          (level_is ∙ ne_eqb (a.to - a.from) 0 (λ z. apart a.from a.to h z)) (not_crossed near far (near-less h) (far_more h))
          ∙ cut_to_whole near far (near-less h) (far_more h)
        where
          apart : (p q : ℕ) → p < q → q - p ≡ 0 → ⊥
          apart p q h z = omega arith
      go (inr h) =
          ap₂ (λ (i j : Bool). cond i (cond j none (some whole_span)) (cond (lt far near) (cut_to far near whole_span) (cut_to near far whole_span)))
          (level_is ∙ eq-eqb (a.to - a.from) 0 (omega arith)) (ap₂ (λ (i j : Bool). i || j) not-below not_beyond)

  entry_is : add f origin (mul f length zero_f) ≡ origin
  entry_is =
      ap (add f origin) (mul_halves_zero f (a.to - a.from) few_length) ∙ add_halves f a.from 0 few_from (omega arith)
      ∙ ap (half f) (omega arith)

  exit_is : add f origin (mul f length one_f) ≡ endpoint
  exit_is =
      ap (add f origin) (mul_halves_one f (a.to - a.from) few_length) ∙ add_halves f a.from (a.to - a.from) few_from few_length
      ∙ ap (half f) (let r = u.rises in omega arith)

  within_is : within f a.extent endpoint ≡ ltb a.to (2 * a.extent)
  unfolding within
  within_is =
      ap₂ (λ (i j : Bool). i && j)
      (ap (λ (x : Float). le x endpoint) (sym (no_halves f)) ∙ le_halves f 0 a.to (omega arith) few_to ∙ le-leb 0 a.to (omega arith))
      (ap (lt endpoint) (number_halves f a.extent) ∙ lt_halves f a.to (2 * a.extent) few_to few_extent)

  -- the clamp of any number of halves
  clamp_is : (k : ℕ) → k ≤ most_halves → clamp_axis f a.extent (half f k) ≡ half f (min k (2 * a.extent - 1))
  unfolding clamp_axis clamp
  clamp_is k h =
      ap₂ (λ (i : Bool) (v : Float). cond i zero_f (cond (lt v (half f k)) v (half f k)))
      (ap (lt (half f k)) (sym (no_halves f)) ∙ lt_halves f k 0 h (omega arith) ∙ le-ltb k 0 (omega arith)) edge
      ∙ ap (λ (i : Bool). cond i (half f (2 * a.extent - 1)) (half f k)) (lt_halves f (2 * a.extent - 1) k (let e = few_extent in omega arith) h)
      ∙ chosen (order (2 * a.extent - 1) k)
    where
      edge : sub f (number_f f a.extent) half_f ≡ half f (2 * a.extent - 1)
      edge = ap₂ (sub f) (number_halves f a.extent) (sym (one-half f)) ∙ sub_halves f (2 * a.extent) 1 few_extent (let s = u.starts in omega arith)

      chosen : (2 * a.extent - 1 < k) ⊎ (k ≤ 2 * a.extent - 1)
          → cond (ltb (2 * a.extent - 1) k) (half f (2 * a.extent - 1)) (half f k) ≡ half f (min k (2 * a.extent - 1))
      chosen (inl g) =
          ap (λ (i : Bool). cond i (half f (2 * a.extent - 1)) (half f k)) (lt-ltb (2 * a.extent - 1) k g) ∙ ap (half f) (omega arith)
      chosen (inr g) =
          ap (λ (i : Bool). cond i (half f (2 * a.extent - 1)) (half f k)) (le-ltb (2 * a.extent - 1) k g) ∙ ap (half f) (omega arith)

  start-kept : clamp_axis f a.extent origin ≡ origin
  start-kept = clamp_is a.from few_from ∙ ap (half f) (let s = u.starts in omega arith)

  end-clamped : clamp_axis f a.extent endpoint ≡ half f (stop a)
  end-clamped = clamp_is a.to few_to

-- ---- all axes
abbrev pub AllUpward : List Rise → Type 0
AllUpward [] = Unit {0}
AllUpward (a ∷ as') = Upward a × AllUpward as'

abbrev pub extents_of : List Rise → List ℕ
extents_of as' = map (λ (a : Rise). a.extent) as'

abbrev pub origins : Format → List Rise → List Float
origins f as' = map (λ (a : Rise). half f a.from) as'

abbrev pub endpoints : Format → List Rise → List Float
endpoints f as' = map (λ (a : Rise). half f a.to) as'

abbrev pub stops : Format → List Rise → List Float
stops f as' = map (λ (a : Rise). half f (stop a)) as'

abbrev lengths : Format → List Rise → List Float
lengths f as' = map (λ (a : Rise). half f (a.to - a.from)) as'

abbrev pub ends_inside : List Rise → Bool
ends_inside [] = true
ends_inside (a ∷ as') = ltb a.to (2 * a.extent) && ends_inside as'

module _ (f : Format) where
  pub origins-finite : (as' : List Rise) → AllUpward as' → all_finite (origins f as') ≡ true
  unfolding all_finite
  origins-finite [] h = refl
  origins-finite (a ∷ as') h = ap₂ (λ (i j : Bool). i && j) (finite_halves f a.from (few_from f a h.0)) (origins-finite as' h.1)

  pub endpoints-finite : (as' : List Rise) → AllUpward as' → all_finite (endpoints f as') ≡ true
  unfolding all_finite
  endpoints-finite [] h = refl
  endpoints-finite (a ∷ as') h = ap₂ (λ (i j : Bool). i && j) (finite_halves f a.to (few_to f a h.0)) (endpoints-finite as' h.1)

  directions_are : (as' : List Rise) → AllUpward as' → directions f (origins f as') (endpoints f as') ≡ lengths f as'
  unfolding directions
  directions_are [] h = refl
  directions_are (a ∷ as') h = ap₂ (λ (x : Float) (xs : List Float). x ∷ xs) (direction_is f a h.0) (directions_are as' h.1)

  slabs_passed : (as' : List Rise) → AllUpward as' → slabs f (extents_of as') (origins f as') (lengths f as') whole_span ≡ some whole_span
  unfolding slabs
  slabs_passed [] h = refl
  slabs_passed (a ∷ as') h =
      ap (λ r. unless_missed r (λ (s : Span). slabs f (extents_of as') (origins f as') (lengths f as') s)) (slab_passed f a h.0) ∙ slabs_passed as' h.1

  entries_are : (as' : List Rise) → AllUpward as' → point_at f zero_f (origins f as') (lengths f as') ≡ origins f as'
  unfolding point_at
  entries_are [] h = refl
  entries_are (a ∷ as') h = ap₂ (λ (x : Float) (xs : List Float). x ∷ xs) (entry_is f a h.0) (entries_are as' h.1)

  exits_are : (as' : List Rise) → AllUpward as' → point_at f one_f (origins f as') (lengths f as') ≡ endpoints f as'
  unfolding point_at
  exits_are [] h = refl
  exits_are (a ∷ as') h = ap₂ (λ (x : Float) (xs : List Float). x ∷ xs) (exit_is f a h.0) (exits_are as' h.1)

  none_beyond : (as' : List Rise) → AllUpward as' → both_beyond f (extents_of as') (origins f as') (endpoints f as') ≡ false
  unfolding both_beyond
  none_beyond [] h = refl
  none_beyond (a ∷ as') h =
      ap₂ (λ (i j : Bool). (i && le (number_f f a.extent) (half f a.to)) || j) (not_beyond f a h.0) (none_beyond as' h.1)

  all-within : (as' : List Rise) → AllUpward as' → all_within f (extents_of as') (endpoints f as') ≡ ends_inside as'
  unfolding all_within
  all-within [] h = refl
  all-within (a ∷ as') h = ap₂ (λ (i j : Bool). i && j) (within_is f a h.0) (all-within as' h.1)

  origins-kept : (as' : List Rise) → AllUpward as' → clamp_point f (extents_of as') (origins f as') ≡ origins f as'
  unfolding clamp_point
  origins-kept [] h = refl
  origins-kept (a ∷ as') h = ap₂ (λ (x : Float) (xs : List Float). x ∷ xs) (start-kept f a h.0) (origins-kept as' h.1)

  ends-clamped : (as' : List Rise) → AllUpward as' → clamp_point f (extents_of as') (endpoints f as') ≡ stops f as'
  unfolding clamp_point
  ends-clamped [] h = refl
  ends-clamped (a ∷ as') h = ap₂ (λ (x : Float) (xs : List Float). x ∷ xs) (end-clamped f a h.0) (ends-clamped as' h.1)

  inside_is : (as' : List Rise) → AllUpward as' → is_inside f (extents_of as') one_f (endpoints f as') ≡ ends_inside as'
  unfolding is_inside
  inside_is as' h =
      ap₂ (λ (i j : Bool). i && j)
      (ap₂ le (sym (two_halves f)) (sym (two_halves f)) ∙ le_halves f 2 2 (omega arith) (omega arith)) (all-within as' h)

  abbrev clamped : List Rise → Clipped
  clamped as' =
      record {
        entry = clamp_point f (extents_of as') (origins f as');
        exit = clamp_point f (extents_of as') (endpoints f as');
        inside = is_inside f (extents_of as') one_f (endpoints f as');
      }

  pub clipped : (as' : List Rise) → AllUpward as'
      → clip f (extents_of as') (origins f as') (endpoints f as') ≡ some (record { entry = origins f as'; exit = stops f as'; inside = ends_inside as' })
  unfolding clip clipped_at
  clipped as' h =
      ap (λ (ds : List Float). unless_missed (slabs f (extents_of as') (origins f as') ds whole_span)
      (λ (s : Span). clipped_at f (extents_of as') s.exit (point_at f s.entry (origins f as') ds) (point_at f s.exit (origins f as') ds)))
      (directions_are as' h)
      ∙ ap (λ r. unless_missed r
      (λ (s : Span). clipped_at f (extents_of as') s.exit (point_at f s.entry (origins f as') (lengths f as')) (point_at f s.exit (origins f as') (lengths f as'))))
      (slabs_passed as' h)
      ∙ ap₂ (λ (xs ys : List Float). clipped_at f (extents_of as') one_f xs ys) (entries_are as' h) (exits_are as' h)
      ∙ ap (λ (b : Bool). cond b none (some (clamped as'))) (none_beyond as' h)
      ∙ ap₂ (λ (xs ys : List Float). some (record { entry = xs; exit = ys; inside = is_inside f (extents_of as') one_f (endpoints f as') })) (origins-kept as' h) (ends-clamped as' h)
      ∙ ap (λ (b : Bool). some (record { entry = origins f as'; exit = stops f as'; inside = b })) (inside_is as' h)
