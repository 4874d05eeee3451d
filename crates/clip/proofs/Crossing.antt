-- One axis's part of clipping, in every format, by the tests that the code made: z is its zero, and limit its extent as
-- a float. Assumes nothing.
use Rattle.std.proofs.Common.{◌≡◌, ℕ, Bool, true, false, cond, ◌&&◌, ◌∙◌, ap₂}
use mathlib.Core.Option.{Option, some, none}
use lib.Ieee.{Float, Format, div, sub, lt, le, eq}
use Rattle.rules.specs.Floats.{zero_f, half_f, number_f}
use Rattle.rules.specs.MarksAndFrames.{clamp}
use Rattle.rules.specs.OneBeam.{Span, larger_of, smaller_of, cut_to, slab, clamp_axis}

-- a span cut to two fractions: a and b are what the code's calls answered
module _ (near far : Float) (s : Span) {a b : Float} (p : a ≡ larger_of s.entry near) (q : b ≡ smaller_of s.exit far) where
  pub cut_away : lt b a ≡ true → none ≡ cut_to near far s
  unfolding cut_to
  cut_away h = simp (← p, ← q, h)

  pub cut_down : lt b a ≡ false → some (record { entry = a; exit = b }) ≡ cut_to near far s
  unfolding cut_to
  cut_down h = simp (← p, ← q, h)

-- the two ends of a slab, exchanged or not
exchanged : (b : Bool) (x y p q : Float) (s : Span) → p ≡ cond b y x → q ≡ cond b x y → cut_to p q s ≡ cond b (cut_to y x s) (cut_to x y s)
exchanged true x y p q s e f = ap₂ (λ (x y : Float). cut_to x y s) e f
exchanged false x y p q s e f = ap₂ (λ (x y : Float). cut_to x y s) e f

module _ (f : Format) (e : ℕ) {z limit : Float} (o : z ≡ zero_f) (l : limit ≡ number_f f e) where
  module _ (origin direction : Float) (s : Span) where
    -- ---- parallel to the slab
    pub misses_below : eq direction z ≡ true → lt origin z ≡ true → none ≡ slab f e origin direction s
    unfolding slab
    misses_below p q = simp (rw o at p, rw o at q)

    pub misses_above : eq direction z ≡ true → lt origin z ≡ false → le limit origin ≡ true → none ≡ slab f e origin direction s
    unfolding slab
    misses_above p q r = simp (rw o at p, rw o at q, rw l at r)

    pub stays_in : eq direction z ≡ true → lt origin z ≡ false → le limit origin ≡ false → some s ≡ slab f e origin direction s
    unfolding slab
    stays_in p q r = simp (rw o at p, rw o at q, rw l at r)

    -- ---- across it: p and q are the ends that the code chose, a what it cut to
    abbrev near : Float
    near = div f (sub f z origin) direction

    abbrev far : Float
    far = div f (sub f limit origin) direction

    pub crosses : {p q : Float} {a : Option Span} → eq direction z ≡ false → p ≡ cond (lt far near) far near → q ≡ cond (lt far near) near far → a ≡ cut_to p q s
        → a ≡ slab f e origin direction s
    unfolding slab
    crosses d p q k = simp (rw o at d) (rw (o, l) at (k ∙ exchanged (lt far near) near far _ _ s p q))

  -- ---- the clamp: half is the code's
  module _ (x : Float) where
    pub clamps_low : lt x z ≡ true → z ≡ clamp_axis f e x
    unfolding clamp_axis clamp
    clamps_low p = simp (o, rw o at p)

    pub clamps_high : {half : Float} → half ≡ half_f → lt x z ≡ false → lt (sub f limit half) x ≡ true → sub f limit half ≡ clamp_axis f e x
    unfolding clamp_axis clamp
    clamps_high h p q = simp (h, l, rw o at p, rw (h, l) at q)

    pub keeps : {half : Float} → half ≡ half_f → lt x z ≡ false → lt (sub f limit half) x ≡ false → x ≡ clamp_axis f e x
    unfolding clamp_axis clamp
    keeps h p q = simp (rw o at p, rw (h, l) at q)

-- ---- both ends beyond the upper face
module _ (f : Format) (e : ℕ) {limit : Float} (l : limit ≡ number_f f e) (entry exit : Float) where
  pub beyond : le limit entry ≡ true → le limit exit ≡ (le (number_f f e) entry && le (number_f f e) exit)
  beyond p = simp (rw l at p, l)

  pub not_beyond : le limit entry ≡ false → false ≡ (le (number_f f e) entry && le (number_f f e) exit)
  not_beyond p = simp (rw l at p)
