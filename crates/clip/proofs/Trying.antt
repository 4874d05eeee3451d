-- A beam, tried and clipped, in every format and over any number of axes, by what the code's calls answered. Assumes
-- nothing.
use Rattle.std.proofs.Common.{◌≡◌, ℕ, ◌≤◌, Bool, true, false, cond, ◌&&◌, T, List, length, sym, ap, ◌∙◌, subst}
use mathlib.Core.Option.{Option, some, none}
use lib.Ieee.{Float, Format}
use Rattle.rules.specs.Floats.{zero_f, one_f, all_finite}
use Rattle.rules.specs.OneBeam.{Span, whole_span, Clipped, directions, slabs, all_within, both_beyond, is_inside, clamp_point, point_at, clipped_at, clip}
use Rattle.laws.specs.Checks.{AxesInBounds}
use Rattle.clip.proofs.OnTheMap.{clip-uncut}
use Rattle.clip.proofs.OnTheMap.Coordinate.{all-finite}

-- ---- what is left of a beam: b, p, q and i are what the code's calls answered
module _ (f : Format) (es : List ℕ) (t : Float) (entry exit : List Float) {b : Bool} (asked : b ≡ both_beyond f es entry exit) where
  pub within_the_face : b ≡ true → none ≡ clipped_at f es t entry exit
  unfolding clipped_at
  within_the_face h = simp (sym asked ∙ h)

  pub clamped : {p q : List Float} {i : Bool} → b ≡ false → p ≡ clamp_point f es entry → q ≡ clamp_point f es exit → i ≡ is_inside f es t exit
      → some (record { entry = p; exit = q; inside = i }) ≡ clipped_at f es t entry exit
  unfolding clipped_at
  clamped h p q i = simp (sym asked ∙ h, p, q, i)

-- ---- by the slabs: d, o, p, q and c are what the code's calls answered
module _ (f : Format) (es : List ℕ) (origin endpoint : List Float) {d : List Float} {o : Option Span} (along : d ≡ directions f origin endpoint)
    (asked : o ≡ slabs f es origin d whole_span) where
  pub passes_by : o ≡ none → none ≡ clip f es origin endpoint
  unfolding clip
  passes_by h = simp (← along, sym asked ∙ h)

  pub cut_out : {s : Span} {p q : List Float} {c : Option Clipped} → o ≡ some s → p ≡ point_at f s.entry origin d → q ≡ point_at f s.exit origin d
      → c ≡ clipped_at f es s.exit p q → c ≡ clip f es origin endpoint
  unfolding clip
  cut_out h p q c = simp (← along, sym asked ∙ h, c, p, q)

module _ (f : Format) (es : List ℕ) (origin endpoint : List Float) where
  -- ---- both ends on the map: z and o are the code's zero and one, d, p, q and c what its calls answered
  module _ (bounded : AxesInBounds es) (starts : all_within f es origin ≡ true) (ends : all_within f es endpoint ≡ true) where
    pub uncut : {z o : Float} {d p q : List Float} {c : Option Clipped} → z ≡ zero_f → o ≡ one_f → d ≡ directions f origin endpoint → p ≡ point_at f z origin d
        → q ≡ point_at f o origin d → c ≡ clipped_at f es o p q → c ≡ clip f es origin endpoint
    uncut z o d p q c =
        rw (clip-uncut f es origin endpoint bounded (subst T (sym starts) tt) (subst T (sym ends) tt), ← d, ← z, ← o, ← p, ← q) c

  -- ---- nothing for a beam that is not finite
  abbrev tried : Option (Option Clipped)
  tried = cond (all_finite origin && all_finite endpoint) (some (clip f es origin endpoint)) none

  -- a and b are what the code's tests of the ends answered, c what it clipped to
  pub on_the_map : {a b : Bool} {c : Option Clipped} → AxesInBounds es → length origin ≤ length es → length endpoint ≤ length es → a ≡ all_within f es origin → a ≡ true
      → b ≡ all_within f es endpoint → b ≡ true → c ≡ clip f es origin endpoint → some c ≡ tried
  on_the_map h l m p s q t c =
      rw (all-finite f es origin h l (subst T (sym (sym p ∙ s)) tt), all-finite f es endpoint h m (subst T (sym (sym q ∙ t)) tt)) (ap some c)
