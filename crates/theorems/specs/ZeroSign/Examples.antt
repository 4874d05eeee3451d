-- A choice that takes the other zero, on the map of 10 by 8: the Hit from (10, 0.5) to (9, 0.5), whose near fraction is
-- -0.0, and one from (-0.0, 0.5), whose clipped points differ in a zero's sign. Their marks are the same. By
-- computation of the definitions.
use Rattle.std.specs.Prelude.{ℕ, ◌≡◌, refl, Bool, true, false, cond, ◌&&◌, List, [], ◌∷◌, T, Float}
use Rattle.std.proofs.Common.{inl, inr}
use Rattle.std.proofs.Math.Option.{Option, some}
use Rattle.std.specs.Float.{binary64}
use Rattle.std.specs.Float.Ieee.{sub, neg, div, lt}
use Rattle.std.specs.Float.Ieee.Fits.{and_l, and_r}
use Rattle.rules.specs.Floats.{zero_f, half_f, one_f, number_f}
use Rattle.rules.specs.RefusalNumbers.{given}
use Rattle.rules.specs.OneBeam.{Beam, Span, Clipped, whole_span, larger_of, smaller_of, slabs, directions, clip, beam_marks}
use Rattle.laws.specs.Floats.Zeros.{is_zero, SameNumber}
use Rattle.theorems.specs.PromiseThree.Examples.{plus, opened}
use Rattle.theorems.specs.ZeroSign.Floats.{neg-zero}
use Rattle.theorems.specs.ZeroSign.{Choice, slabs_by, clip_by, marks_by}

-- ---- where both are zeros, the zero that the rules do not take
abbrev other : Float → Float → Float → Float
other a b x = cond (is_zero a && is_zero b) (neg x) x

pub one_of : (c : Bool) (a b : Float) → T (is_zero a) → T (is_zero b) → T (is_zero (cond c a b))
one_of true a b p q = p
one_of false a b p q = q

pub other_is : (a b x : Float) → (T (is_zero a) → T (is_zero b) → T (is_zero x)) → SameNumber (other a b x) x
other_is a b x z = go (is_zero a && is_zero b) (λ t. z (and_l (is_zero a) (is_zero b) t) (and_r (is_zero a) (is_zero b) t))
  where
    go : (c : Bool) → (T c → T (is_zero x)) → SameNumber (cond c (neg x) x) x
    go true h = inr (neg-zero x (h tt), h tt)
    go false h = inl refl

abbrev other_zero : ℕ → Choice
other_zero axis =
    record {
      larger = λ a b. other a b (larger_of a b);
      smaller = λ a b. other a b (smaller_of a b);
      larger_is = λ a b h. other_is a b (larger_of a b) (λ p q. unfold larger_of in one_of (lt a b) b a q p);
      smaller_is = λ a b h. other_is a b (smaller_of a b) (λ p q. unfold smaller_of in one_of (lt b a) b a q p);
    }

-- ---- two beams
abbrev es : List ℕ
es = 10 ∷ 8 ∷ []

abbrev from : Float → Float → Beam
from x y = record { origin = x ∷ half_f ∷ []; endpoint = y ∷ half_f ∷ []; hit = true }

abbrev face : Beam
face = from (plus 10 1) (plus 9 1)

abbrev edge : Beam
edge = from (neg zero_f) one_f

-- the fractions between which a beam lies in the slabs, by the rules and by the other choice
abbrev fractions : Beam → Option Span
fractions b = slabs binary64 es b.origin (directions binary64 b.origin b.endpoint) whole_span

abbrev other_fractions : Beam → Option Span
other_fractions b = slabs_by other_zero 0 binary64 es b.origin (directions binary64 b.origin b.endpoint) whole_span

abbrev span : Float → Option Span
span entry = some (record { entry = entry; exit = one_f })

abbrev clipped : Float → Option Clipped
clipped x = some (record { entry = x ∷ half_f ∷ []; exit = one_f ∷ half_f ∷ []; inside = true })

pub record Cases : Type 0 where
  -- The near fraction of the first is -0.0, after the exchange.
  pub near : div binary64 (sub binary64 (number_f binary64 10) (plus 10 1)) (neg one_f) ≡ neg zero_f
  -- By the rules it enters at +0.0, by the other choice at -0.0.
  pub entry : fractions face ≡ span zero_f
  pub other_entry : other_fractions face ≡ span (neg zero_f)
  -- Cell 9, where it stopped on cloud, either way.
  pub marks : beam_marks binary64 es face ≡ given (record { place = 9; occupied = true } ∷ [])
  pub other_marks : marks_by other_zero binary64 es face ≡ given (record { place = 9; occupied = true } ∷ [])
  -- Of the second the entry points differ too, in the sign of zero; the marks do not.
  pub point : clip binary64 es edge.origin edge.endpoint ≡ clipped zero_f
  pub other-point : clip_by other_zero binary64 es edge.origin edge.endpoint ≡ clipped (neg zero_f)
  pub two_marks : beam_marks binary64 es edge ≡ given (record { place = 0; occupied = false } ∷ record { place = 1; occupied = true } ∷ [])
  pub two_other_marks : marks_by other_zero binary64 es edge ≡ given (record { place = 0; occupied = false } ∷ record { place = 1; occupied = true } ∷ [])

pub cases : Cases
unfolding opened
cases =
    record {
      near = refl;
      entry = refl;
      other_entry = refl;
      marks = refl;
      other_marks = refl;
      point = refl;
      other-point = refl;
      two_marks = refl;
      two_other_marks = refl;
    }
