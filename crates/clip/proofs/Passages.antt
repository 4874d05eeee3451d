-- Slabs one after the other, in every format: what the code's passage of the first says of all. Assumes nothing.
use Rattle.std.proofs.Common.{◌≡◌, ℕ, List, [], ◌∷◌, sym, refl, ap, ◌∙◌}
use mathlib.Core.Option.{Option, some, none}
use lib.Ieee.{Float, Format}
use Rattle.rules.specs.Floats.{zero_f, one_f}
use Rattle.rules.specs.OneBeam.{Span, whole_span, slab, slabs, unless_missed}

-- what follows the last slab is nothing
nothing_more : {A : Type 0} (o : Option A) → unless_missed o (λ s. some s) ≡ o
nothing_more (some s) = refl
nothing_more none = refl

-- the code's zero and one
pub whole : {z o : Float} → z ≡ zero_f → o ≡ one_f → record { entry = z; exit = o } ≡ whole_span
whole z o = rw (z, o) refl

-- o is what the code's slab answered of the span t that it had
module _ (f : Format) (n : ℕ) (x d : Float) {s t : Span} {o : Option Span} (same : t ≡ s) (asked : o ≡ slab f n x d t) where
  answered : slab f n x d s ≡ o
  answered = sym (asked ∙ ap (slab f n x d) same)

  pub stops_there : (es : List ℕ) (xs ds : List Float) → o ≡ none → none ≡ slabs f (n ∷ es) (x ∷ xs) (d ∷ ds) s
  unfolding slabs
  stops_there es xs ds p = simp (answered ∙ p)

  pub goes_through : (es : List ℕ) (xs ds : List Float) {r : Span} {a : Option Span} → o ≡ some r → a ≡ slabs f es xs ds r → a ≡ slabs f (n ∷ es) (x ∷ xs) (d ∷ ds) s
  unfolding slabs
  goes_through es xs ds p e = simp (answered ∙ p, e)

  pub last-slab : o ≡ slabs f (n ∷ []) (x ∷ []) (d ∷ []) s
  unfolding slabs
  last-slab = sym answered ∙ sym (nothing_more (slab f n x d s))
