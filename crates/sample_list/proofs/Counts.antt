-- A sample has a gradient along each axis, so it fills its slot; and what the test of the counts has shown. Assumes
-- nothing.
use Prim.Native.Nat.{ℕ, suc, ◌*◌}
use mathlib.Core.Bool.{Bool, true}
use mathlib.Core.Path.{◌≡◌, refl, ap, ◌∙◌}
use mathlib.Core.List.{List, [], ◌∷◌}
use mathlib.Core.Option.{Option, some, none, map}
use native.Mathlib.Omega.{arith}
use lib.Dec.{T, eqb, eqb→eq}
use lib.ListN.{length, length-map}
use lib.Ieee.{Float, Format}
use lib.Ieee.Fits.{and_l, and_r}
use Rattle.rules.specs.Coordinates.{StencilAxis, stencil_axis, joined, stencil, gradient_from, offsets_of, sample_at, sample}
use Rattle.rules.specs.ManySamples.{slot_of, same_counts}

-- a stencil has an axis for each of the map's
stencil_axes : (f : Format) (es : List ℕ) (xs : List Float) (axes : List StencilAxis) → length xs ≡ length es → stencil f es xs ≡ some axes → length axes ≡ length es
unfolding stencil
stencil_axes f [] xs axes l q = let k : axes ≡ [] = cc in rw k refl
stencil_axes f (e ∷ es) [] axes l q = absurd (omega arith)
stencil_axes f (e ∷ es) (x ∷ xs) axes l q = go (stencil_axis f e x) (stencil f es xs) (λ as'. stencil_axes f es xs as' (omega arith)) q
  where
    go : (a : Option StencilAxis) (o : Option (List StencilAxis)) → ((as' : List StencilAxis) → o ≡ some as' → length as' ≡ length es)
        → joined a o ≡ some axes → length axes ≡ suc (length es)
    go (some a) (some as') r q = let k : axes ≡ a ∷ as' = cc in rw k (ap suc (r as' refl))
    go (some a) none r q = let z : ◌≡◌ {A = ℕ} 0 1 = cc in absurd (omega arith)
    go none (some as') r q = let z : ◌≡◌ {A = ℕ} 0 1 = cc in absurd (omega arith)
    go none none r q = let z : ◌≡◌ {A = ℕ} 0 1 = cc in absurd (omega arith)

slopes : (f : Format) (k : ℕ) (left os : List Float) (at : List Bool → Float) (cs : List (List Bool)) → length (gradient_from f k left os at cs) ≡ length left
unfolding gradient_from
slopes f k [] os at cs = refl
slopes f k (o ∷ left) os at cs = ap suc (slopes f (suc k) left os at cs)

-- what a point leaves in its slot is as long as the slot
pub slot_size : (f : Format) (es : List ℕ) (odds xs held : List Float) → length xs ≡ length es → length held ≡ suc (length es)
    → length (slot_of (sample f es odds xs) held) ≡ suc (length es)
unfolding sample sample_at
slot_size f es odds xs held l e = go (stencil f es xs) (λ axes. stencil_axes f es xs axes l)
  where
    go : (o : Option (List StencilAxis)) → ((axes : List StencilAxis) → o ≡ some axes → length axes ≡ length es)
        → length (slot_of (map (sample_at f es odds) o) held) ≡ suc (length es)
    go (some axes) r = ap suc (slopes f 0 (offsets_of axes) (offsets_of axes) _ _ ∙ length-map axes _ ∙ r axes refl)
    go none r = e

-- lists of the same count, as facts about numbers
pub counted : (n points slots marks : ℕ) → same_counts n points slots marks ≡ true → (points ≡ n * marks) × (slots ≡ suc n * marks)
unfolding same_counts
counted n points slots marks e =
    let t : T (same_counts n points slots marks) = rw e tt in (
      eqb→eq points (n * marks) (and_l (eqb points (n * marks)) (eqb slots (suc n * marks)) t),
      eqb→eq slots (suc n * marks) (and_r (eqb points (n * marks)) (eqb slots (suc n * marks)) t),
    )
