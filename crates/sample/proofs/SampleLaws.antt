-- Laws of the rules' sample, over any number of axes: where the corners of a stencil stand, that each is a cell of the
-- grid, and the sample by its offsets and its corners. Assumes nothing.
use Rattle.std.proofs.Common.{◌≡◌, ℕ, ◌+◌, ◌*◌, ◌<◌, ◌≤◌, Bool, true, false, cond, List, [], ◌∷◌, ◌++◌, length, get_or, sym, refl, ap, ◌∙◌, add-zero, add_assoc, mul-le-mul_right, mul_assoc, mul_comm, add-mul, one-mul, mul-one, arith}
use mathlib.Core.Path.{fun_ext}
use mathlib.Core.Option.{Option, some, none}
use native.Mathlib.Nat.{add_right_comm}
use lib.Ieee.{Float, nan, Format}
use Rattle.rules.specs.Floats.{zero_f}
use Rattle.rules.specs.TheGridAndItsBounds.{least_extent, all_at_least, cells, strides, strides_from}
use Rattle.rules.specs.Coordinates.{StencilAxis, stencil_axis, stencil, joined, cells_of, offsets_of, times_strides, corner_place, corners}
use Rattle.rules.specs.Coordinates.{value_from, gradient_from, sample_at}
use Rattle.sample.specs.Sampling.{by_bit, odds_from, total, highest_corner}
use Rattle.sample.proofs.StencilLaws.{cell-above, at_least_first, at_least_rest}

-- ---- the last axis of a stencil, taken first
place_last : (base s : ℕ) (ss : List ℕ) (c : List Bool)
    → corner_place base (ss ++ s ∷ []) c ≡ corner_place (base + cond (get_or c (length ss) false) s 0) ss c
unfolding corner_place
place_last base s [] [] = sym (add-zero base)
place_last base s [] (b ∷ bs) = refl
place_last base s (t ∷ ts) [] = sym (add-zero base)
place_last base s (t ∷ ts) (b ∷ bs) =
    place_last (base + cond b t 0) s ts bs
    ∙ ap (λ (n : ℕ). corner_place n ts bs) (add_right_comm base (cond b t 0) (cond (get_or bs (length ts) false) s 0))

-- the corners on both sides of an axis are those of the axes before it, read twice, one stride apart
pub both_sides : (odds : List Float) (base s : ℕ) (ss : List ℕ) (low high : List Bool → Float)
    → low ≡ odds_from odds base ss → high ≡ odds_from odds (base + s) ss → by_bit (length ss) low high ≡ odds_from odds base (ss ++ s ∷ [])
unfolding odds_from
both_sides odds base s ss low high l h = fun_ext (λ c. go c (get_or c (length ss) false) refl)
  where
    go : (c : List Bool) (b : Bool) → get_or c (length ss) false ≡ b → cond b (high c) (low c) ≡ get_or odds (corner_place base (ss ++ s ∷ []) c) nan
    go c true e =
        ap (λ (g : List Bool → Float). g c) h
        ∙ ap (λ (n : ℕ). get_or odds n nan) (sym (place_last base s ss c ∙ ap (λ (b : Bool). corner_place (base + cond b s 0) ss c) e))
    go c false e =
        ap (λ (g : List Bool → Float). g c) l
        ∙ ap (λ (n : ℕ). get_or odds n nan)
        (sym (place_last base s ss c ∙ ap (λ (b : Bool). corner_place (base + cond b s 0) ss c) e ∙ ap (λ (n : ℕ). corner_place n ss c) (add-zero base)))

-- one cell alone
pub one_cell : (odds : List Float) (base : ℕ) → (λ (c : List Bool). get_or odds base nan) ≡ odds_from odds base []
unfolding odds_from corner_place
one_cell odds base = refl

-- ---- every corner is a cell of the grid
-- each cell has one above it
pub data Above : List ℕ → List ℕ → Type 0 where
  none_left : Above [] []
  and_above : {c e : ℕ} {cs es : List ℕ} → c + 1 < e → Above cs es → Above (c ∷ cs) (e ∷ es)

-- the highest corner, and a stride more, is still within
reach : (s : ℕ) (cs es : List ℕ) → Above cs es → times_strides cs (strides_from s es) + total (strides_from s es) + s ≤ s * cells es
unfolding times_strides strides_from total cells
reach s [] [] none_left = omega arith
reach s [] (e ∷ es) r = elim r [ ]
reach s (c ∷ cs) [] r = elim r [ ]
reach s (c ∷ cs) (e ∷ es) (and_above h r) =
    let k : (c + 2) * s ≤ e * s = mul-le-mul_right s (omega arith) in
    let i = reach (s * e) cs es r in
    omega (arith, mul_assoc s e (cells es), add-mul c 2 s, mul_comm s e)

-- a stencil's cells each have one above
pub above : (f : Format) (es : List ℕ) (xs : List Float) (axes : List StencilAxis)
    → length xs ≡ length es → all_at_least least_extent es ≡ true → stencil f es xs ≡ some axes → Above (cells_of axes) es
unfolding stencil
above f [] xs axes l h q = let k : axes ≡ [] = cc in rw k none_left
above f (e ∷ es) [] axes l h q = absurd (omega arith)
above f (e ∷ es) (x ∷ xs) axes l h q =
    go (stencil_axis f e x) (stencil f es xs) refl (λ as'. above f es xs as' (omega arith) (at_least_rest least_extent e es h)) q
  where
    go : (a : Option StencilAxis) (o : Option (List StencilAxis)) → stencil_axis f e x ≡ a
        → ((as' : List StencilAxis) → o ≡ some as' → Above (cells_of as') es) → joined a o ≡ some axes → Above (cells_of axes) (e ∷ es)
    go (some a) (some as') p r q =
        let k : axes ≡ a ∷ as' = cc in
        rw k (and_above (cell-above f e x a (at_least_first least_extent e es h) p) (r as' refl))
    go (some a) none p r q = let z : ◌≡◌ {A = ℕ} 0 1 = cc in absurd (omega arith)
    go none (some as') p r q = let z : ◌≡◌ {A = ℕ} 0 1 = cc in absurd (omega arith)
    go none none p r q = let z : ◌≡◌ {A = ℕ} 0 1 = cc in absurd (omega arith)

-- no corner of a stencil is past the last cell
pub within : (f : Format) (es : List ℕ) (xs : List Float) (axes : List StencilAxis)
    → length xs ≡ length es → all_at_least least_extent es ≡ true → stencil f es xs ≡ some axes → highest_corner es axes < cells es
unfolding highest_corner strides
within f es xs axes l h q = omega (arith, reach 1 (cells_of axes) es (above f es xs axes l h q))

-- ---- the sample, by the stencil and what stands at its corners
pub sampled : (f : Format) (es : List ℕ) (odds : List Float) (axes : List StencilAxis) (at : List Bool → Float) (v : Float) (g : List Float)
    → at ≡ odds_from odds (times_strides (cells_of axes) (strides es)) (strides es)
    → v ≡ value_from f zero_f (offsets_of axes) at (corners (length axes))
    → g ≡ gradient_from f 0 (offsets_of axes) (offsets_of axes) at (corners (length axes))
    → record { value = v; gradient = g } ≡ sample_at f es odds axes
unfolding sample_at odds_from
sampled f es odds axes at v g a p q = rw (p, q, a)

-- ---- two axes and three
module _ (ex ey : ℕ) (a b : StencilAxis) where
  pub highest_two : highest_corner (ex ∷ ey ∷ []) (a ∷ b ∷ []) ≡ a.cell + b.cell * ex + ex + 1
  unfolding highest_corner strides strides_from times_strides total
  highest_two = simp (mul-one, one-mul) (omega arith)

  pub odds_two : (odds : List Float)
      → odds_from odds (a.cell + b.cell * ex) (1 ∷ ex ∷ [])
      ≡ odds_from odds (times_strides (cells_of (a ∷ b ∷ [])) (strides (ex ∷ ey ∷ []))) (strides (ex ∷ ey ∷ []))
  unfolding strides strides_from times_strides
  odds_two odds = simp (mul-one, one-mul, add-zero)

module _ (ex ey ez : ℕ) (a b c : StencilAxis) where
  pub highest-three : highest_corner (ex ∷ ey ∷ ez ∷ []) (a ∷ b ∷ c ∷ []) ≡ a.cell + b.cell * ex + c.cell * (ex * ey) + ex * ey + ex + 1
  unfolding highest_corner strides strides_from times_strides total
  highest-three = simp (mul-one, one-mul) (omega arith)

  pub odds-three : (odds : List Float)
      → odds_from odds (a.cell + b.cell * ex + c.cell * (ex * ey)) (1 ∷ ex ∷ ex * ey ∷ [])
      ≡ odds_from odds (times_strides (cells_of (a ∷ b ∷ c ∷ [])) (strides (ex ∷ ey ∷ ez ∷ []))) (strides (ex ∷ ey ∷ ez ∷ []))
  unfolding strides strides_from times_strides
  odds-three odds = simp (mul-one, one-mul, add-zero, ← add_assoc)
