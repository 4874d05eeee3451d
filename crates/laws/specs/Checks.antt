-- What is known once a head has passed its checks: the tests of refusals 1, 2, 3, 4 and 9 as facts. Over any number of
-- axes. Assumes nothing.
use Rattle.std.specs.Prelude.{ℕ, suc, ◌≤◌, ◌<◌, Bool, true, false, cond, List, [], ◌∷◌, ◌≡◌, refl, T, ltb, leb, eqb}
use Rattle.std.proofs.Math.Option.{Option, some, none}
use Rattle.std.proofs.Common.{arith, ltb→lt, leb→le, eqb→eq, nltb→le, le-leb}
use Rattle.std.specs.Float.Ieee.Fits.{and_l, and_r}
use Rattle.rules.specs.RefusalNumbers.{Refusal}
use Rattle.rules.specs.RefusalNumbers.Entries.{first_too_small, or_else, unless_holds, extents_refusal, Uses, head_refusal, uses_of, marks}
use Rattle.rules.specs.TheGridAndItsBounds.{Head, least_extent, most_extent, most_cells, cells, all_at_least, all_at_most, fits_capacity, bounded, cuts_in_bounds, one_per_cell}
use Rattle.rules.specs.MarksAndFrames.{highest_frame, open_frame}

-- extents in bounds, as facts about numbers
abbrev pub AxesInBounds : List ℕ → Type 0
AxesInBounds [] = Unit {0}
AxesInBounds (e ∷ es) = (least_extent ≤ e) × (e ≤ most_extent) × AxesInBounds es

abbrev pub InBounds : List ℕ → Type 0
InBounds es = AxesInBounds es × (cells es ≤ most_cells)

-- what a head has shown that was not refused, as far as the entry uses it
pub record Passed (u : Uses) (h : Head) (odds stamps : ℕ) : Type 0 where
  pub extents : InBounds h.extents
  pub model : T u.model → T (bounded h.model)
  pub cuts : T u.model → T (cuts_in_bounds h.extents h.model)
  pub odds_count : T u.odds → odds ≡ cells h.extents
  pub stamps_count : T u.stamps → stamps ≡ cells h.extents
  pub frame : T u.frame → (0 < h.frame) × (h.frame ≤ highest_frame)

no_first : (a b : Option Refusal) → or_else a b ≡ none → a ≡ none
no_first (some r) b e = let z : ◌≡◌ {A = ℕ} 0 1 = cc in absurd (omega arith)
no_first none b e = refl

no_second : (a b : Option Refusal) → or_else a b ≡ none → b ≡ none
no_second (some r) b e = let z : ◌≡◌ {A = ℕ} 0 1 = cc in absurd (omega arith)
no_second none b e = e

holds_if_used : (used holds : Bool) (r : Refusal) → unless_holds used holds r ≡ none → T used → T holds
holds_if_used true true r e t = tt
holds_if_used true false r e t = let z : ◌≡◌ {A = ℕ} 0 1 = cc in absurd (omega arith)
holds_if_used false holds r e t = absurd t

axes_in_bounds : (k : ℕ) (es : List ℕ) → first_too_small k es ≡ none → T (all_at_most most_extent es) → AxesInBounds es
unfolding first_too_small all_at_most
axes_in_bounds k [] e t = tt
axes_in_bounds k (x ∷ es) e t = go (ltb x least_extent) refl (λ h. axes_in_bounds (suc k) es h (and_r (leb x most_extent) (all_at_most most_extent es) t)) e
  where
    go : (b : Bool) → ltb x least_extent ≡ b → (first_too_small (suc k) es ≡ none → AxesInBounds es)
        → cond b (some (Rattle.rules.specs.RefusalNumbers.dimension_too_small k x)) (first_too_small (suc k) es) ≡ none → AxesInBounds (x ∷ es)
    go true p ih h = let z : ◌≡◌ {A = ℕ} 0 1 = cc in absurd (omega arith)
    go false p ih h = (nltb→le x least_extent (rw p tt), leb→le x most_extent (and_l (leb x most_extent) (all_at_most most_extent es) t), ih h)

pub extents_passed : (es : List ℕ) → extents_refusal es ≡ none → InBounds es
unfolding extents_refusal fits_capacity
extents_passed es e =
    let fits = holds_if_used true (fits_capacity es) _ (no_second (first_too_small 0 es) _ e) tt in (
      axes_in_bounds 0 es (no_first (first_too_small 0 es) _ e) (and_l (all_at_most most_extent es) (leb (cells es) most_cells) fits),
      leb→le (cells es) most_cells (and_r (all_at_most most_extent es) (leb (cells es) most_cells) fits),
    )

pub passed : (u : Uses) (h : Head) (odds stamps : ℕ) → head_refusal u h odds stamps ≡ none → Passed u h odds stamps
unfolding head_refusal one_per_cell open_frame
passed u h odds stamps e₀ =
    let e₁ = no_second (extents_refusal h.extents) _ e₀ in
    let c₂ = no_second (unless_holds u.model (bounded h.model) _) _ e₁ in
    let e₂ = no_second (unless_holds u.model (cuts_in_bounds h.extents h.model) _) _ c₂ in
    let e₃ = no_second (unless_holds u.odds (one_per_cell h.extents odds) _) _ e₂ in
    let e₄ = no_second (unless_holds u.stamps (one_per_cell h.extents stamps) _) _ e₃ in
    record {
      extents = extents_passed h.extents (no_first (extents_refusal h.extents) _ e₀);
      model = holds_if_used u.model (bounded h.model) _ (no_first _ _ e₁);
      cuts = holds_if_used u.model (cuts_in_bounds h.extents h.model) _ (no_first _ _ c₂);
      odds_count = λ t. eqb→eq odds (cells h.extents) (holds_if_used u.odds (one_per_cell h.extents odds) _ (no_first _ _ e₂) t);
      stamps_count = λ t. eqb→eq stamps (cells h.extents) (holds_if_used u.stamps (one_per_cell h.extents stamps) _ (no_first _ _ e₃) t);
      frame = λ t. let f = holds_if_used u.frame (open_frame h.frame) _ e₄ t in
          (ltb→lt 0 h.frame (and_l (ltb 0 h.frame) (leb h.frame highest_frame) f), leb→le h.frame highest_frame (and_r (ltb 0 h.frame) (leb h.frame highest_frame) f));
    }

-- what marks and beams need of a head that has passed
pub record Ready (h : Head) (odds stamps : ℕ) : Type 0 where
  pub extents : InBounds h.extents
  pub cuts : T (cuts_in_bounds h.extents h.model)
  pub odds_count : odds ≡ cells h.extents
  pub stamps_count : stamps ≡ cells h.extents
  pub frame : h.frame ≤ highest_frame

pub ready : (h : Head) (odds stamps : ℕ) → head_refusal (uses_of marks) h odds stamps ≡ none → Ready h odds stamps
ready h odds stamps e =
    let p = passed (uses_of marks) h odds stamps e in
    record { extents = p.extents; cuts = p.cuts tt; odds_count = p.odds_count tt; stamps_count = p.stamps_count tt; frame = (p.frame tt).1 }

-- the same as a test: no extent is too small
pub none_too_small : (es : List ℕ) → AxesInBounds es → all_at_least least_extent es ≡ true
unfolding all_at_least
none_too_small [] b = refl
none_too_small (e ∷ es) b = rw (le-leb least_extent e b.0, none_too_small es b.2) refl
