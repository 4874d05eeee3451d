-- The head that a record holds: that its numbers fit the bytes of their fields, and that the tests of reading and of
-- writing are the same. Of any number of axes. Assumes nothing.
use Rattle.std.specs.Prelude.{ℕ, suc, ◌*◌, ◌^◌, ◌≤◌, ◌<◌, Bool, true, false, List, [], ◌∷◌, ◌⊎◌, ◌≡◌, refl, T, leb, length}
use Rattle.std.proofs.Common.{inl, inr, mul-le-mul, mul_comm, arith, pow_mono, leb-true, le-leb, lt-ltb, le-ltb, eq-eqb}
use Rattle.std.proofs.Math.Option.{none}
use Rattle.std.proofs.Math.Nat.{pow-succ'}
use Rattle.std.specs.Float.Ieee.Bits.{is_true}
use Rattle.rules.specs.RefusalNumbers.Entries.{first_too_small, extents_refusal, Uses, head_refusal, uses_of, writing}
use Rattle.rules.specs.RefusalNumbers.Editions.{uses_of_writing}
use Rattle.rules.specs.TheGridAndItsBounds.{Head, least_extent, most_extent, most_cells, cells}
use Rattle.rules.specs.TheGridAndItsBounds.{all_at_least, all_at_most, fits_capacity, extents_in_bounds, bounded, cuts_in_bounds, one_per_cell}
use Rattle.rules.specs.MarksAndFrames.{highest_frame, open_frame}
use Rattle.rules.specs.MapRecord.{row_width, row_count}
use Rattle.laws.specs.Checks.{AxesInBounds, InBounds, passed, none_too_small}
use Rattle.laws.specs.Floats.Tests.{order}
use Rattle.record_laws.specs.Words.{Each}
use Rattle.record_laws.specs.Each.{each_nil, each_cons, both}
use Rattle.record_laws.specs.Numbers.{InTwoBytes}

-- ---- sizes
extents_multiply : (es : List ℕ) → AxesInBounds es → 2 ^ length es ≤ cells es
unfolding cells
extents_multiply [] b = omega arith
extents_multiply (e ∷ es) b = rw pow-succ' (mul-le-mul b.0 (extents_multiply es b.2))

-- every axis at least doubles the cells, so there are at most 24, and the extents' field has at most 48 bytes
pub axes_few : (es : List ℕ) → InBounds es → length es ≤ 24
axes_few es b = go (order 24 (length es))
  where
    go : (24 < length es) ⊎ (length es ≤ 24) → length es ≤ 24
    go (inl h) = let p : 2 ^ 25 ≤ 2 ^ length es = pow_mono h in let q = extents_multiply es b.0 in absurd (omega arith)
    go (inr h) = h

pub extents_in_two_bytes : (es : List ℕ) → AxesInBounds es → Each InTwoBytes 0 es
extents_in_two_bytes [] b = each_nil InTwoBytes 0
extents_in_two_bytes (e ∷ es) b = each_cons InTwoBytes 0 e es (omega arith) (extents_in_two_bytes es b.2)

-- a row has at most 32,768 bytes
pub row_narrow : (es : List ℕ) → AxesInBounds es → 8 * row_width es < 65_536
row_narrow [] b = omega arith
row_narrow (e ∷ es) b = omega arith

-- the rows hold one odds number for each cell
pub rows_are_cells : (es : List ℕ) → 0 < length es → cells es ≡ row_count es * row_width es
unfolding cells row_count
rows_are_cells [] h = absurd (omega arith)
rows_are_cells (e ∷ es) h = mul_comm e (cells es)

-- ---- tests
none_too_large : (es : List ℕ) → AxesInBounds es → all_at_most most_extent es ≡ true
unfolding all_at_most
none_too_large [] b = refl
none_too_large (e ∷ es) b = rw (le-leb e most_extent b.1, none_too_large es b.2) refl

all_least : (es : List ℕ) (k : ℕ) → all_at_least least_extent es ≡ true → first_too_small k es ≡ none
unfolding all_at_least first_too_small
all_least [] k h = refl
all_least (e ∷ es) k h =
    let t = both (leb least_extent e) (all_at_least least_extent es) h in
    rw (le-ltb e least_extent (leb-true least_extent e t.0)) (all_least es (suc k) t.1)

-- what reading tests of a head, and how many odds writing asks for
pub record Tests (h : Head) (odds : ℕ) : Type 0 where
  pub extents : extents_in_bounds h.extents ≡ true
  pub model : bounded h.model ≡ true
  pub cuts : cuts_in_bounds h.extents h.model ≡ true
  pub frame : open_frame h.frame ≡ true
  pub count : odds ≡ cells h.extents

-- a head that is not refused where the model, the odds and the frame are used
pub tests_of_lem : (u : Uses) (h : Head) (odds stamps : ℕ) → T u.model → T u.odds → T u.frame → head_refusal u h odds stamps ≡ none
    → Tests h odds × InBounds h.extents × (h.frame ≤ highest_frame)
unfolding extents_in_bounds fits_capacity open_frame
tests_of_lem u h odds stamps use-model use-odds use-frame e =
    let p = passed u h odds stamps e in
    let b = p.extents in
    let f = p.frame use-frame in (
      record {
        extents = rw (none_too_small h.extents b.0, none_too_large h.extents b.0, le-leb (cells h.extents) most_cells b.1) refl;
        model = is_true (bounded h.model) (p.model use-model);
        cuts = is_true (cuts_in_bounds h.extents h.model) (p.cuts use-model);
        frame = rw (lt-ltb 0 h.frame f.0, le-leb h.frame highest_frame f.1) refl;
        count = p.odds_count use-odds;
      },
      b,
      f.1,
    )

-- a head that writing does not refuse
pub tests_of_writing : (h : Head) (odds : ℕ) → head_refusal (uses_of writing) h odds 0 ≡ none
    → Tests h odds × InBounds h.extents × (h.frame ≤ highest_frame)
tests_of_writing h odds e = tests_of_lem (uses_of writing) h odds 0 tt tt tt e

pub writing_passes : (h : Head) (odds : ℕ) → Tests h odds → head_refusal (uses_of writing) h odds 0 ≡ none
unfolding head_refusal extents_refusal extents_in_bounds one_per_cell
writing_passes h odds t =
    let b = both (all_at_least least_extent h.extents) (fits_capacity h.extents) t.extents in
    rw (all_least h.extents 0 b.0, b.1, t.model, t.cuts, eq-eqb odds (cells h.extents) t.count, t.frame) refl

-- writing edition 2 uses the stamps where the sweep is open
pub edition_passes : (running : Bool) (h : Head) (odds stamps : ℕ) → Tests h odds → (running ≡ true → stamps ≡ cells h.extents)
    → head_refusal (uses_of_writing running) h odds stamps ≡ none
unfolding head_refusal extents_refusal extents_in_bounds one_per_cell
edition_passes false h odds stamps t s =
    let b = both (all_at_least least_extent h.extents) (fits_capacity h.extents) t.extents in
    rw (all_least h.extents 0 b.0, b.1, t.model, t.cuts, eq-eqb odds (cells h.extents) t.count, t.frame) refl
edition_passes true h odds stamps t s =
    let b = both (all_at_least least_extent h.extents) (fits_capacity h.extents) t.extents in
    let one = eq-eqb stamps (cells h.extents) (s refl) in
    rw (all_least h.extents 0 b.0, b.1, t.model, t.cuts, eq-eqb odds (cells h.extents) t.count, one, t.frame) refl
