-- The rows of a record that may be open, those of a closed one being edition 1's; and what writing needs of a head that
-- has passed. Over any number of axes. Assumes nothing.
use Prim.Native.Nat.{ℕ, zero, suc, ◌+◌, ◌*◌, ◌≤◌, ◌<◌}
use mathlib.Core.Bool.{Bool, true, false, cond}
use mathlib.Core.List.{List, ◌++◌, append-nil}
use mathlib.Core.Option.{none}
use mathlib.Core.Path.{◌≡◌, refl, ap, ap₂, ◌∙◌}
use native.Mathlib.Nat.{mul-add, mul_comm, mul_left_comm, le-mul_of_pos_right}
use native.Mathlib.Omega.{arith}
use lib.Dec.{T, eqb, ltb, ltb→lt}
use lib.Ieee.{Float}
use lib.Ieee.Fits.{and_l, and_r}
use lib.ListN.{length, take, drop}
use Rattle.rules.specs.RefusalNumbers.{Answer, given, and_then}
use Rattle.rules.specs.RefusalNumbers.Entries.{head_refusal}
use Rattle.rules.specs.RefusalNumbers.Editions.{uses_of_writing}
use Rattle.rules.specs.TheGridAndItsBounds.{Model, Head, Grid, cells, most_cells, cuts_in_bounds, cuts_below, last_extent, rising}
use Rattle.rules.specs.Fields.{float_bytes, head_size, word_size, field_size, field, sound_or, rows_of, rows_tried}
use Rattle.rules.specs.MapRecord.{row_tag, row_length, odds_in_bounds, rows_bytes, rows_checked}
use Rattle.rules.specs.EditionTwo.{bands_size, cuts_for, stamps_length, none_above, row_size, behind_row, grid_bytes, grid_tried}
use Rattle.laws.specs.Checks.{InBounds, passed}
use Rattle.types.specs.Models.{bands_of}
use Rattle.types.specs.Points.{extents3}
use Rattle.types.specs.declared.points.Extents3.{Extents3}
use Rattle.types.specs.declared.model.Bands.{Bands}
use Rattle.marks.specs.Marking.{grid_of}
use Rattle.rows.proofs.Odds.{odds_by_ceiling}
use Rattle.rows.proofs.Written.{length_rows_bytes}
use Rattle.rows.proofs.Shapes.{Shape, few}
use Rattle.open_rows.proofs.Rows.{length_grid_bytes}
use Rattle.record_writer.proofs.Fields.{small}
use Rattle.edition_writer.specs.Writing.{enough_stamps}

-- ---- closed
pub closed_bytes : (w n : ℕ) (odds : List Float) (stamps : List ℕ) → grid_bytes false w n (grid_of odds stamps) ≡ rows_bytes w n odds
unfolding grid_bytes rows_bytes rows_of
closed_bytes w zero odds stamps = refl
closed_bytes w (suc n) odds stamps =
    ap₂ ◌++◌ (append-nil (field row_tag (float_bytes (take w odds)))) (closed_bytes w n (drop w odds) (drop w stamps))

pub closed_tried : (m : Model) (frame w n offset : ℕ) (odds : List Float) (stamps : List ℕ)
    → grid_tried false m frame w n offset (grid_of odds stamps) ≡ rows_checked m w n offset odds
unfolding grid_tried rows_checked rows_tried
closed_tried m frame w zero offset odds stamps = refl
closed_tried m frame w (suc n) offset odds stamps =
    let k : offset + row_size false w ≡ offset + field_size (row_length w) = omega arith in
    by_test (odds_in_bounds m (take w odds)) (grid_tried false m frame w n (offset + row_size false w) (behind_row w (grid_of odds stamps)))
    ∙ ap (λ (x : Answer (Unit {0})). and_then (sound_or offset (odds_in_bounds m (take w odds)) tt) (λ (t : Unit {0}). x))
    (ap (λ (j : ℕ). grid_tried false m frame w n j (behind_row w (grid_of odds stamps))) k ∙ closed_tried m frame w n (offset + field_size (row_length w)) (drop w odds) (drop w stamps))
  where
    by_test : (b : Bool) (next : Answer (Unit {0}))
        → and_then (and_then (sound_or offset b tt) (λ (t : Unit {0}). given tt)) (λ (t : Unit {0}). next) ≡ and_then (sound_or offset b tt) (λ (t : Unit {0}). next)
    by_test true next = refl
    by_test false next = refl

-- ---- open or closed
pub length-grid : (running : Bool) (w n : ℕ) (odds : List Float) (stamps : List ℕ) → n * w ≤ length odds → enough_stamps running (n * w) (length stamps)
    → length (grid_bytes running w n (grid_of odds stamps)) ≡ n * row_size running w
length-grid true w n odds stamps h k = let there = k refl in length_grid_bytes w n 0 odds stamps (omega arith) (omega arith)
length-grid false w n odds stamps h k =
    let e : field_size (row_length w) ≡ row_size false w = omega arith in
    ap length (closed_bytes w n odds stamps) ∙ length_rows_bytes w n 0 odds (omega arith) ∙ ap (λ (j : ℕ). n * j) e

-- two models of one ceiling try rows alike, whatever their pairs and cuts
pub grid_by_ceiling : (running : Bool) (m k : Model) → m.ceiling ≡ k.ceiling → (frame w n offset : ℕ) (g : Grid)
    → grid_tried running m frame w n offset g ≡ grid_tried running k frame w n offset g
unfolding grid_tried rows_tried
grid_by_ceiling running m k e frame w zero offset g = refl
grid_by_ceiling running m k e frame w (suc n) offset g =
    let stamps : Answer (Unit {0}) = cond running (sound_or (offset + field_size (row_length w)) (none_above frame (take w g.stamps)) tt) (given tt) in
    ap₂ (λ (b : Bool) (rest : Answer (Unit {0})). and_then (and_then (sound_or offset b tt) (λ (t : Unit {0}). stamps)) (λ (t : Unit {0}). rest))
    (odds_by_ceiling m k e (take w g.odds)) (grid_by_ceiling running m k e frame w n (offset + row_size running w) (behind_row w g))

-- ---- so many cells
-- as many rows as a list has numbers for, where it has one per cell
enough : (es : List ℕ) (w n count : ℕ) → Shape es w n → count ≡ cells es → n * w ≤ count
enough es w n count s e = let a = s.cells_are in let b = mul_comm n w in omega arith

enough_stamps_lem : (running : Bool) (es : List ℕ) (w n count : ℕ) → Shape es w n → (T running → count ≡ cells es) → enough_stamps running (n * w) count
enough_stamps_lem true es w n count s h e = enough es w n count s (h tt)
enough_stamps_lem false es w n count s h e = let z : ◌≡◌ {A = ℕ} 0 1 = cc in absurd (omega arith)

-- what writing needs of a head that has passed
pub record Ready (running : Bool) (h : Head) (w n odds stamps : ℕ) : Type 0 where
  pub extents : InBounds h.extents
  pub cuts : T (cuts_in_bounds h.extents h.model)
  pub there : n * w ≤ odds
  pub marked : enough_stamps running (n * w) stamps

pub ready : (running : Bool) (h : Head) (w n odds stamps : ℕ) → Shape h.extents w n → head_refusal (uses_of_writing running) h odds stamps ≡ none → Ready running h w n odds stamps
ready running h w n odds stamps s e =
    let p = passed (uses_of_writing running) h odds stamps e in
    record {
      extents = p.extents;
      cuts = p.cuts tt;
      there = enough h.extents w n odds s (p.odds_count tt);
      marked = enough_stamps_lem running h.extents w n stamps s p.stamps_count;
    }

-- cuts within their bounds are short
pub cuts-short : (e : Extents3) (b : Bands) → InBounds (extents3 e) → T (cuts_in_bounds (extents3 e) (bands_of e b)) → (b.cuts.first < 65_536) × (b.cuts.second < 65_536)
unfolding cuts_in_bounds cuts_below last_extent rising
cuts-short e b bounds t =
    let most = bounds.0.2.2.1 in
    let above = and_r (ltb 0 b.cuts.first) _ t in
    let one = ltb→lt b.cuts.first b.cuts.second (and_l (ltb b.cuts.first b.cuts.second) _ above) in
    let two = ltb→lt b.cuts.second e.z (and_r (ltb b.cuts.first b.cuts.second) (ltb b.cuts.second e.z) above) in
    (omega arith, omega arith)

-- the bytes of all rows can be counted
pub countable : (running : Bool) (es : List ℕ) (w n : ℕ) → Shape es w n → InBounds es → 0 < w → n * row_size running w ≤ 18 * most_cells
countable running es w n s b p =
    let odds = small es w n s b p in
    let both = mul-add n (field_size (row_length w)) (cond running (field_size (stamps_length w)) 0) in
    let stamps = go running in
    omega arith
  where
    go : (r : Bool) → n * cond r (field_size (stamps_length w)) 0 ≤ 7 * most_cells
    go false = omega arith
    go true =
        let most = few es w n s b in
        let a = mul-add n head_size (stamps_length w) in
        let b = mul_left_comm n word_size w in
        let c = mul_comm n w in
        let d = le-mul_of_pos_right n p in
        omega arith

-- where the rows stand too
pub bands_few : (axes : ℕ) → bands_size (cuts_for axes) ≤ 88
unfolding bands_size cuts_for
bands_few axes = go (eqb axes 3)
  where
    go : (three : Bool) → bands_size (cond three 2 0) ≤ 88
    go true = omega arith
    go false = omega arith
