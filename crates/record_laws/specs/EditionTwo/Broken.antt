-- A record of edition 2 that is refused: where it is broken. Assumes nothing.
use Rattle.std.specs.Prelude.{ℕ, zero, suc, Bool, true, false, List, [], ◌≡◌, refl}
use Rattle.rules.specs.RefusalNumbers.{Refusal, refused}
use Rattle.rules.specs.TheGridAndItsBounds.{Model}
use Rattle.rules.specs.Fields.{field_then}
use Rattle.rules.specs.MapRecord.{extents_field, model_field, frame_field, row_field, row_width, row_count}
use Rattle.rules.specs.EditionTwo.{edition_field, pair_field, cuts_field, stamps_field, open_field, marks_running, cuts_for, bands_then, row_then, rows_and_end, edition_of}
use Rattle.record_laws.specs.Words.{first}
use Rattle.record_laws.specs.Fields.{BrokenAt}
use Rattle.record_laws.specs.Rows.{end-broken}
use Rattle.record_laws.specs.EditionTwo.Parts.{Breaks, field_breaks, parts-broken}

module _ {B : Type 0} (bytes : List ℕ) (r : Refusal) where
  bands_breaks : (n : ℕ) (es : List ℕ) → Breaks {B = B} bytes r (bands_then n es)
  bands_breaks zero es next o rest p e later = field_breaks bytes r model_field next o rest p e later
  bands_breaks (suc n) es next o rest p e later =
      field_breaks bytes r model_field _ o rest p e
      (λ m at left q f. parts-broken bytes r (field_then (pair_field m.ceiling)) (field_breaks bytes r (pair_field m.ceiling)) (suc n) _ at left q f
      (λ ms to behind s g. field_breaks bytes r (cuts_field (suc n) es m ms) next to behind s g later))

  row_breaks : (running : Bool) (m : Model) (frame width : ℕ) → Breaks {B = B} bytes r (row_then running m frame width)
  row_breaks false m frame width next o rest p e later =
      field_breaks bytes r (row_field m width) _ o rest p e (λ odds at left q f. later (record { odds = odds; stamps = [] }) at left q f)
  row_breaks true m frame width next o rest p e later =
      field_breaks bytes r (row_field m width) _ o rest p e
      (λ odds at left q f. field_breaks bytes r (stamps_field frame width) _ at left q f
      (λ stamps to behind s g. later (record { odds = odds; stamps = stamps }) to behind s g))

-- Bytes that are no record of edition 2 are refused with number 10 at an offset where a field begins.
pub edition-broken : (axes : ℕ) (bytes : List ℕ) (r : Refusal) → edition_of axes bytes ≡ refused r → BrokenAt bytes r
unfolding edition_of rows_and_end
edition-broken axes bytes r e =
    field_breaks bytes r edition_field _ 0 bytes (record { begins = first; is = refl }) e
    (λ edition at₁ left₁ p₁ e₁. field_breaks bytes r (extents_field axes) _ at₁ left₁ p₁ e₁
    (λ es at₂ left₂ p₂ e₂. bands_breaks bytes r (cuts_for axes) es _ at₂ left₂ p₂ e₂
    (λ m at₃ left₃ p₃ e₃. field_breaks bytes r frame_field _ at₃ left₃ p₃ e₃
    (λ frame at₄ left₄ p₄ e₄. field_breaks bytes r open_field _ at₄ left₄ p₄ e₄
    (λ mark at₅ left₅ p₅ e₅. parts-broken bytes r (row_then (marks_running mark) m frame (row_width es)) (row_breaks bytes r (marks_running mark) m frame (row_width es))
    (row_count es) _ at₅ left₅ p₅ e₅
    (λ gs at₆ left₆ p₆ e₆. end-broken bytes _ at₆ left₆ r p₆ e₆))))))
