-- The rows of a record tried: their refusal one step at a time, and what a record's reading is where they are passed.
-- Assumes nothing.
use Prim.Native.Nat.{ℕ, zero, suc, ◌+◌, ◌-◌, ◌*◌, ◌≤◌, ◌<◌}
use mathlib.Core.List.{List, ◌++◌}
use mathlib.Core.Option.{none}
use mathlib.Core.Path.{◌≡◌, refl, ap, ap₂, ◌∙◌}
use native.Mathlib.Nat.{zero-mul, suc-mul}
use native.Mathlib.Omega.{arith}
use lib.Ieee.{Float}
use lib.ListN.{length, length-drop, drop}
use lib.Seq.{drop-drop}
use Rattle.rules.specs.RefusalNumbers.{Answer}
use Rattle.rules.specs.RefusalNumbers.Entries.{or_else}
use Rattle.rules.specs.TheGridAndItsBounds.{Model}
use Rattle.rules.specs.Fields.{floats_in, head_size, field_size, sound_here, Reading, rows_then}
use Rattle.rules.specs.MapRecord.{row_tag, row_length, row_field, joined, odds_then}
use Rattle.fields.proofs.Bytes.{both_l, whole}
use Rattle.rows.specs.Rows.{refusal_in, unless_sound, odds_at, rows_refusal}
use Rattle.rows.proofs.Answers.{sound_first, sound_next, sound_else, field_refusal, field-on}

module _ (m : Model) (w : ℕ) where
  abbrev size : ℕ
  size = field_size (row_length w)

  -- the first of the rows that are left, and those after it
  pub rows_left : (n i at : ℕ) (bs : List ℕ) → i < n
      → rows_refusal m w (n - i) at (drop at bs)
      ≡ unless_sound at (sound_here (row_field m w) (drop at bs))
      (rows_refusal m w (n - (i + 1)) (at + field_size (row_length w)) (drop (at + field_size (row_length w)) bs))
  unfolding rows_refusal
  rows_left n i at bs h = let e : n - i ≡ suc (n - (i + 1)) = omega arith in rw (e, drop-drop (field_size (row_length w)) at bs) refl

  -- the bytes that rows which are passed take
  pub rows_room : (n offset : ℕ) (rest : List ℕ) → rows_refusal m w n offset rest ≡ none → n * field_size (row_length w) ≤ length rest
  unfolding rows_refusal
  rows_room zero offset rest e = omega (arith, zero-mul size)
  rows_room (suc n) offset rest e =
      let sound = sound_first offset (sound_here (row_field m w) rest) _ e in
      let more = rows_room n (offset + size) (drop size rest) (sound_next offset (sound_here (row_field m w) rest) _ e) in
      let here = whole row_tag (row_length w) rest (both_l _ _ sound) in
      omega (arith, length-drop size rest, suc-mul n size)

  module _ {B : Type 0} where
    -- what follows so many rows
    abbrev behind : ℕ → (List Float → Reading B) → ℕ → List ℕ → Answer B
    behind n next offset rest = next (odds_at w n rest) (offset + n * field_size (row_length w)) (drop (n * field_size (row_length w)) rest)

    behind-none : (next : List Float → Reading B) (offset : ℕ) (rest : List ℕ) → next (odds_at w 0 rest) offset rest ≡ behind 0 next offset rest
    behind-none next offset rest = let k : offset + 0 * size ≡ offset = omega (arith, zero-mul size) in rw (k, zero-mul size) refl

    behind_more : (n : ℕ) (next : List Float → Reading B) (offset : ℕ) (rest : List ℕ)
        → behind n (λ ys. next (floats_in w (drop head_size rest) ++ ys)) (offset + size) (drop size rest) ≡ behind (suc n) next offset rest
    unfolding odds_at
    behind_more n next offset rest =
        let k : offset + size + n * size ≡ offset + suc n * size = omega (arith, suc-mul n size) in
        let j : size + n * size ≡ suc n * size = omega (arith, suc-mul n size) in
        ap₂ (next (odds_at w (suc n) rest)) k (drop-drop (n * size) size rest ∙ ap (λ (at : ℕ). drop at rest) j)

    -- refused by the rows, or by what follows them
    pub odds_refusal : (n : ℕ) (next : List Float → Reading B) (offset : ℕ) (rest : List ℕ)
        → refusal_in (odds_then m w n next offset rest)
        ≡ or_else (rows_refusal m w n offset rest)
        (refusal_in (next (odds_at w n rest) (offset + n * field_size (row_length w)) (drop (n * field_size (row_length w)) rest)))
    unfolding odds_then rows_then joined rows_refusal odds_at
    odds_refusal zero next offset rest = ap refusal_in (behind-none next offset rest)
    odds_refusal (suc n) next offset rest =
        field_refusal (row_field m w) (λ xs. odds_then m w n (λ ys. next (xs ++ ys))) offset rest
        ∙ ap (unless_sound offset (sound_here (row_field m w) rest))
        (odds_refusal n (λ ys. next (floats_in w (drop head_size rest) ++ ys)) (offset + size) (drop size rest)
        ∙ ap (λ (x : Answer B). or_else (rows_refusal m w n (offset + size) (drop size rest)) (refusal_in x)) (behind_more n next offset rest))
        ∙ sound_else offset (sound_here (row_field m w) rest) _ _

    -- rows that are passed leave it to what follows them
    pub odds-on : (n : ℕ) (next : List Float → Reading B) (offset : ℕ) (rest : List ℕ) → rows_refusal m w n offset rest ≡ none
        → odds_then m w n next offset rest ≡ next (odds_at w n rest) (offset + n * field_size (row_length w)) (drop (n * field_size (row_length w)) rest)
    unfolding odds_then rows_then joined rows_refusal odds_at
    odds-on zero next offset rest e = behind-none next offset rest
    odds-on (suc n) next offset rest e =
        field-on (row_field m w) (λ xs. odds_then m w n (λ ys. next (xs ++ ys))) offset rest (sound_first offset (sound_here (row_field m w) rest) _ e)
        ∙ odds-on n (λ ys. next (floats_in w (drop head_size rest) ++ ys)) (offset + size) (drop size rest)
        (sound_next offset (sound_here (row_field m w) rest) _ e)
        ∙ behind_more n next offset rest
