-- The pairs and the cuts of edition 2 as one part of the record, of any number of cuts. Assumes nothing.
use Prim.Native.Nat.{ℕ, zero, suc, ◌+◌, ◌*◌, ◌≤◌}
use mathlib.Core.List.{List}
use mathlib.Core.Option.{none}
use mathlib.Core.Path.{◌≡◌, ap, ap₂, ◌∙◌}
use native.Mathlib.Omega.{arith}
use lib.ListN.{length, length-drop, drop}
use lib.Seq.{drop-drop}
use Rattle.rules.specs.RefusalNumbers.{Answer}
use Rattle.rules.specs.RefusalNumbers.Entries.{or_else}
use Rattle.rules.specs.TheGridAndItsBounds.{Model}
use Rattle.rules.specs.Fields.{field_size, Field, contents, Reading, field_then, rows_then}
use Rattle.rules.specs.MapRecord.{model_length, model_field}
use Rattle.rules.specs.EditionTwo.{pair_field, cuts_length, cuts_field, bands_then, bands_size}
use Rattle.rows.specs.Rows.{refusal_in, field_broken, rows_broken, rows_have}
use Rattle.rows.proofs.Answers.{none_first, none_next}
use Rattle.rows.proofs.Parts.{IsPart, or_else_lem, field_part, rows_part_lem}
use Rattle.edition_reader.specs.Editions.{pairs_broken, pairs_here, cuts_at, cuts_broken, bands_broken, bands_here}

module _ {B : Type 0} (n : ℕ) (es : List ℕ) (next : Model → Reading B) (offset : ℕ) (rest : List ℕ) where
  abbrev size : ℕ
  size = field_size model_length

  abbrev low : Model
  low = contents model_field rest

  abbrev cuts : Field Model
  cuts = cuts_field (suc n) es low (pairs_here (suc n) rest)

  -- the pairs after the first, as a part
  abbrev pairs : IsPart {B = B} (rows_then (field_then (pair_field low.ceiling)) (suc n)) (rows_broken (field_broken (pair_field low.ceiling)) size (suc n))
      (rows_have (contents (pair_field low.ceiling)) size (suc n)) (suc n * size)
  pairs = rows_part_lem (field_then (pair_field low.ceiling)) (field_broken (pair_field low.ceiling)) (contents (pair_field low.ceiling)) size (field_part (pair_field low.ceiling)) (suc n)

  -- from the cuts' field on, as the parts before it count
  abbrev counted : Answer B
  counted = field_then cuts next (offset + size + suc n * size) (drop (suc n * size) (drop size rest))

  abbrev here : Answer B
  here = field_then cuts next (offset + cuts_at (suc n)) (drop (cuts_at (suc n)) rest)

  abbrev behind : Answer B
  behind = next (bands_here (suc n) es rest) (offset + bands_size (suc n)) (drop (bands_size (suc n)) rest)

  counted_here : counted ≡ here
  counted_here =
      let k : offset + size + suc n * size ≡ offset + cuts_at (suc n) = omega arith in
      ap₂ (field_then cuts next) k (drop-drop (suc n * size) size rest)

  on-behind : next (contents cuts (drop (cuts_at (suc n)) rest)) (offset + cuts_at (suc n) + field_size (cuts_length (suc n))) (drop (field_size (cuts_length (suc n))) (drop (cuts_at (suc n)) rest)) ≡ behind
  unfolding bands_here bands_size
  on-behind =
      let k : offset + cuts_at (suc n) + field_size (cuts_length (suc n)) ≡ offset + bands_size (suc n) = omega arith in
      ap₂ (next (bands_here (suc n) es rest)) k (drop-drop (field_size (cuts_length (suc n))) (cuts_at (suc n)) rest)

  bands_refusal : refusal_in (bands_then (suc n) es next offset rest) ≡ or_else (bands_broken (suc n) es offset rest) (refusal_in behind)
  unfolding bands_broken
  bands_refusal =
      (field_part model_field).refusal (λ m. rows_then (field_then (pair_field m.ceiling)) (suc n) (λ ms. field_then (cuts_field (suc n) es m ms) next)) offset rest
      ∙ ap (or_else (field_broken model_field offset rest))
      (pairs.refusal (λ ms. field_then (cuts_field (suc n) es low ms) next) (offset + size) (drop size rest)
      ∙ ap (or_else (pairs_broken (suc n) offset rest))
      (ap refusal_in counted_here ∙ (field_part cuts).refusal next (offset + cuts_at (suc n)) (drop (cuts_at (suc n)) rest)
      ∙ ap (λ (x : Answer B). or_else (cuts_broken (suc n) es offset rest) (refusal_in x)) on-behind)
      ∙ or_else_lem (pairs_broken (suc n) offset rest) (cuts_broken (suc n) es offset rest) (refusal_in behind))
      ∙ or_else_lem (field_broken model_field offset rest) _ (refusal_in behind)

  module _ (e : bands_broken (suc n) es offset rest ≡ none) where
    first : field_broken model_field offset rest ≡ none
    unfolding bands_broken
    first = none_first (field_broken model_field offset rest) _ e

    later : or_else (pairs_broken (suc n) offset rest) (cuts_broken (suc n) es offset rest) ≡ none
    unfolding bands_broken
    later = none_next (field_broken model_field offset rest) _ e

    last : cuts_broken (suc n) es offset rest ≡ none
    last = none_next (pairs_broken (suc n) offset rest) _ later

    bands-on : bands_then (suc n) es next offset rest ≡ behind
    bands-on =
        (field_part model_field).on (λ m. rows_then (field_then (pair_field m.ceiling)) (suc n) (λ ms. field_then (cuts_field (suc n) es m ms) next)) offset rest first
        ∙ pairs.on (λ ms. field_then (cuts_field (suc n) es low ms) next) (offset + size) (drop size rest) (none_first (pairs_broken (suc n) offset rest) _ later)
        ∙ counted_here ∙ (field_part cuts).on next (offset + cuts_at (suc n)) (drop (cuts_at (suc n)) rest) last ∙ on-behind

    bands-room : bands_size (suc n) ≤ length rest
    unfolding bands_size
    bands-room =
        let r = (field_part {B = B} cuts).room (offset + cuts_at (suc n)) (drop (cuts_at (suc n)) rest) last in
        omega (arith, length-drop (cuts_at (suc n)) rest)

pub bands_part : {B : Type 0} (n : ℕ) (es : List ℕ) → IsPart {B = B} (bands_then n es) (bands_broken n es) (bands_here n es) (bands_size n)
unfolding bands_broken bands_here bands_size
bands_part zero es = field_part model_field
bands_part {B} (suc n) es =
    record {
      refusal = bands_refusal n es;
      on = bands-on n es;
      room = λ offset rest e. bands-room {B = B} n es (λ m at left. Rattle.rules.specs.RefusalNumbers.refused (record { number = 0; values = mathlib.Core.List.[] })) offset rest e;
    }
