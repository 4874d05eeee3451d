-- A part of a record that is read as a field is, handed what follows it: what breaks it, what it has, and how many
-- bytes. So many of one kind, one after another, are such a part. Assumes nothing.
use Prim.Native.Nat.{ℕ, zero, suc, ◌+◌, ◌*◌, ◌≤◌}
use mathlib.Core.List.{List, [], ◌∷◌}
use mathlib.Core.Option.{Option, some, none}
use mathlib.Core.Path.{◌≡◌, refl, ap, ap₂, ◌∙◌}
use native.Mathlib.Nat.{zero-mul, suc-mul}
use native.Mathlib.Omega.{arith}
use lib.ListN.{length, length-drop, drop}
use lib.Seq.{drop-drop}
use Rattle.rules.specs.RefusalNumbers.{Refusal, Answer}
use Rattle.rules.specs.RefusalNumbers.Entries.{or_else}
use Rattle.rules.specs.Fields.{field_size, Field, contents, sound_here, Reading, field_then, rows_then}
use Rattle.fields.proofs.Bytes.{both_l, whole}
use Rattle.rows.specs.Rows.{refusal_in, field_broken, rows_broken, rows_have}
use Rattle.rows.proofs.Answers.{sound_first, sound_else, none_first, none_next, field_refusal, field-on}

-- the first of three refusals
pub or_else_lem : (x y z : Option Refusal) → or_else x (or_else y z) ≡ or_else (or_else x y) z
or_else_lem none y z = refl
or_else_lem (some r) y z = refl

module _ {A B : Type 0} (read : (A → Reading B) → Reading B) (broken : ℕ → List ℕ → Option Refusal) (has : List ℕ → A) (size : ℕ) where
  -- what follows it
  abbrev pub after : (A → Reading B) → ℕ → List ℕ → Answer B
  after next offset rest = next (has rest) (offset + size) (drop size rest)

  pub record IsPart : Type 0 where
    -- refused by the part, or by what follows it
    pub refusal : (next : A → Reading B) (offset : ℕ) (rest : List ℕ) → refusal_in (read next offset rest) ≡ or_else (broken offset rest) (refusal_in (after next offset rest))
    -- where it is not broken, it is left to what follows, and its bytes are there
    pub on : (next : A → Reading B) (offset : ℕ) (rest : List ℕ) → broken offset rest ≡ none → read next offset rest ≡ after next offset rest
    pub room : (offset : ℕ) (rest : List ℕ) → broken offset rest ≡ none → size ≤ length rest

-- ---- a field
pub field_part : {A B : Type 0} (f : Field A) → IsPart {B = B} (field_then f) (field_broken f) (contents f) (field_size f.size)
field_part f =
    record {
      refusal = λ next offset rest. field_refusal f next offset rest ∙ sound_else offset (sound_here f rest) none _;
      on = λ next offset rest e. field-on f next offset rest (sound_first offset (sound_here f rest) none e);
      room = λ offset rest e. whole f.tag f.size rest (both_l _ _ (sound_first offset (sound_here f rest) none e));
    }

-- ---- so many rows
module _ {A B : Type 0} (row : (A → Reading B) → Reading B) (broken : ℕ → List ℕ → Option Refusal) (has : List ℕ → A) (size : ℕ) (p : IsPart row broken has size) where
  abbrev behind : ℕ → (List A → Reading B) → ℕ → List ℕ → Answer B
  behind n = after (rows_then row n) (rows_broken broken size n) (rows_have has size n) (n * size)

  behind-none : (next : List A → Reading B) (offset : ℕ) (rest : List ℕ) → next [] offset rest ≡ behind 0 next offset rest
  unfolding rows_have
  behind-none next offset rest = let k : offset + 0 * size ≡ offset = omega (arith, zero-mul size) in rw (k, zero-mul size) refl

  behind_more : (n : ℕ) (next : List A → Reading B) (offset : ℕ) (rest : List ℕ)
      → behind n (λ xs. next (has rest ∷ xs)) (offset + size) (drop size rest) ≡ behind (suc n) next offset rest
  unfolding rows_have
  behind_more n next offset rest =
      let k : offset + size + n * size ≡ offset + suc n * size = omega (arith, suc-mul n size) in
      let j : size + n * size ≡ suc n * size = omega (arith, suc-mul n size) in
      ap₂ (next (has rest ∷ rows_have has size n (drop size rest))) k (drop-drop (n * size) size rest ∙ ap (λ (at : ℕ). drop at rest) j)

  rows_refusal_lem : (n : ℕ) (next : List A → Reading B) (offset : ℕ) (rest : List ℕ)
      → refusal_in (rows_then row n next offset rest) ≡ or_else (rows_broken broken size n offset rest) (refusal_in (behind n next offset rest))
  unfolding rows_then rows_broken
  rows_refusal_lem zero next offset rest = ap refusal_in (behind-none next offset rest)
  rows_refusal_lem (suc n) next offset rest =
      p.refusal (λ a. rows_then row n (λ xs. next (a ∷ xs))) offset rest
      ∙ ap (or_else (broken offset rest))
      (rows_refusal_lem n (λ xs. next (has rest ∷ xs)) (offset + size) (drop size rest)
      ∙ ap (λ (x : Answer B). or_else (rows_broken broken size n (offset + size) (drop size rest)) (refusal_in x)) (behind_more n next offset rest))
      ∙ or_else_lem (broken offset rest) _ _

  rows_on : (n : ℕ) (next : List A → Reading B) (offset : ℕ) (rest : List ℕ) → rows_broken broken size n offset rest ≡ none → rows_then row n next offset rest ≡ behind n next offset rest
  unfolding rows_then rows_broken
  rows_on zero next offset rest e = behind-none next offset rest
  rows_on (suc n) next offset rest e =
      p.on (λ a. rows_then row n (λ xs. next (a ∷ xs))) offset rest (none_first (broken offset rest) _ e)
      ∙ rows_on n (λ xs. next (has rest ∷ xs)) (offset + size) (drop size rest) (none_next (broken offset rest) _ e)
      ∙ behind_more n next offset rest

  rows_room : (n offset : ℕ) (rest : List ℕ) → rows_broken broken size n offset rest ≡ none → n * size ≤ length rest
  unfolding rows_broken
  rows_room zero offset rest e = omega (arith, zero-mul size)
  rows_room (suc n) offset rest e =
      let here = p.room offset rest (none_first (broken offset rest) _ e) in
      let more = rows_room n (offset + size) (drop size rest) (none_next (broken offset rest) _ e) in
      omega (arith, length-drop size rest, suc-mul n size)

  pub rows_part_lem : (n : ℕ) → IsPart (rows_then row n) (rows_broken broken size n) (rows_have has size n) (n * size)
  rows_part_lem n = record { refusal = rows_refusal_lem n; on = rows_on n; room = rows_room n }
