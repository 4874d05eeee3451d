-- A record's refusal field by field, and what a record that is not refused holds. Over any number of axes. Assumes
-- nothing.
use Prim.Native.Nat.{ℕ, suc, ◌+◌, ◌-◌, ◌*◌, ◌≤◌}
use mathlib.Core.Bool.{Bool, true, false, cond, ◌&&◌}
use mathlib.Core.List.{List, [], ◌∷◌}
use mathlib.Core.Option.{Option, some, none}
use mathlib.Core.Path.{◌≡◌, refl, sym, ap, ◌∙◌}
use native.Mathlib.Nat.{zero-add}
use native.Mathlib.Omega.{arith}
use lib.Dec.{ltb, leb, eqb}
use lib.ListN.{length, length-drop, drop}
use borrow.Author.Tests.{leb-true, leb-false, ltb-false, le-ltb, eq-eqb, ne_eqb}
use Rattle.rules.specs.RefusalNumbers.{Refusal, given, broken_record, dimension_too_small, capacity_overflow}
use Rattle.rules.specs.RefusalNumbers.Entries.{first_too_small, or_else, extents_refusal}
use Rattle.rules.specs.TheGridAndItsBounds.{Model, least_extent, all_at_least, fits_capacity, extents_in_bounds}
use Rattle.rules.specs.Fields.{field_size, field_here, contents, sound_here, sound_or, nothing_follows}
use Rattle.rules.specs.MapRecord.{extents_tag, extents_length, extents_field, model_length, model_field, frame_tag, frame_length, frame_field, row_length}
use Rattle.rules.specs.MapRecord.{end_tag, end_length, end_field, row_width, row_count, rows_offset, end_then, record_of}
use Rattle.laws.specs.Checks.{InBounds, extents_passed}
use Rattle.std.specs.Prelude.{Result, Ok, Err}
use Rattle.std.specs.Result.{is_ok}
use Rattle.types.specs.declared.refusal.Refusal as Code
use Rattle.types.specs.Refusals.{refusal_of}
use Rattle.checks.specs.Checking.{check_of}
use Rattle.rows.specs.Rows.{refusal_in, unless_sound, rows_refusal}
use Rattle.rows.proofs.Answers.{sound_first, sound_next, none_first, none_next, field_refusal, field-on}
use Rattle.rows.proofs.Tried.{rows_room, odds_refusal, odds-on}
use Rattle.fields.proofs.Bytes.{both_l, both_r, whole}
use Rattle.record_reader.specs.Reading.{end_refusal, rows_and_end, after_extents, extents_here, stored_in}

-- ---- the end
end_is : {B : Type 0} (b : B) (offset : ℕ) (rest : List ℕ)
    → refusal_in (end_then b offset rest)
    ≡ unless_sound offset (sound_here end_field rest)
    (refusal_in (sound_or {A = B} (offset + field_size end_length) (eqb (length (drop (field_size end_length) rest)) 0) b))
unfolding nothing_follows
end_is b offset rest = field_refusal end_field (λ (t : Unit {0}). nothing_follows b) offset rest

-- whatever is given at the end, the end is refused alike
alike : {B : Type 0} (b : B) (offset : ℕ) (x : Bool) → refusal_in (sound_or offset x b) ≡ refusal_in (sound_or {A = Unit {0}} offset x tt)
alike b offset true = refl
alike b offset false = refl

pub end_refusal_lem : {B : Type 0} (b : B) (offset : ℕ) (rest : List ℕ) → refusal_in (end_then b offset rest) ≡ end_refusal offset rest
end_refusal_lem b offset rest =
    end_is b offset rest
    ∙ ap (unless_sound offset (sound_here end_field rest)) (alike b (offset + field_size end_length) (eqb (length (drop (field_size end_length) rest)) 0))
    ∙ sym (end_is {B = Unit {0}} tt offset rest)

pub end_on : {B : Type 0} (b : B) (offset : ℕ) (rest : List ℕ) → end_refusal offset rest ≡ none → end_then b offset rest ≡ given b
unfolding nothing_follows
end_on b offset rest e =
    let left = sym (end_is {B = Unit {0}} tt offset rest) ∙ e in
    field-on end_field (λ (t : Unit {0}). nothing_follows b) offset rest (sound_first offset (sound_here end_field rest) _ left)
    ∙ go (eqb (length (drop (field_size end_length) rest)) 0) (sound_next offset (sound_here end_field rest) _ left)
  where
    go : (x : Bool) → refusal_in (sound_or {A = Unit {0}} (offset + field_size end_length) x tt) ≡ none → sound_or (offset + field_size end_length) x b ≡ given b
    go true h = refl
    go false h = let z : ◌≡◌ {A = ℕ} 0 1 = cc in absurd (omega arith)

module _ (at : ℕ) (bs : List ℕ) where
  pub end_absent : field_here end_tag end_length (drop at bs) ≡ false → end_refusal at (drop at bs) ≡ some (broken_record at)
  end_absent e = end_is {B = Unit {0}} tt at (drop at bs) ∙ rw e refl

  pub end_followed : field_here end_tag end_length (drop at bs) ≡ true → (length bs - at ≡ field_size end_length → ⊥)
      → end_refusal at (drop at bs) ≡ some (broken_record (at + field_size end_length))
  end_followed e h =
      let w = whole end_tag end_length (drop at bs) e in
      let l = length-drop at bs in
      let k = length-drop (field_size end_length) (drop at bs) in
      end_is {B = Unit {0}} tt at (drop at bs) ∙ rw (e, ne_eqb (length (drop (field_size end_length) (drop at bs))) 0 (λ none. h (omega arith))) refl

  pub end_sound : field_here end_tag end_length (drop at bs) ≡ true → length bs - at ≡ field_size end_length → end_refusal at (drop at bs) ≡ none
  end_sound e h =
      let l = length-drop at bs in
      let k = length-drop (field_size end_length) (drop at bs) in
      end_is {B = Unit {0}} tt at (drop at bs) ∙ rw (e, eq-eqb (length (drop (field_size end_length) (drop at bs))) 0 (omega arith)) refl

-- ---- extents: within the bounds where nothing of theirs is refused, and nowhere else
refused_or : (k : ℕ) (es : List ℕ) (next : Option Refusal) → all_at_least least_extent es ≡ false → or_else (first_too_small k es) next ≡ none → ⊥
unfolding all_at_least first_too_small
refused_or k [] next e h = let z : ◌≡◌ {A = ℕ} 0 1 = cc in omega arith
refused_or k (x ∷ es) next e h = go (ltb x least_extent) (leb least_extent x) refl refl (refused_or (suc k) es next) e h
  where
    go : (a b : Bool) → ltb x least_extent ≡ a → leb least_extent x ≡ b
        → (all_at_least least_extent es ≡ false → or_else (first_too_small (suc k) es) next ≡ none → ⊥)
        → (b && all_at_least least_extent es) ≡ false
        → or_else (cond a (some (dimension_too_small k x)) (first_too_small (suc k) es)) next ≡ none → ⊥
    go true b p q ih f g = let z : ◌≡◌ {A = ℕ} 0 1 = cc in omega arith
    go false true p q ih f g = ih f g
    go false false p q ih f g = let l = ltb-false x least_extent p in let r = leb-false least_extent x q in omega arith

all_at_least_lem : (k : ℕ) (es : List ℕ) → all_at_least least_extent es ≡ true → first_too_small k es ≡ none
unfolding all_at_least first_too_small
all_at_least_lem k [] e = refl
all_at_least_lem k (x ∷ es) e =
    let least = leb-true least_extent x (both_l (leb least_extent x) (all_at_least least_extent es) e) in
    rw (le-ltb x least_extent least) (all_at_least_lem (suc k) es (both_r (leb least_extent x) (all_at_least least_extent es) e))

-- passed: the extents are within the bounds
extents_sound : (es : List ℕ) → extents_refusal es ≡ none → extents_in_bounds es ≡ true
unfolding extents_refusal extents_in_bounds
extents_sound es e = go (all_at_least least_extent es) (fits_capacity es) refl refl
  where
    go : (a b : Bool) → all_at_least least_extent es ≡ a → fits_capacity es ≡ b → (all_at_least least_extent es && fits_capacity es) ≡ true
    go true true p q = rw (p, q) refl
    go true false p q =
        let z : some capacity_overflow ≡ none = rw (all_at_least_lem 0 es p, q) at e in
        let y : ◌≡◌ {A = ℕ} 0 1 = cc in absurd (omega arith)
    go false b p q = absurd (refused_or 0 es _ p e)

pub extents_in_bounds_lem : (es : List ℕ) → extents_in_bounds es ≡ true → InBounds es
unfolding extents_refusal extents_in_bounds
extents_in_bounds_lem es e =
    let least = both_l (all_at_least least_extent es) (fits_capacity es) e in
    let fits = both_r (all_at_least least_extent es) (fits_capacity es) e in
    extents_passed es (rw (all_at_least_lem 0 es least, fits) refl)

-- refused: they are not
extents_broken : (es : List ℕ) (r : Refusal) → extents_refusal es ≡ some r → extents_in_bounds es ≡ false
unfolding extents_refusal extents_in_bounds
extents_broken es r e = go (all_at_least least_extent es) (fits_capacity es) refl refl
  where
    go : (a b : Bool) → all_at_least least_extent es ≡ a → fits_capacity es ≡ b → (all_at_least least_extent es && fits_capacity es) ≡ false
    go true true p q =
        let z : none ≡ some r = rw (all_at_least_lem 0 es p, q) at e in
        let y : ◌≡◌ {A = ℕ} 0 1 = cc in absurd (omega arith)
    go true false p q = rw (p, q) refl
    go false b p q = rw p refl

-- the field by what trying its extents says
module _ (axes : ℕ) (rest : List ℕ) (here : field_here extents_tag (extents_length axes) rest ≡ true) (es : List ℕ) (is : es ≡ extents_here axes rest) where
  field_sound : none ≡ extents_refusal es → true ≡ sound_here (extents_field axes) rest
  field_sound e = sym (rw here (ap extents_in_bounds (sym is) ∙ extents_sound es (sym e)))

  field_unsound : (r : Refusal) → some r ≡ extents_refusal es → false ≡ sound_here (extents_field axes) rest
  field_unsound r e = sym (rw here (ap extents_in_bounds (sym is) ∙ extents_broken es r (sym e)))

  pub field_tried : (r : Result (Unit {0}) Code.Refusal) → check_of r ≡ extents_refusal es → is_ok r ≡ sound_here (extents_field axes) rest
  field_tried (Ok t) e = field_sound e
  field_tried (Err r) e = field_unsound (refusal_of r) e

-- a field that is sound has extents within the bounds
pub in_bounds : (axes : ℕ) (rest es : List ℕ) → es ≡ extents_here axes rest → sound_here (extents_field axes) rest ≡ true → InBounds es
in_bounds axes rest es is e =
    extents_in_bounds_lem es (ap extents_in_bounds is ∙ both_r (field_here extents_tag (extents_length axes) rest) (extents_in_bounds (extents_here axes rest)) e)

-- ---- the record
module _ (axes : ℕ) (bytes : List ℕ) where
  pub record_refusal : refusal_in (record_of axes bytes)
      ≡ unless_sound 0 (sound_here (extents_field axes) bytes)
      (after_extents (row_width (extents_here axes bytes)) (row_count (extents_here axes bytes)) (field_size (extents_length axes)) (drop (field_size (extents_length axes)) bytes))
  unfolding record_of after_extents rows_and_end
  record_refusal =
      let start : ℕ = field_size (extents_length axes) in
      let model : List ℕ = drop start bytes in
      let frame : List ℕ = drop (field_size model_length) model in
      let es : List ℕ = extents_here axes bytes in
      field_refusal (extents_field axes) _ 0 bytes
      ∙ ap (unless_sound 0 (sound_here (extents_field axes) bytes))
      (rw (zero-add start)
      (field_refusal model_field _ start model
      ∙ ap (unless_sound start (sound_here model_field model))
      (field_refusal frame_field _ (start + field_size model_length) frame
      ∙ ap (unless_sound (start + field_size model_length) (sound_here frame_field frame))
      (odds_refusal (contents model_field model) (row_width es) (row_count es) _ (start + field_size model_length + field_size frame_length) (drop (field_size frame_length) frame)
      ∙ ap (or_else (rows_refusal (contents model_field model) (row_width es) (row_count es) (start + field_size model_length + field_size frame_length) (drop (field_size frame_length) frame)))
      (end_refusal_lem _ _ _)))))

  -- what is known of a record that is not refused
  pub record Sound : Type 0 where
    pub extents : InBounds (extents_here axes bytes)
    pub rows : rows_offset axes + row_count (extents_here axes bytes) * field_size (row_length (row_width (extents_here axes bytes))) ≤ length bytes
    pub is : record_of axes bytes ≡ given (stored_in axes bytes)

  pub sound : refusal_in (record_of axes bytes) ≡ none → Sound
  unfolding record_of after_extents rows_and_end stored_in rows_offset
  sound h =
      let start : ℕ = field_size (extents_length axes) in
      let model : List ℕ = drop start bytes in
      let frame : List ℕ = drop (field_size model_length) model in
      let rows : List ℕ = drop (field_size frame_length) frame in
      let es : List ℕ = extents_here axes bytes in
      let m : Model = contents model_field model in
      let e₁ = sym record_refusal ∙ h in
      let first = sound_first 0 (sound_here (extents_field axes) bytes) _ e₁ in
      let e₂ = sound_next 0 (sound_here (extents_field axes) bytes) _ e₁ in
      let second = sound_first start (sound_here model_field model) _ e₂ in
      let e₃ = sound_next start (sound_here model_field model) _ e₂ in
      let third = sound_first (start + field_size model_length) (sound_here frame_field frame) _ e₃ in
      let e₄ = sound_next (start + field_size model_length) (sound_here frame_field frame) _ e₃ in
      let passed = none_first (rows_refusal m (row_width es) (row_count es) (start + field_size model_length + field_size frame_length) rows) _ e₄ in
      let last = none_next (rows_refusal m (row_width es) (row_count es) (start + field_size model_length + field_size frame_length) rows) _ e₄ in
      let room = rows_room m (row_width es) (row_count es) _ rows passed in
      let here = whole frame_tag frame_length frame (both_l _ _ third) in
      let d₁ = length-drop start bytes in
      let d₂ = length-drop (field_size model_length) model in
      let d₃ = length-drop (field_size frame_length) frame in
      record {
        extents = extents_in_bounds_lem es (both_r (field_here extents_tag (extents_length axes) bytes) (extents_in_bounds es) first);
        rows = omega arith;
        is = field-on (extents_field axes) _ 0 bytes first
            ∙ rw (zero-add start)
            (field-on model_field _ start model second
            ∙ field-on frame_field _ (start + field_size model_length) frame third
            ∙ odds-on m (row_width es) (row_count es) _ (start + field_size model_length + field_size frame_length) rows passed
            ∙ end_on _ _ _ last);
      }
