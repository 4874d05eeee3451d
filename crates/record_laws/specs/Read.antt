-- A record read: what is known of its fields, that its map may be written again and gives the same bytes, and where a
-- record that is refused is broken. Assumes nothing.
use Rattle.std.specs.Prelude.{ℕ, ◌*◌, ◌<◌, Bool, true, false, ◌&&◌, List, [], ◌∷◌, ◌++◌, ◌≡◌, refl, length, drop, Float}
use Rattle.std.proofs.Common.{true≢false, append_assoc, ap, ap₂, ◌∙◌, subst}
use Rattle.std.proofs.Math.Path.{sym}
use native.Mathlib.Omega.{arith}
use Rattle.std.proofs.Math.ListN.{length-drop}
use Rattle.std.specs.Float.{nan}
use Rattle.std.specs.Float.Ieee.{lt}
use borrow.Author.Tests.{le-leb}
use Rattle.rules.specs.RefusalNumbers.{Refusal, given, refused}
use Rattle.rules.specs.Floats.{zero_f}
use Rattle.rules.specs.TheGridAndItsBounds.{Pair, Head, plain_model, extents_in_bounds, pair_bounded, all_pairs, bounded, rising, cuts_below, cuts_in_bounds}
use Rattle.rules.specs.MarksAndFrames.{open_frame}
use Rattle.rules.specs.Fields.{from_little_endian, short_size, word_size, floats_in, tag_size, head_size, field_size, field, contents}
use Rattle.rules.specs.MapRecord.{extents_tag, extents_length, extents_field, model_tag, model_length, model_field, frame_tag, frame_length, frame_field, row_length}
use Rattle.rules.specs.MapRecord.{Stored, row_width, row_count, rows_bytes, record_bytes, rows_offset, record_of, equal_pairs, pairs_checked, record_size, room_for, writable}
use Rattle.record_laws.specs.Words.{IsByte, AreBytes, NotNan, NoNan, Held, first, Sound, plain_head}
use Rattle.record_laws.specs.Each.{each_nil, each_cons, each_drop, all_three}
use Rattle.record_laws.specs.Bytes.{little_endian_again}
use Rattle.record_laws.specs.Numbers.{extents_in_length, extents_again, floats_in_length, floats_in_64, floats_again}
use Rattle.record_laws.specs.Fields.{Found, field_again, BrokenAt, field_given, field-broken}
use Rattle.record_laws.specs.Rows.{RowsRead, EndRead, rows_given, end_given, rows_broken_lem, end-broken}
use Rattle.record_laws.specs.Heads.{rows_are_cells, writing_passes}
use Rattle.record_laws.specs.Back.{model_floats}

-- ---- the fields
-- the bytes behind the extents' field, behind the model's, behind the frame's; and what stands in the three
abbrev behind_extents : ℕ → List ℕ → List ℕ
behind_extents axes bytes = drop (field_size (extents_length axes)) bytes

abbrev behind_model : ℕ → List ℕ → List ℕ
behind_model axes bytes = drop (field_size model_length) (behind_extents axes bytes)

abbrev behind_frame : ℕ → List ℕ → List ℕ
behind_frame axes bytes = drop (field_size frame_length) (behind_model axes bytes)

abbrev head_in : ℕ → List ℕ → Head
head_in axes bytes =
    record {
      extents = contents (extents_field axes) bytes;
      model = contents model_field (behind_extents axes bytes);
      frame = contents frame_field (behind_model axes bytes);
    }

-- how many bytes the rows have, and what stands behind them
abbrev rows_size : ℕ → List ℕ → ℕ
rows_size axes bytes = row_count (head_in axes bytes).extents * field_size (row_length (row_width (head_in axes bytes).extents))

abbrev behind_rows : ℕ → List ℕ → List ℕ
behind_rows axes bytes = drop (rows_size axes bytes) (behind_frame axes bytes)

-- what is known of the fields of a record, in terms of its bytes
record Parts (axes : ℕ) (bytes : List ℕ) (s : Stored) : Type 0 where
  extents_found : Found extents_tag (extents_length axes) bytes
  extents_sound : extents_in_bounds (head_in axes bytes).extents ≡ true
  model_found : Found model_tag model_length (behind_extents axes bytes)
  model_sound : bounded (head_in axes bytes).model ≡ true
  frame_found : Found frame_tag frame_length (behind_model axes bytes)
  frame_sound : open_frame (head_in axes bytes).frame ≡ true
  odds : List Float
  rows : RowsRead (head_in axes bytes).model (row_width (head_in axes bytes).extents) (row_count (head_in axes bytes).extents)
      (behind_frame axes bytes) odds
  end : EndRead (behind_rows axes bytes) (record { head = head_in axes bytes; odds = odds }) s

parts : (axes : ℕ) (bytes : List ℕ) (s : Stored) → record_of axes bytes ≡ given s → Parts axes bytes s
unfolding record_of
parts axes bytes s e =
    let x = field_given (extents_field axes) _ 0 bytes s e in
    let y = field_given model_field _ _ (behind_extents axes bytes) s x.after in
    let z = field_given frame_field _ _ (behind_model axes bytes) s y.after in
    let r = rows_given (head_in axes bytes).model _ _ _ _ (behind_frame axes bytes) s z.after in
    record {
      extents_found = x.is_found;
      extents_sound = x.is_sound;
      model_found = y.is_found;
      model_sound = y.is_sound;
      frame_found = z.is_found;
      frame_sound = z.is_sound;
      odds = r.odds;
      rows = r.rows;
      end = end_given _ _ (behind_rows axes bytes) s r.after;
    }

-- ---- the map may be written again
module _ (axes : ℕ) (bytes : List ℕ) (s : Stored) (p : Parts axes bytes s) where
  size_of : length bytes ≡ record_size (head_in axes bytes).extents
  unfolding record_size rows_offset
  size_of =
      let es = (head_in axes bytes).extents in
      let a = extents_in_length axes (drop head_size bytes) in
      let x = length-drop (field_size (extents_length axes)) bytes in
      let y = length-drop (field_size model_length) (behind_extents axes bytes) in
      let z = length-drop (field_size frame_length) (behind_model axes bytes) in
      let w = length-drop (rows_size axes bytes) (behind_frame axes bytes) in
      let r = p.rows.whole in
      let e = p.end.size in
      let i = p.extents_found.whole in
      let j = p.model_found.whole in
      let k = p.frame_found.whole in
      omega arith

  held_of : Held (head_in axes bytes) p.odds
  held_of =
      let b = drop head_size (behind_extents axes bytes) in
      let at = floats_in_64 3 b in
      let three = floats_in_length 3 b in
      record { occupied = at 0 (omega arith); free = at 1 (omega arith); ceiling = at 2 (omega arith); above = tt; layer = refl; each_odds = p.rows.held }

-- ---- writing it again gives the bytes
front : (x d e f g h i : Bool) → x && d && e && f && g && h && i ≡ true → x ≡ true
front true d e f g h i q = refl
front false d e f g h i q = q

-- a number with a sign is none
positive_not_nan : (x : Float) → lt zero_f x ≡ true → NotNan x
unfolding lt
positive_not_nan x h e = let z : ◌≡◌ {A = Bool} false true = subst (λ (y : Float). lt zero_f y ≡ true) e h in true≢false (sym z)

negative-not-nan : (x : Float) → lt x zero_f ≡ true → NotNan x
unfolding lt
negative-not-nan x h e = let z : ◌≡◌ {A = Bool} false true = subst (λ (y : Float). lt y zero_f ≡ true) e h in true≢false (sym z)

pub model-not-nan : (p : Pair) (c : Float) → bounded (plain_model p c) ≡ true → NoNan (model_floats (plain_model p c))
unfolding bounded all_pairs pair_bounded
model-not-nan p c b =
    let t = all_three (lt zero_f p.occupied) (lt p.free zero_f) (lt zero_f c) (front _ _ _ _ _ _ _ b) in
    each_cons NotNan nan p.occupied (p.free ∷ c ∷ []) (positive_not_nan p.occupied t.0)
    (each_cons NotNan nan p.free (c ∷ []) (negative-not-nan p.free t.1)
    (each_cons NotNan nan c [] (positive_not_nan c t.2) (each_nil NotNan nan)))

record_again : (axes : ℕ) (bytes : List ℕ) (s : Stored) (p : Parts axes bytes s) → AreBytes bytes → record_bytes (head_in axes bytes) p.odds ≡ bytes
unfolding record_bytes floats_in
record_again axes bytes s p b =
    let rest₁ = behind_extents axes bytes in
    let rest₂ = behind_model axes bytes in
    let rest₃ = behind_frame axes bytes in
    let b₁ = each_drop IsByte 0 (field_size (extents_length axes)) bytes b in
    let b₂ = each_drop IsByte 0 (field_size model_length) rest₁ b₁ in
    let b₃ = each_drop IsByte 0 (field_size frame_length) rest₂ b₂ in
    let b₄ = each_drop IsByte 0 (rows_size axes bytes) rest₃ b₃ in
    let i = p.extents_found.whole in
    let j = p.model_found.whole in
    let k = p.frame_found.whole in
    simp append_assoc
    (ap₂ (λ (x y : List ℕ). field extents_tag x ++ y)
    (extents_again axes (drop head_size bytes) (each_drop IsByte 0 head_size bytes b) (omega (arith, length-drop head_size bytes)))
    (ap₂ (λ (x y : List ℕ). field model_tag x ++ y)
    (floats_again 3 (drop head_size rest₁) (each_drop IsByte 0 head_size rest₁ b₁) (omega (arith, length-drop head_size rest₁))
    (model-not-nan (head_in axes bytes).model.lowest (head_in axes bytes).model.ceiling p.model_sound))
    (ap₂ (λ (x y : List ℕ). field frame_tag x ++ y)
    (little_endian_again word_size (drop head_size rest₂) (each_drop IsByte 0 head_size rest₂ b₂) (omega (arith, length-drop head_size rest₂)))
    (ap (λ (x : List ℕ). rows_bytes (row_width (head_in axes bytes).extents) (row_count (head_in axes bytes).extents) p.odds ++ x) (p.end.again b₄)
    ∙ p.rows.again b₃)
    ∙ field_again frame_tag frame_length rest₂ b₂ p.frame_found)
    ∙ field_again model_tag model_length rest₁ b₁ p.model_found)
    ∙ field_again extents_tag (extents_length axes) bytes b p.extents_found)

pub read_again : (axes : ℕ) (bytes : List ℕ) (s : Stored) → record_of axes bytes ≡ given s → AreBytes bytes → record_bytes s.head s.odds ≡ bytes
read_again axes bytes s e b =
    let p = parts axes bytes s e in subst (λ (x : Stored). record_bytes x.head x.odds ≡ bytes) p.end.is (record_again axes bytes s p b)

pub read_sound : (axes : ℕ) (bytes : List ℕ) (s : Stored) → 0 < axes → record_of axes bytes ≡ given s → Sound axes bytes s
read_sound axes bytes s some-axis e =
    let p = parts axes bytes s e in
    let sound : Sound axes bytes (record { head = head_in axes bytes; odds = p.odds }) =
    let es = (head_in axes bytes).extents in
    let a = extents_in_length axes (drop head_size bytes) in
    record {
      axes_are = a;
      size_is = size_of axes bytes s p;
      passes = writing_passes (head_in axes bytes) (length p.odds) (record {
        extents = p.extents_sound;
        model = p.model_sound;
        cuts = unfold cuts_in_bounds rising cuts_below in refl;
        frame = p.frame_sound;
        count = p.rows.odds-length ∙ sym (rows_are_cells es (omega arith));
      });
      written = λ room l. unfold writable pairs_checked equal_pairs room_for in
          rw (p.rows.checked (rows_offset (length es)), le-leb (record_size es) room (omega (arith, size_of axes bytes s p))) (ap given (sym (size_of axes bytes s p)));
      held = held_of axes bytes s p;
      numbers = p.rows.numbers;
    } in
    subst (λ (x : Stored). Sound axes bytes x) p.end.is sound

-- a record holds one pair and no cuts
pub read_plain : (axes : ℕ) (bytes : List ℕ) (s : Stored) → record_of axes bytes ≡ given s → plain_head s.head ≡ s.head
read_plain axes bytes s e = subst (λ (x : Stored). plain_head x.head ≡ x.head) (parts axes bytes s e).end.is refl

-- the extents' field bears the length that the axes call for
pub read_axes : (axes : ℕ) (bytes : List ℕ) (s : Stored) → record_of axes bytes ≡ given s → from_little_endian short_size (drop tag_size bytes) ≡ extents_length axes
read_axes axes bytes s e = (parts axes bytes s e).extents_found.its_length

-- ---- refused
pub record_broken : (axes : ℕ) (bytes : List ℕ) (r : Refusal) → record_of axes bytes ≡ refused r → BrokenAt bytes r
unfolding record_of
record_broken axes bytes r e =
    field-broken (extents_field axes) _ bytes 0 bytes r (record { begins = first; is = refl }) e
    (λ p₁ e₁. field-broken model_field _ bytes _ (behind_extents axes bytes) r p₁ e₁
    (λ p₂ e₂. field-broken frame_field _ bytes _ (behind_model axes bytes) r p₂ e₂
    (λ p₃ e₃. rows_broken_lem bytes (head_in axes bytes).model _ _ _ _ (behind_frame axes bytes) r p₃ e₃
    (λ odds at left p₄ e₄. end-broken bytes _ at left r p₄ e₄))))
