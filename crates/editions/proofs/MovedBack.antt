-- The move back of a sound record of edition 2, by what the code finds. Over any number of axes. Assumes nothing.
use Prim.Native.Nat.{ℕ, ◌+◌, ◌-◌, ◌*◌, ◌≤◌, ◌<◌}
use mathlib.Core.Bool.{Bool, true, false, cond}
use mathlib.Core.List.{List, ◌++◌}
use mathlib.Core.Option.{some, none}
use mathlib.Core.Path.{◌≡◌, refl, sym, ap, ◌∙◌}
use native.Mathlib.Omega.{arith}
use lib.ListN.{length, take, drop}
use lib.Seq.{sets}
use Rattle.rules.specs.RefusalNumbers.{given, refused, no_room, not_edition_one}
use Rattle.rules.specs.RefusalNumbers.Entries.{Outcome}
use Rattle.rules.specs.RefusalNumbers.Editions.{Moved, has_edition_one, downgrade_entry}
use Rattle.rules.specs.TheGridAndItsBounds.{Model}
use Rattle.rules.specs.Fields.{field_size}
use Rattle.rules.specs.MapRecord.{extents_length, model_length, frame_length, equal_pairs, record_size}
use Rattle.rules.specs.EditionTwo.{byte_length, cuts_for, cuts_of, bands_size}
use Rattle.std.specs.Prelude.{Option, Some, None}
use Rattle.std.specs.Option.{is_some}
use Rattle.types.specs.Answers.{found_of}
use Rattle.types.specs.Models.{model_of}
use Rattle.types.specs.declared.model.Model as Plain
use Rattle.record_laws.specs.Words.{AreBytes}
use Rattle.record_laws.specs.EditionTwo.Read.{edition_sound}
use Rattle.record_writer.specs.Writing.{one_model}
use Rattle.edition_reader.specs.Editions.{bands_here, bands_at, extents_here, running_here}
use Rattle.edition_reader.proofs.Sounds.{Sound}
use Rattle.edition_reader.proofs.Steps.{bands_some}
use Rattle.editions.proofs.Keeping.{kept_at, open_has_none, closed_has_lem, closed_size}
use Rattle.editions.proofs.Pieces.{moved_back, sizes}
use Rattle.editions.proofs.Moved.{length_back, not_back, back_no_room, back_done}

-- whether edition 1 has one model for all bands
unequal : (m : Model) → none ≡ one_model m → equal_pairs m.lowest m.above ≡ false
unfolding one_model
unequal m e = go (equal_pairs m.lowest m.above) _ e
  where
    go : (b : Bool) (k : Model) → none ≡ cond b (some k) none → b ≡ false
    go true k e = cc
    go false k e = refl

equal : (m k : Model) → some k ≡ one_model m → equal_pairs m.lowest m.above ≡ true
unfolding one_model
equal m k e = go (equal_pairs m.lowest m.above) _ e
  where
    go : (b : Bool) (l : Model) → some k ≡ cond b (some l) none → b ≡ true
    go true l e = refl
    go false l e = cc

pub even_as : (o : Option Plain.Model) (m : Model) → found_of model_of o ≡ one_model m → equal_pairs m.lowest m.above ≡ is_some o
even_as (Some k) m e = equal m (model_of k) e
even_as None m e = unequal m e

module _ (axes : ℕ) (bytes out : List ℕ) (t : Sound axes bytes) (some-axis : 0 < axes) where
  pub still_open : running_here axes bytes ≡ true
      → ◌≡◌ {A = Outcome Moved (List ℕ)} (record { answer = refused not_edition_one; lent = out }) (downgrade_entry axes bytes out)
  still_open r = not_back axes bytes (kept_at axes bytes) t.is out (open_has_none axes bytes r)

  -- of a closed one, the model on the extents
  module _ (closed : running_here axes bytes ≡ false) (m : Model) (is : m ≡ bands_here (cuts_for axes) (extents_here axes bytes) (drop (bands_at axes) bytes)) where
    has : (b : Bool) → equal_pairs m.lowest m.above ≡ b → has_edition_one (kept_at axes bytes) ≡ b
    has b e = closed_has_lem axes bytes b closed (ap (λ (k : Model). equal_pairs k.lowest k.above) (sym is) ∙ e)

    pub uneven : equal_pairs m.lowest m.above ≡ false
        → ◌≡◌ {A = Outcome Moved (List ℕ)} (record { answer = refused not_edition_one; lent = out }) (downgrade_entry axes bytes out)
    uneven e = not_back axes bytes (kept_at axes bytes) t.is out (has false e)

    module _ (even : equal_pairs m.lowest m.above ≡ true) (more : ℕ) (so_many : more + field_size model_length ≡ 2 * field_size byte_length + bands_size (cuts_for axes)) where
      size_is : record_size (extents_here axes bytes) ≡ length bytes - more
      size_is =
          let r = edition_sound axes bytes (kept_at axes bytes) some-axis t.is in
          let all = sizes (extents_here axes bytes) axes r.axes_are in
          let long = closed_size axes bytes closed r.size_is in
          omega arith

      pub too_small : length out < length bytes - more
          → ◌≡◌ {A = Outcome Moved (List ℕ)} (record { answer = refused (no_room (length bytes - more)); lent = out }) (downgrade_entry axes bytes out)
      too_small l = back_no_room axes bytes (kept_at axes bytes) t.is out (has true even) (length bytes - more) size_is l

      -- where the extents' field ends, and how many bytes the bands have
      module _ (start size : ℕ) (starts : start ≡ field_size (extents_length axes)) (sized : size ≡ bands_size (cuts_for axes)) where
        abbrev place : ℕ
        place = field_size byte_length + start + size

        pub moved : length bytes - more ≤ length out → AreBytes bytes → (out₁ : List ℕ)
            → out₁ ≡ sets out 0 (take (start + field_size model_length) (drop (field_size byte_length) bytes)
            ++ take (field_size frame_length) (drop (field_size byte_length + start + size) bytes)
            ++ drop (field_size byte_length + start + size + field_size frame_length + field_size byte_length) bytes)
            → ◌≡◌ {A = Outcome Moved (List ℕ)} (record { answer = given (record { size = length bytes - more; cuts = cuts_of m.above }); lent = out₁ })
            (downgrade_entry axes bytes out)
        moved room held out₁ stores =
            let r = edition_sound axes bytes (kept_at axes bytes) some-axis t.is in
            let there = t.room in
            let some-band = bands_some (cuts_for axes) in
            let between : ℕ = bands_size (cuts_for axes) - field_size model_length in
            let at : place ≡ field_size byte_length + (field_size (extents_length axes) + field_size model_length) + between = omega arith in
            let many = length_back (start + field_size model_length) place bytes (omega arith) (omega arith) in
            back_done axes bytes (kept_at axes bytes) t.is out (has true even) (length bytes - more) size_is room
            (take (start + field_size model_length) (drop (field_size byte_length) bytes) ++ take (field_size frame_length) (drop place bytes)
            ++ drop (place + field_size frame_length + field_size byte_length) bytes)
            out₁ (cuts_of m.above)
            (moved_back axes bytes (kept_at axes bytes) t.is held r.axes_are r.cuts_are closed ∙ rw (at, starts) refl)
            (omega arith) stores (ap (λ (k : Model). cuts_of k.above) is)
