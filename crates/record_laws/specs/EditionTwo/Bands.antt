-- The pairs and the cuts of a record of edition 2 that was read: the model that they give is within its bounds, its
-- numbers are values of binary64, and writing it gives the bytes again. Assumes nothing.
use Prim.Native.Nat.{ℕ, zero, suc, ◌+◌, ◌*◌, ◌≤◌, ◌<◌}
use Rattle.std.proofs.Math.Bool.{true}
use mathlib.Core.List.{List, [], ◌∷◌, ◌++◌, append_assoc}
use Rattle.std.specs.Prelude.{◌≡◌, Float}
use Rattle.std.proofs.Math.Path.{refl, sym, ap, ap₂}
use Rattle.std.proofs.Common.{◌∙◌, arith, drop-drop}
use Rattle.std.proofs.Math.Nat.{suc-mul}
use Rattle.std.proofs.Math.ListN.{length, drop, length-drop}
use Rattle.rules.specs.RefusalNumbers.{given}
use Rattle.rules.specs.TheGridAndItsBounds.{Pair, Band, Model, pair_bounded, all_pairs, bounded, rising, cuts_below, cuts_in_bounds, layer_of}
use Rattle.rules.specs.Fields.{float_bytes, floats_in, head_size, field_size, field, contents, Reading, field_then, rows_then}
use Rattle.rules.specs.MapRecord.{extent_bytes, extents_in, model_tag, model_length, model_bytes, model_field, same_bits}
use Rattle.rules.specs.EditionTwo.{pair_field, cuts_tag, cuts_length, cuts_field, bands_over, pairs_bytes, cuts_of, cuts_bytes, bands_bytes, bands_then, bands_size}
use Rattle.record_laws.specs.Words.{IsByte, AreBytes, Is64, HeldBands, LaidOn}
use Rattle.record_laws.specs.Each.{each_drop, both}
use Rattle.record_laws.specs.Numbers.{extents_in_length, extents_again, floats_in_length, floats_in_64, floats_again, same_float}
use Rattle.record_laws.specs.Fields.{Found, field_again, field_given}
use Rattle.record_laws.specs.Back.{lowest_bounded}
use Rattle.record_laws.specs.Read.{model-not-nan}
use Rattle.record_laws.specs.EditionTwo.Parts.{AllHave, PartPassed, parts_given}

-- ---- one pair with its ceiling
-- what stands in a model's field: its three numbers
pub record HeldModel (m : Model) : Type 0 where
  pub occupied : Is64 m.lowest.occupied
  pub free : Is64 m.lowest.free
  pub ceiling : Is64 m.ceiling

pub model-held : (rest : List ℕ) → HeldModel (contents model_field rest)
model-held rest =
    let b = drop head_size rest in
    let at = floats_in_64 3 b in
    let three = floats_in_length 3 b in
    record { occupied = at 0 (omega arith); free = at 1 (omega arith); ceiling = at 2 (omega arith) }

pub model_again : (rest : List ℕ) → AreBytes rest → Found model_tag model_length rest → bounded (contents model_field rest) ≡ true
    → field model_tag (model_bytes (contents model_field rest)) ++ drop (field_size model_length) rest ≡ rest
unfolding floats_in
model_again rest b f sound =
    let m = contents model_field rest in
    let l = f.whole in
    ap (λ (x : List ℕ). field model_tag x ++ drop (field_size model_length) rest)
    (floats_again 3 (drop head_size rest) (each_drop IsByte 0 head_size rest b) (omega (arith, length-drop head_size rest))
    (model-not-nan m.lowest m.ceiling sound))
    ∙ field_again model_tag model_length rest b f

-- ---- the pairs above the lowest, with the ceiling of the lowest
module _ (c : Float) (held : Is64 c) where
  pub record PairRead (rest : List ℕ) (m : Model) : Type 0 where
    pub is : contents model_field rest ≡ m
    pub found : Found model_tag model_length rest
    pub sound : bounded m ≡ true
    pub common : m.ceiling ≡ c

  abbrev size : ℕ
  size = field_size model_length

  abbrev pub PairsRead : List ℕ → List Model → Type 0
  PairsRead rest ms = AllHave size PairRead rest ms

  pub pair_given : {B : Type 0} (next : Model → Reading B) (o : ℕ) (rest : List ℕ) (b : B) → field_then (pair_field c) next o rest ≡ given b
      → PartPassed size PairRead (field_then (pair_field c)) next o rest b
  pair_given next o rest b e =
      let m = contents model_field rest in
      let p = field_given (pair_field c) next o rest b e in
      let s = both (bounded m) (same_bits m.ceiling c) p.is_sound in
      record {
        it = m;
        whole = p.is_found.whole;
        has = record { is = refl; found = p.is_found; sound = s.0; common = same_float m.ceiling c (model-held rest).ceiling held s.1 };
        after = p.after;
      }

  pairs_held : (rest : List ℕ) (cuts : List ℕ) (ms : List Model) → PairsRead rest ms → HeldBands (bands_over cuts ms)
  unfolding bands_over
  pairs_held rest [] ms h = tt
  pairs_held rest (k ∷ cuts) [] h = tt
  pairs_held rest (k ∷ cuts) (m ∷ ms) h =
      let at = model-held rest in
      let e = h.1.is in
      (rw (← e) at.occupied, rw (← e) at.free, pairs_held (drop size rest) cuts ms h.2)

  pairs_bounded : (rest : List ℕ) (cuts : List ℕ) (ms : List Model) (p : Pair) → PairsRead rest ms → pair_bounded c p ≡ true
      → all_pairs (pair_bounded c) p (bands_over cuts ms) ≡ true
  unfolding bands_over all_pairs
  pairs_bounded rest [] ms p h t = t
  pairs_bounded rest (k ∷ cuts) [] p h t = t
  pairs_bounded rest (k ∷ cuts) (m ∷ ms) p h t =
      let one : pair_bounded c m.lowest ≡ true = ap (λ (x : Float). pair_bounded x m.lowest) (sym h.1.common) ∙ lowest_bounded m h.1.sound in
      rw t (pairs_bounded (drop size rest) cuts ms m.lowest h.2 one)

  pairs_again_lem : (rest : List ℕ) (cuts : List ℕ) (ms : List Model) → length cuts ≡ length ms → PairsRead rest ms → AreBytes rest
      → pairs_bytes c (bands_over cuts ms) ++ drop (length ms * size) rest ≡ rest
  unfolding bands_over pairs_bytes
  pairs_again_lem rest [] [] e h b = refl
  pairs_again_lem rest [] (m ∷ ms) e h b = absurd (omega arith)
  pairs_again_lem rest (k ∷ cuts) [] e h b = absurd (omega arith)
  pairs_again_lem rest (k ∷ cuts) (m ∷ ms) e h b =
      let x = h.1 in
      let numbers : float_bytes (m.lowest.occupied ∷ m.lowest.free ∷ c ∷ []) ≡ model_bytes (contents model_field rest) =
      ap₂ (λ (y : Model) (z : Float). float_bytes (y.lowest.occupied ∷ y.lowest.free ∷ z ∷ [])) (sym x.is) (sym x.common ∙ ap (λ (y : Model). y.ceiling) (sym x.is)) in
      let j : size + length ms * size ≡ suc (length ms) * size = omega (arith, suc-mul (length ms) size) in
      let sound : bounded (contents model_field rest) ≡ true = ap bounded x.is ∙ x.sound in
      rw (append_assoc, sym j, sym (drop-drop (length ms * size) size rest))
      (ap₂ (λ (y z : List ℕ). field model_tag y ++ z) numbers (pairs_again_lem (drop size rest) cuts ms (omega arith) h.2 (each_drop IsByte 0 size rest b))
      ∙ model_again rest b x.found sound)

-- ---- the cuts
over_length : (cuts : List ℕ) (ms : List Model) → length cuts ≡ length ms → length (bands_over cuts ms) ≡ length cuts
unfolding bands_over
over_length [] ms e = refl
over_length (c ∷ cuts) [] e = absurd (omega arith)
over_length (c ∷ cuts) (m ∷ ms) e = ap suc (over_length cuts ms (omega arith))

over_cuts : (cuts : List ℕ) (ms : List Model) → length cuts ≡ length ms → cuts_of (bands_over cuts ms) ≡ cuts
unfolding bands_over cuts_of
over_cuts [] ms e = refl
over_cuts (c ∷ cuts) [] e = absurd (omega arith)
over_cuts (c ∷ cuts) (m ∷ ms) e = ap (λ (x : List ℕ). c ∷ x) (over_cuts cuts ms (omega arith))

pub cuts_bytes_lem : (bs : List Band) → 0 < length bs → cuts_bytes bs ≡ field cuts_tag (extent_bytes (cuts_of bs))
cuts_bytes_lem [] l = absurd (omega arith)
cuts_bytes_lem (b ∷ bs) l = refl

laid_on : (es : List ℕ) (bs : List Band) → 0 < length bs → LaidOn es bs (layer_of es)
laid_on es [] l = absurd (omega arith)
laid_on es (b ∷ bs) l = refl

-- ---- the model
-- what is known of the model that was read where its field begins, and behind it the further pairs and the cuts
pub record BandsRead (n : ℕ) (es rest : List ℕ) (m : Model) : Type 0 where
  pub many : length m.above ≡ n
  pub whole : bands_size n ≤ length rest
  pub sound : bounded m ≡ true
  pub cuts : cuts_in_bounds es m ≡ true
  pub held : HeldModel m
  pub above : HeldBands m.above
  pub layer : LaidOn es m.above m.layer
  -- writing it gives the bytes again
  pub again : AreBytes rest → bands_bytes m ++ drop (bands_size n) rest ≡ rest

pub record BandsPassed {B : Type 0} (n : ℕ) (es : List ℕ) (next : Model → Reading B) (o : ℕ) (rest : List ℕ) (b : B) : Type 0 where
  pub model : Model
  pub bands : BandsRead n es rest model
  pub after : next model (o + bands_size n) (drop (bands_size n) rest) ≡ given b

one-pair : (es rest : List ℕ) → Found model_tag model_length rest → bounded (contents model_field rest) ≡ true → BandsRead zero es rest (contents model_field rest)
unfolding bands_size bands_bytes pairs_bytes
one-pair es rest f sound =
    record {
      many = refl;
      whole = f.whole;
      sound = sound;
      cuts = unfold cuts_in_bounds rising cuts_below in refl;
      held = model-held rest;
      above = tt;
      layer = refl;
      again = λ b. simp append_assoc (model_again rest b f sound);
    }

-- the bytes behind the lowest pair, and behind all
abbrev behind_lowest : List ℕ → List ℕ
behind_lowest rest = drop (field_size model_length) rest

abbrev behind_pairs : ℕ → List ℕ → List ℕ
behind_pairs n rest = drop (suc n * field_size model_length) (behind_lowest rest)

behind-cuts : (n : ℕ) (rest : List ℕ) → drop (field_size (cuts_length (suc n))) (behind_pairs n rest) ≡ drop (bands_size (suc n)) rest
unfolding bands_size
behind-cuts n rest =
    let k : field_size model_length + (suc n * field_size model_length + field_size (cuts_length (suc n))) ≡ bands_size (suc n) = omega arith in
    drop-drop (field_size (cuts_length (suc n))) (suc n * field_size model_length) (behind_lowest rest)
    ∙ drop-drop (suc n * field_size model_length + field_size (cuts_length (suc n))) (field_size model_length) rest
    ∙ ap (λ (at : ℕ). drop at rest) k

abbrev model_in : ℕ → List ℕ → List ℕ → List Model → Model
model_in n es rest ms = contents (cuts_field (suc n) es (contents model_field rest) ms) (behind_pairs n rest)

pairs_and_cuts : (n : ℕ) (es rest : List ℕ) (ms : List Model) → Found model_tag model_length rest → bounded (contents model_field rest) ≡ true → length ms ≡ suc n
    → PairsRead (contents model_field rest).ceiling (model-held rest).ceiling (behind_lowest rest) ms → Found cuts_tag (cuts_length (suc n)) (behind_pairs n rest)
    → cuts_in_bounds es (model_in n es rest ms) ≡ true → BandsRead (suc n) es rest (model_in n es rest ms)
unfolding bands_size bounded
pairs_and_cuts n es rest ms f sound many all g fit =
    record {
      many = over_length cuts ms as_many ∙ extents_in_length (suc n) (drop head_size (behind_pairs n rest));
      whole = omega (arith, f.whole, g.whole, length-drop (field_size model_length) rest, length-drop (suc n * field_size model_length) (behind_lowest rest));
      sound = pairs_bounded c held (behind_lowest rest) cuts ms (contents model_field rest).lowest all (lowest_bounded (contents model_field rest) sound);
      cuts = fit;
      held = record { occupied = (model-held rest).occupied; free = (model-held rest).free; ceiling = held };
      above = pairs_held c held (behind_lowest rest) cuts ms all;
      layer = laid_on es (bands_over cuts ms) some;
      again = written;
    }
  where
    c : Float
    c = (contents model_field rest).ceiling

    held : Is64 (contents model_field rest).ceiling
    held = (model-held rest).ceiling

    cuts : List ℕ
    cuts = extents_in (suc n) (drop head_size (behind_pairs n rest))

    as_many : length (extents_in (suc n) (drop head_size (behind_pairs n rest))) ≡ length ms
    as_many = extents_in_length (suc n) (drop head_size (behind_pairs n rest)) ∙ sym many

    some : 0 < length (bands_over (extents_in (suc n) (drop head_size (behind_pairs n rest))) ms)
    some = omega (arith, over_length (extents_in (suc n) (drop head_size (behind_pairs n rest))) ms as_many, as_many)

    written : AreBytes rest → bands_bytes (model_in n es rest ms) ++ drop (bands_size (suc n)) rest ≡ rest
    written b =
        let b₁ = each_drop IsByte 0 (field_size model_length) rest b in
        let b₂ = each_drop IsByte 0 (suc n * field_size model_length) (behind_lowest rest) b₁ in
        let l = g.whole in
        unfold bands_bytes in
        simp append_assoc
        (ap (λ (x : List ℕ). field model_tag (model_bytes (contents model_field rest)) ++ x)
        (ap₂ (λ (x y : List ℕ). pairs_bytes (contents model_field rest).ceiling (bands_over cuts ms) ++ (x ++ y))
        (cuts_bytes_lem (bands_over cuts ms) some
        ∙ ap (λ (x : List ℕ). field cuts_tag (extent_bytes x)) (over_cuts cuts ms as_many)
        ∙ ap (field cuts_tag) (extents_again (suc n) (drop head_size (behind_pairs n rest)) (each_drop IsByte 0 head_size (behind_pairs n rest) b₂)
        (omega (arith, length-drop head_size (behind_pairs n rest)))))
        (sym (behind-cuts n rest))
        ∙ ap (λ (x : List ℕ). pairs_bytes (contents model_field rest).ceiling (bands_over cuts ms) ++ x)
        (field_again cuts_tag (cuts_length (suc n)) (behind_pairs n rest) b₂ g)
        ∙ ap (λ (k : ℕ). pairs_bytes (contents model_field rest).ceiling (bands_over cuts ms) ++ drop (k * field_size model_length) (behind_lowest rest)) (sym many)
        ∙ pairs_again_lem (contents model_field rest).ceiling held (behind_lowest rest) cuts ms as_many all b₁)
        ∙ model_again rest b f sound)

pub bands_given : {B : Type 0} (n : ℕ) (es : List ℕ) (next : Model → Reading B) (o : ℕ) (rest : List ℕ) (b : B) → bands_then n es next o rest ≡ given b
    → BandsPassed n es next o rest b
unfolding bands_size
bands_given zero es next o rest b e =
    let p = field_given model_field next o rest b e in
    record { model = contents model_field rest; bands = one-pair es rest p.is_found p.is_sound; after = p.after }
bands_given (suc n) es next o rest b e =
    let m = contents model_field rest in
    let held = (model-held rest).ceiling in
    let p = field_given model_field (λ m. rows_then (field_then (pair_field m.ceiling)) (suc n) (λ ms. field_then (cuts_field (suc n) es m ms) next)) o rest b e in
    let q = parts_given (field_size model_length) (PairRead m.ceiling held) (field_then (pair_field m.ceiling)) (pair_given m.ceiling held) (suc n)
    (λ ms. field_then (cuts_field (suc n) es m ms) next) _ (behind_lowest rest) b p.after in
    let r = field_given (cuts_field (suc n) es m q.them) next _ (behind_pairs n rest) b q.after in
    let k : o + field_size model_length + suc n * field_size model_length + field_size (cuts_length (suc n)) ≡ o + bands_size (suc n) = omega arith in
    record {
      model = model_in n es rest q.them;
      bands = pairs_and_cuts n es rest q.them p.is_found p.is_sound q.many q.all r.is_found r.is_sound;
      after = sym (ap₂ (next (model_in n es rest q.them)) k (behind-cuts n rest)) ∙ r.after;
    }
