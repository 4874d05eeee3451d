-- The pairs and the cuts of a map, written in edition 2 and read again. Assumes nothing.
use Prim.Native.Nat.{ℕ, zero, suc, ◌+◌, ◌*◌, ◌≤◌, ◌<◌}
use Rattle.std.specs.Prelude.{true, ◌≡◌, refl, ltb, Float}
use mathlib.Core.List.{List, [], ◌∷◌, ◌++◌, append_assoc}
use Rattle.std.proofs.Common.{sym, ◌∙◌, ltb-true, eq-eqb}
use Rattle.std.proofs.Math.Path.{ap, ap₂}
use native.Mathlib.Omega.{arith}
use Rattle.std.proofs.Math.ListN.{length}
use Rattle.std.specs.Float.{nan, binary64}
use Rattle.std.specs.Float.Ieee.{to_bits}
use Rattle.rules.specs.TheGridAndItsBounds.{Pair, Band, Model, plain_model, pair_bounded, all_pairs, bounded, most_extent, rising, cuts_below, cuts_in_bounds, last_extent}
use Rattle.rules.specs.Fields.{float_bytes, field_size, field, Reading, field_then, rows_then}
use Rattle.rules.specs.MapRecord.{extent_bytes, extents_in, model_tag, model_length, model_bytes, model_in, model_field, same_bits}
use Rattle.rules.specs.EditionTwo.{pair_field, cuts_tag, cuts_length, cuts_field, bands_over, laid, pairs_bytes, cuts_of, cuts_bytes, bands_bytes, bands_then, bands_size}
use Rattle.laws.specs.Checks.{AxesInBounds}
use Rattle.record_laws.specs.Words.{Each, Is64, Are64, HeldBands, LaidOn}
use Rattle.record_laws.specs.Each.{each_nil, each_cons, both}
use Rattle.record_laws.specs.Numbers.{InTwoBytes, extent_bytes_length, extents_back, float_bytes_length, floats_back}
use Rattle.record_laws.specs.Fields.{field_back}
use Rattle.record_laws.specs.Back.{model_floats, lowest_bounded, plain-bounded}
use Rattle.record_laws.specs.EditionTwo.Bands.{HeldModel}
use Rattle.record_laws.specs.EditionTwo.Written.{cuts_of_length}

-- ---- cuts fit two bytes
last_extent_lem : (es : List ℕ) → AxesInBounds es → last_extent es ≤ most_extent
unfolding last_extent
last_extent_lem [] b = omega arith
last_extent_lem (e ∷ []) b = b.1
last_extent_lem (e ∷ d ∷ es) b = last_extent_lem (d ∷ es) b.2

-- cuts that rise up to a bound are below it, and so is what they rise from
rising-below : (least : ℕ) (bs : List Band) (extent : ℕ) → rising least bs extent ≡ true → extent ≤ most_extent → (least < extent) × Each InTwoBytes 0 (cuts_of bs)
unfolding rising cuts_of
rising-below least [] extent e l = (ltb-true least extent e, each_nil InTwoBytes 0)
rising-below least (b ∷ bs) extent e l =
    let t = both (ltb least b.cut) (rising b.cut bs extent) e in
    let r = rising-below b.cut bs extent t.1 l in
    let low = ltb-true least b.cut t.0 in
    let high = r.0 in
    (omega arith, each_cons InTwoBytes 0 b.cut (cuts_of bs) (omega arith) r.1)

cuts_in_two_bytes : (es : List ℕ) (m : Model) → AxesInBounds es → cuts_in_bounds es m ≡ true → Each InTwoBytes 0 (cuts_of m.above)
unfolding cuts_in_bounds cuts_below
cuts_in_two_bytes es m a e = go m.above e
  where
    go : (bs : List Band) → cuts_below (last_extent es) bs ≡ true → Each InTwoBytes 0 (cuts_of bs)
    go [] e = unfold cuts_of in each_nil InTwoBytes 0
    go (b ∷ bs) e = (rising-below 0 (b ∷ bs) (last_extent es) e (last_extent_lem es a)).1

-- ---- one pair with its ceiling
pair_64 : (p : Pair) (c : Float) → Is64 p.occupied → Is64 p.free → Is64 c → Are64 (p.occupied ∷ p.free ∷ c ∷ [])
pair_64 p c x y z =
    each_cons Is64 nan p.occupied (p.free ∷ c ∷ []) x
    (each_cons Is64 nan p.free (c ∷ []) y (each_cons Is64 nan c [] z (each_nil Is64 nan)))

pair_means : (p : Pair) (c : Float) (rest : List ℕ) → Is64 p.occupied → Is64 p.free → Is64 c
    → model_field.means (float_bytes (p.occupied ∷ p.free ∷ c ∷ []) ++ rest) ≡ plain_model p c
pair_means p c rest x y z = ap model_in (floats_back (p.occupied ∷ p.free ∷ c ∷ []) rest 3 refl (pair_64 p c x y z))

-- ---- the pairs above the lowest
abbrev models_of : Float → List Band → List Model
models_of c [] = []
models_of c (b ∷ bs) = plain_model b.pair c ∷ models_of c bs

same_ceiling : (c : Float) → same_bits c c ≡ true
unfolding same_bits
same_ceiling c = eq-eqb (to_bits binary64 c) (to_bits binary64 c) refl

pairs_back : {B : Type 0} (c : Float) (bs : List Band) (p : Pair) (n : ℕ) (next : List Model → Reading B) (o : ℕ) (rest : List ℕ) → length bs ≡ n → Is64 c
    → HeldBands bs → all_pairs (pair_bounded c) p bs ≡ true
    → rows_then (field_then (pair_field c)) n next o (pairs_bytes c bs ++ rest) ≡ next (models_of c bs) (o + n * field_size model_length) rest
unfolding rows_then pairs_bytes all_pairs bounded
pairs_back c [] p zero next o rest e x h t = ap (λ (at : ℕ). next [] at rest) (let z : o ≡ o + 0 = omega arith in z)
pairs_back c [] p (suc n) next o rest e x h t = absurd (omega arith)
pairs_back c (b ∷ bs) p zero next o rest e x h t = absurd (omega arith)
pairs_back c (b ∷ bs) p (suc n) next o rest e x h t =
    let numbers = b.pair.occupied ∷ b.pair.free ∷ c ∷ [] in
    let it = plain_model b.pair c in
    let others = (both (pair_bounded c p) (all_pairs (pair_bounded c) b.pair bs) t).1 in
    let sound : bounded it ≡ true = lowest_bounded (record { lowest = b.pair; above = bs; ceiling = c; layer = 1 }) others in
    let k : o + field_size model_length + n * field_size model_length ≡ o + suc n * field_size model_length = omega arith in
    rw append_assoc
    (field_back (pair_field c) (λ m. rows_then (field_then (pair_field c)) n (λ ms. next (m ∷ ms))) (float_bytes numbers) (pairs_bytes c bs ++ rest) it o
    (float_bytes_length numbers) (omega arith) (pair_means b.pair c (pairs_bytes c bs ++ rest) h.0 h.1 x) (rw (sound, same_ceiling c) refl)
    ∙ pairs_back c bs b.pair n (λ ms. next (it ∷ ms)) (o + field_size model_length) rest (omega arith) x h.2 others
    ∙ ap (λ (at : ℕ). next (it ∷ models_of c bs) at rest) k)

-- the cuts with these pairs are the bands
over_back : (c : Float) (bs : List Band) → bands_over (cuts_of bs) (models_of c bs) ≡ bs
unfolding bands_over cuts_of
over_back c [] = refl
over_back c (b ∷ bs) = ap (λ (x : List Band). b ∷ x) (over_back c bs)

-- ---- the model
pub bands_back : {B : Type 0} (n : ℕ) (es : List ℕ) (m : Model) (next : Model → Reading B) (o : ℕ) (rest : List ℕ) → length m.above ≡ n → n ≤ 24
    → AxesInBounds es → bounded m ≡ true → cuts_in_bounds es m ≡ true → HeldModel m → HeldBands m.above → LaidOn es m.above m.layer
    → bands_then n es next o (bands_bytes m ++ rest) ≡ next m (o + bands_size n) rest
unfolding bands_bytes bands_size bounded cuts_in_bounds
bands_back {B} n es m next o rest many few axes sound fit held above layer = go n m.above many few sound fit (cuts_in_two_bytes es m axes fit) above layer
  where
    -- the lowest pair, then what follows it
    first : (then : Model → Reading B) (left : List ℕ)
        → field_then model_field then o (field model_tag (model_bytes m) ++ left) ≡ then (plain_model m.lowest m.ceiling) (o + field_size model_length) left
    first then left =
        field_back model_field then (model_bytes m) left (plain_model m.lowest m.ceiling) o (float_bytes_length (model_floats m)) (omega arith)
        (pair_means m.lowest m.ceiling left held.occupied held.free held.ceiling) (plain-bounded m sound)

    go : (n : ℕ) (bs : List Band) → length bs ≡ n → n ≤ 24 → all_pairs (pair_bounded m.ceiling) m.lowest bs ≡ true → cuts_below (last_extent es) bs ≡ true
        → Each InTwoBytes 0 (cuts_of bs) → HeldBands bs → LaidOn es bs m.layer
        → bands_then n es next o (field model_tag (model_bytes m) ++ pairs_bytes m.ceiling bs ++ cuts_bytes bs ++ rest)
        ≡ next (record { lowest = m.lowest; above = bs; ceiling = m.ceiling; layer = m.layer }) (o + bands_size n) rest
    go zero [] e l t f x h a =
        unfold pairs_bytes in
        simp append_assoc
        (first next rest
        ∙ ap (λ (k : ℕ). next (record { lowest = m.lowest; above = []; ceiling = m.ceiling; layer = k }) (o + field_size model_length) rest) (sym a))
    go zero (b ∷ bs) e l t f x h a = absurd (omega arith)
    go (suc n) [] e l t f x h a = absurd (omega arith)
    go (suc n) (b ∷ bs) e l t f x h a =
        let cuts = cuts_of (b ∷ bs) in
        let ms = models_of m.ceiling (b ∷ bs) in
        let it : Model = record { lowest = m.lowest; above = b ∷ bs; ceiling = m.ceiling; layer = m.layer } in
        let many : length cuts ≡ suc n = cuts_of_length (b ∷ bs) ∙ e in
        let size : length (extent_bytes cuts) ≡ cuts_length (suc n) = extent_bytes_length cuts ∙ ap (λ (k : ℕ). 2 * k) many in
        let means : laid es (plain_model m.lowest m.ceiling) ms (extents_in (suc n) (extent_bytes cuts ++ rest)) ≡ it =
        ap (laid es (plain_model m.lowest m.ceiling) ms) (extents_back cuts rest (suc n) many x)
        ∙ ap₂ (λ (bs : List Band) (k : ℕ). record { lowest = m.lowest; above = bs; ceiling = m.ceiling; layer = k }) (over_back m.ceiling (b ∷ bs)) (sym a) in
        let k : o + field_size model_length + suc n * field_size model_length + field_size (cuts_length (suc n)) ≡ o + bands_size (suc n) = omega arith in
        simp append_assoc
        (first _ (pairs_bytes m.ceiling (b ∷ bs) ++ (field cuts_tag (extent_bytes cuts) ++ rest))
        ∙ pairs_back m.ceiling (b ∷ bs) m.lowest (suc n) _ _ (field cuts_tag (extent_bytes cuts) ++ rest) e held.ceiling h t
        ∙ field_back (cuts_field (suc n) es (plain_model m.lowest m.ceiling) ms) next (extent_bytes cuts) rest it _ size (omega arith) means f
        ∙ ap (λ (at : ℕ). next it at rest) k)
