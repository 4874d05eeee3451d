-- Edition 1 and bands: a head whose pairs are equal is its plain head with its cuts; and a plain head with cuts is
-- written as it was. Assumes nothing.
use Rattle.std.specs.Prelude.{ℕ, Bool, true, List, [], ◌∷◌, ◌++◌, ◌≡◌, refl, length, drop, Float}
use Rattle.std.proofs.Math.Option.{none}
use Rattle.std.proofs.Common.{sym, ap, ap₂, ◌∙◌, eq-eqb}
use Rattle.std.specs.Float.{binary64}
use Rattle.std.specs.Float.Ieee.{to_bits}
use Rattle.rules.specs.RefusalNumbers.{given}
use Rattle.rules.specs.RefusalNumbers.Entries.{head_refusal, uses_of, writing, write_record_entry}
use Rattle.rules.specs.TheGridAndItsBounds.{Pair, Band, Model, Head, pair_bounded, all_pairs, bounded}
use Rattle.rules.specs.MapRecord.{Stored, record_bytes, same_bits, same_pair, equal_pairs, bands_from, model_with_cuts, with_cuts, writable}
use Rattle.record_laws.specs.Words.{Is64, Held, HeldBands, LaidOn, cuts_of, plain_head}
use Rattle.record_laws.specs.Each.{both}
use Rattle.record_laws.specs.Numbers.{same_float}
use Rattle.record_laws.specs.Heads.{tests_of_writing, writing_passes}
use Rattle.rows.proofs.Ceilings.{rows_by_ceiling}
use Rattle.record_laws.specs.Back.{lowest_bounded, writable_is, is_writable}
use Rattle.theorems.specs.MapRecord.Entries.{cuts_fit, writes}

-- ---- equal pairs
same-pair : (p q : Pair) → Is64 p.occupied → Is64 p.free → Is64 q.occupied → Is64 q.free → same_pair p q ≡ true → p ≡ q
unfolding same_pair
same-pair p q a b c d e =
    let t = both (same_bits p.occupied q.occupied) (same_bits p.free q.free) e in
    ap₂ (λ (x y : Float). record { occupied = x; free = y }) (same_float p.occupied q.occupied a c t.0) (same_float p.free q.free b d t.1)

bands_back : (p : Pair) (bs : List Band) → Is64 p.occupied → Is64 p.free → HeldBands bs → equal_pairs p bs ≡ true → bands_from p (cuts_of bs) ≡ bs
unfolding equal_pairs bands_from
bands_back p [] a b h e = refl
bands_back p (c ∷ bs) a b h e =
    let t = both (same_pair p c.pair) (equal_pairs p bs) e in
    ap₂ (λ (q : Pair) (rest : List Band). record { cut = c.cut; pair = q } ∷ rest) (same-pair p c.pair a b h.0 h.1 t.0)
    (bands_back p bs a b h.2 t.1)

laid_back : (es : List ℕ) (p : Pair) (ceiling : Float) (layer : ℕ) (bs : List Band) → LaidOn es bs layer → bands_from p (cuts_of bs) ≡ bs
    → model_with_cuts es (cuts_of bs) (record { lowest = p; above = []; ceiling = ceiling; layer = 1 })
    ≡ record { lowest = p; above = bs; ceiling = ceiling; layer = layer }
laid_back es p ceiling layer [] l e = ap (λ (n : ℕ). record { lowest = p; above = []; ceiling = ceiling; layer = n }) (sym l)
laid_back es p ceiling layer (b ∷ bs) l e =
    ap₂ (λ (above : List Band) (n : ℕ). record { lowest = p; above = above; ceiling = ceiling; layer = n }) e (sym l)

-- the plain head with the cuts is the head
pub cuts_back : (h : Head) (odds : List Float) → Held h odds → equal_pairs h.model.lowest h.model.above ≡ true
    → with_cuts (cuts_of h.model.above) (plain_head h) ≡ h
cuts_back h odds held e =
    ap (λ (m : Model). record { extents = h.extents; model = m; frame = h.frame })
    (laid_back h.extents h.model.lowest h.model.ceiling h.model.layer h.model.above held.layer
    (bands_back h.model.lowest h.model.above held.occupied held.free held.above e))

-- ---- a plain head with cuts
pub from-one-pair : (p : Pair) (cuts : List ℕ) → equal_pairs p (bands_from p cuts) ≡ true
unfolding equal_pairs bands_from same_pair same_bits
from-one-pair p [] = refl
from-one-pair p (c ∷ cs) =
    rw (
      eq-eqb (to_bits binary64 p.occupied) (to_bits binary64 p.occupied) refl,
      eq-eqb (to_bits binary64 p.free) (to_bits binary64 p.free) refl,
    )
    (from-one-pair p cs)

pub all_alike : (test : Pair → Bool) (p : Pair) (cuts : List ℕ) → test p ≡ true → all_pairs test p (bands_from p cuts) ≡ true
unfolding all_pairs bands_from
all_alike test p [] t = t
all_alike test p (c ∷ cs) t = rw t (all_alike test p cs t)

-- what can be written is written the same with cuts that fit
pub with_cuts_writes : (cuts : List ℕ) (s : Stored) (out : List ℕ) (n : ℕ) → cuts_fit cuts s ≡ true
    → head_refusal (uses_of writing) s.head (length s.odds) 0 ≡ none → writable s.head s.odds (length out) ≡ given n
    → write_record_entry (with_cuts cuts s.head) s.odds out ≡ record { answer = given n; lent = record_bytes s.head s.odds ++ drop n out }
unfolding record_bytes bounded
with_cuts_writes [] s out n fit passes w = writes s.head s.odds out n passes w
with_cuts_writes (c ∷ cs) s out n fit passes w =
    let h = s.head in
    let t = (tests_of_writing h (length s.odds) passes).0 in
    let v = writable_is h s.odds (length out) n w in
    writes (with_cuts (c ∷ cs) h) s.odds out n
    (writing_passes (with_cuts (c ∷ cs) h) (length s.odds) (record {
      extents = t.extents;
      model = all_alike (pair_bounded h.model.ceiling) h.model.lowest (c ∷ cs) (lowest_bounded h.model t.model);
      cuts = fit;
      frame = t.frame;
      count = t.count;
    }))
    (is_writable (with_cuts (c ∷ cs) h) s.odds (length out) n (record {
      pairs = from-one-pair h.model.lowest (c ∷ cs);
      checked = rows_by_ceiling (with_cuts (c ∷ cs) h).model h.model refl _ _ _ s.odds ∙ v.checked;
      size = v.size;
    }))
