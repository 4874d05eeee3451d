-- The head of a record of edition 1 with the cuts that a move up is given: what edition 2 needs of it. And the rows of
-- a closed record, which have no stamps. Assumes nothing.
use Rattle.std.specs.Prelude.{ℕ, suc, true, false, ◌≡◌, length, Float}
use mathlib.Core.List.{List, [], ◌∷◌, ◌++◌}
use Rattle.std.proofs.Math.Option.{none}
use Rattle.std.proofs.Math.Path.{refl}
use Rattle.std.proofs.Common.{sym, ap, ◌∙◌, arith}
use Rattle.rules.specs.RefusalNumbers.{given}
use Rattle.rules.specs.RefusalNumbers.Entries.{head_refusal}
use Rattle.rules.specs.RefusalNumbers.Editions.{uses_of_writing, unstamped}
use Rattle.rules.specs.TheGridAndItsBounds.{Pair, Band, Head, Grid, pair_bounded, bounded, cuts_in_bounds}
use Rattle.rules.specs.Fields.{little_endian, word_size, field}
use Rattle.rules.specs.MapRecord.{extents_tag, extent_bytes, frame_tag, end_tag}
use Rattle.rules.specs.MapRecord.{row_width, row_count, record_bytes, rows_offset, rows_checked, equal_pairs, bands_from, with_cuts}
use Rattle.rules.specs.EditionTwo.{edition_tag, edition_two, open_tag, open_byte, bands_bytes, grid_tried, edition_bytes, cuts_of}
use Rattle.record_laws.specs.Words.{Is64, HeldBands, Held, plain_head}
use Rattle.record_laws.specs.Words as Laws
use Rattle.record_laws.specs.Heads.{Tests, edition_passes}
use Rattle.record_laws.specs.Back.{lowest_bounded}
use Rattle.rows.proofs.Ceilings.{rows_by_ceiling}
use Rattle.edition_writer.proofs.Rows.{closed_bytes, closed_tried}
use Rattle.theorems.specs.MapRecord.Cuts.{from-one-pair, all_alike}

-- ---- the cuts
pub same-cuts : (bs : List Band) → cuts_of bs ≡ Laws.cuts_of bs
unfolding cuts_of
same-cuts [] = refl
same-cuts (b ∷ bs) = ap (λ (x : List ℕ). b.cut ∷ x) (same-cuts bs)

as_many : (p : Pair) (cuts : List ℕ) → length (bands_from p cuts) ≡ length cuts
unfolding bands_from
as_many p [] = refl
as_many p (c ∷ cs) = ap suc (as_many p cs)

cuts-handed : (p : Pair) (cuts : List ℕ) → cuts_of (bands_from p cuts) ≡ cuts
unfolding bands_from cuts_of
cuts-handed p [] = refl
cuts-handed p (c ∷ cs) = ap (λ (x : List ℕ). c ∷ x) (cuts-handed p cs)

all_held : (p : Pair) (cuts : List ℕ) → Is64 p.occupied → Is64 p.free → HeldBands (bands_from p cuts)
unfolding bands_from
all_held p [] a b = tt
all_held p (c ∷ cs) a b = (a, b, all_held p cs a b)

-- ---- the head with the cuts
pub record Laid (cuts : List ℕ) (h : Head) (odds : List Float) : Type 0 where
  pub many : length (with_cuts cuts h).model.above ≡ length cuts
  pub handed : cuts_of (with_cuts cuts h).model.above ≡ cuts
  pub alike : equal_pairs (with_cuts cuts h).model.lowest (with_cuts cuts h).model.above ≡ true
  pub passes : head_refusal (uses_of_writing false) (with_cuts cuts h) (length odds) 0 ≡ none
  pub held : Held (with_cuts cuts h) odds
  pub tried : grid_tried false (with_cuts cuts h).model h.frame (row_width h.extents) (row_count h.extents) (rows_offset (length h.extents)) (unstamped odds)
      ≡ given tt
  pub first-pair : record_bytes (with_cuts cuts h) odds ≡ record_bytes h odds

pub laid : (cuts : List ℕ) (h : Head) (odds : List Float) → cuts_in_bounds h.extents (with_cuts cuts (plain_head h)).model ≡ true
    → Tests (plain_head h) (length odds) → Held (plain_head h) odds
    → rows_checked (plain_head h).model (row_width h.extents) (row_count h.extents) (rows_offset (length h.extents)) odds ≡ given tt
    → Laid cuts (plain_head h) odds
unfolding cuts_of equal_pairs record_bytes bounded
laid [] h odds fit t held checked =
    record {
      many = refl;
      handed = refl;
      alike = refl;
      passes = edition_passes false (with_cuts [] (plain_head h)) (length odds) 0 t (λ e. let z : ◌≡◌ {A = ℕ} 0 1 = cc in absurd (omega arith));
      held = held;
      tried = closed_tried (plain_head h).model h.frame _ _ _ odds [] ∙ checked;
      first-pair = refl;
    }
laid (c ∷ cs) h odds fit t held checked =
    let k = with_cuts (c ∷ cs) (plain_head h) in
    record {
      many = as_many h.model.lowest (c ∷ cs);
      handed = cuts-handed h.model.lowest (c ∷ cs);
      alike = from-one-pair h.model.lowest (c ∷ cs);
      passes = edition_passes false k (length odds) 0
          (record {
            extents = t.extents;
            model = all_alike (pair_bounded h.model.ceiling) h.model.lowest (c ∷ cs) (lowest_bounded (plain_head h).model t.model);
            cuts = fit;
            frame = t.frame;
            count = t.count;
          })
          (λ e. let z : ◌≡◌ {A = ℕ} 0 1 = cc in absurd (omega arith));
      held = record {
        occupied = held.occupied;
        free = held.free;
        ceiling = held.ceiling;
        above = all_held h.model.lowest (c ∷ cs) held.occupied held.free;
        layer = unfold bands_from in refl;
        each_odds = held.each_odds;
      };
      tried = closed_tried k.model h.frame _ _ _ odds [] ∙ rows_by_ceiling k.model (plain_head h).model refl _ _ _ odds ∙ checked;
      first-pair = refl;
    }

-- ---- a closed record has no stamps
pub closed_alike : (h : Head) (g : Grid) → edition_bytes h false g ≡ edition_bytes h false (unstamped g.odds)
unfolding edition_bytes
closed_alike h g =
    let w = row_width h.extents in
    let n = row_count h.extents in
    ap (λ (x : List ℕ).
    field edition_tag (edition_two ∷ [])
    ++ field extents_tag (extent_bytes h.extents)
    ++ bands_bytes h.model
    ++ field frame_tag (little_endian word_size h.frame)
    ++ field open_tag (open_byte false ∷ [])
    ++ x
    ++ field end_tag [])
    (closed_bytes w n g.odds g.stamps ∙ sym (closed_bytes w n g.odds []))
