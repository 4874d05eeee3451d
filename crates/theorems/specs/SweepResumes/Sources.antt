-- Maps that can be stored with their sweep open: one that was read from a record of edition 2, open or closed, and a
-- new one. Assumes nothing.
use Rattle.std.specs.Prelude.{ℕ, zero, suc, ◌+◌, ◌*◌, ◌<◌, Bool, true, false, cond, ◌&&◌, List, [], ◌∷◌, ◌≡◌, refl, length, take, drop, replicate, Float}
use Rattle.std.proofs.Math.Option.{none}
use Rattle.std.proofs.Common.{sym, ap, ap₂, ◌∙◌, subst, zero-mul, arith}
use Rattle.std.proofs.lemmas.List.{length-replicate}
use Rattle.std.specs.Float.{nan}
use Rattle.std.specs.Float.Ieee.{fits}
use Rattle.rules.specs.Floats.{zero_f}
use Rattle.rules.specs.RefusalNumbers.{Answer, given, refused, and_then, bad_buffer}
use Rattle.rules.specs.RefusalNumbers.Entries.{Outcome, head_refusal, uses_of, new, new_entry}
use Rattle.rules.specs.RefusalNumbers.Editions.{Loaded, uses_of_writing, load_answer, read_edition_entry}
use Rattle.rules.specs.TheGridAndItsBounds.{Model, Head, Grid, cells, bounded, one_per_cell, fresh_grid, fresh_frame}
use Rattle.rules.specs.MarksAndFrames.{open_frame}
use Rattle.rules.specs.Fields.{rows_tried}
use Rattle.rules.specs.MapRecord.{from_floor_to_ceiling, odds_in_bounds, row_width, row_count}
use Rattle.rules.specs.EditionTwo.{cuts_for, none_above, behind_row, row_size, grid_tried, Kept, edition_of}
use Rattle.laws.specs.Checks.{passed}
use Rattle.record_laws.specs.Words.{Is64, Are64, Held}
use Rattle.record_laws.specs.Each.{each_nil, each_cons, both}
use Rattle.record_laws.specs.Fields.{sound_given}
use Rattle.record_laws.specs.Rows.{rows_left}
use Rattle.record_laws.specs.Heads.{rows_are_cells, tests_of_lem, edition_passes}
use Rattle.record_laws.specs.EditionTwo.Words.{SoundEdition}
use Rattle.record_laws.specs.EditionTwo.Read.{edition_sound}
use Rattle.theorems.specs.StationsLists.OneCall.{not_refused}
use Rattle.theorems.specs.SweepResumes.Words.{Storable}
use Rattle.theorems.specs.SweepResumes.Bounds.{zero-within}
use Rattle.theorems.specs.SweepResumes.Stored.{zeros_none_above}

-- ---- rows within the bounds are lists within them
within_both : (m : Model) (n : ℕ) (xs : List Float) → odds_in_bounds m (take n xs) ≡ true → odds_in_bounds m (drop n xs) ≡ true → odds_in_bounds m xs ≡ true
unfolding odds_in_bounds
within_both m zero xs p q = q
within_both m (suc n) [] p q = refl
within_both m (suc n) (x ∷ xs) p q = let t = both (from_floor_to_ceiling m x) (odds_in_bounds m (take n xs)) p in rw t.0 (within_both m n xs t.1 q)

first_given : {A B : Type 0} (a : Answer A) (go : A → Answer B) (b : B) → and_then a go ≡ given b → (x : A) × (a ≡ given x) × (go x ≡ given b)
first_given (given x) go b e = (x, refl, e)
first_given (refused r) go b e = let z : ◌≡◌ {A = ℕ} 0 1 = cc in absurd (omega arith)

rows_within : (running : Bool) (m : Model) (k w n o : ℕ) (g : Grid) → grid_tried running m k w n o g ≡ given tt → length g.odds ≡ n * w
    → odds_in_bounds m g.odds ≡ true
unfolding grid_tried rows_tried odds_in_bounds
rows_within running m k w zero o g t e = empty g.odds (e ∙ zero-mul w)
  where
    empty : (xs : List Float) → length xs ≡ 0 → odds_in_bounds m xs ≡ true
    empty [] l = refl
    empty (x ∷ xs) l = absurd (omega arith)
rows_within running m k w (suc n) o g t e =
    let c = first_given _ (λ (u : Unit {0}). grid_tried running m k w n (o + row_size running w) (behind_row w g)) tt t in
    let s = sound_given o (odds_in_bounds m (take w g.odds)) tt _ c.0 c.1 in
    within_both m w g.odds s.0 (rows_within running m k w n (o + row_size running w) (behind_row w g) c.2 (rows_left w n g.odds e).1)

-- ---- a sound record
module _ (axes : ℕ) (bytes : List ℕ) (k : Kept) (some-axis : 0 < axes) (s : SoundEdition axes bytes k) where
  has_axis : 0 < length k.head.extents
  has_axis = subst (λ (n : ℕ). 0 < n) (sym s.axes_are) some-axis

  stamp_each : (b : Bool) → k.running ≡ b → length k.grid.stamps ≡ cells k.head.extents
  stamp_each true e = (passed (uses_of_writing k.running) k.head (length k.grid.odds) (length k.grid.stamps) s.passes).stamps_count (rw e tt)
  stamp_each false e = ap length (s.stamps-none e) ∙ length-replicate (cells k.head.extents) 0

  fit : (b : Bool) → k.running ≡ b → none_above k.head.frame k.grid.stamps ≡ true
  fit true e = s.stamps_fit e
  fit false e = ap (none_above k.head.frame) (s.stamps-none e) ∙ zeros_none_above k.head.frame (cells k.head.extents)

  pub sound_storable : Storable k.head k.grid
  sound_storable =
      let es = k.head.extents in
      let t = (tests_of_lem (uses_of_writing k.running) k.head (length k.grid.odds) (length k.grid.stamps) tt tt tt s.passes).0 in
      record {
        passes = edition_passes true k.head (length k.grid.odds) (length k.grid.stamps) t (λ e. stamp_each k.running refl);
        some-axis = has_axis;
        cuts_are = s.cuts_are ∙ sym (ap cuts_for s.axes_are);
        held = s.held;
        odds-within = rows_within k.running k.head.model k.head.frame (row_width es) (row_count es) 0 k.grid (s.tried 0) (t.count ∙ rows_are_cells es has_axis);
        none_above_lem = fit k.running refl;
      }

-- what reading leaves of a grid by whether it has the sizes
abbrev loaded_by : Kept → Grid → Bool → Outcome Loaded Grid
loaded_by k g b = cond b (record { answer = given (record { head = k.head; running = k.running }); lent = k.grid }) (record { answer = refused bad_buffer; lent = g })

pub read_storable : (axes : ℕ) (bytes : List ℕ) (g : Grid) (l : Loaded) → 0 < axes → (read_edition_entry axes bytes g).answer ≡ given l
    → Storable l.head (read_edition_entry axes bytes g).lent
unfolding read_edition_entry
read_storable axes bytes g l some-axis e = go (edition_of axes bytes) refl e
  where
    sized : (k : Kept) (b : Bool) → edition_of axes bytes ≡ given k → (loaded_by k g b).answer ≡ given l → Storable l.head (loaded_by k g b).lent
    sized k true q t =
        let same : k.head ≡ l.head = cc in
        subst (λ (h : Head). Storable h k.grid) same (sound_storable axes bytes k some-axis (edition_sound axes bytes k some-axis q))
    sized k false q t = let z : ◌≡◌ {A = ℕ} 0 1 = cc in absurd (omega arith)

    go : (a : Answer Kept) → edition_of axes bytes ≡ a → (load_answer g a).answer ≡ given l → Storable l.head (load_answer g a).lent
    go (given k) q t = sized k (one_per_cell k.head.extents (length g.odds) && one_per_cell k.head.extents (length g.stamps)) q t
    go (refused r) q t = let z : ◌≡◌ {A = ℕ} 0 1 = cc in absurd (omega arith)

-- ---- a new map
pub zeros_fit : (n : ℕ) → Are64 (replicate n zero_f)
unfolding fits
zeros_fit zero = each_nil Is64 nan
zeros_fit (suc n) = each_cons Is64 nan zero_f (replicate n zero_f) refl (zeros_fit n)

zeros_within : (m : Model) → bounded m ≡ true → (n : ℕ) → odds_in_bounds m (replicate n zero_f) ≡ true
unfolding odds_in_bounds
zeros_within m b zero = refl
zeros_within m b (suc n) = rw (zero-within m b 0) (zeros_within m b n)

-- the head that `new` answers
abbrev new_head : List ℕ → Model → Head
new_head es m = record { extents = es; model = m; frame = fresh_frame }

-- frame 1 passes, so that what `new` checks is what writing checks
new_passes : (es : List ℕ) (m : Model) (odds stamps : ℕ) → head_refusal (uses_of new) (new_head es m) odds stamps ≡ none
    → head_refusal (uses_of_writing true) (new_head es m) odds stamps ≡ none
unfolding head_refusal open_frame
new_passes es m odds stamps e = e

fresh_storable : (es : List ℕ) (m : Model) (odds stamps : ℕ) → 0 < length es → length m.above ≡ cuts_for (length es) → Held (new_head es m) []
    → head_refusal (uses_of new) (new_head es m) odds stamps ≡ none → Storable (new_head es m) (fresh_grid es)
unfolding fresh_grid
fresh_storable es m odds stamps some-axis cuts held e =
    let h = new_head es m in
    let w = new_passes es m odds stamps e in
    let p = passed (uses_of_writing true) h odds stamps w in
    let b = (tests_of_lem (uses_of_writing true) h odds stamps tt tt tt w).0.model in
    let n = cells es in
    record {
      passes = ap₂ (λ (i j : ℕ). head_refusal (uses_of_writing true) h i j) (length-replicate n zero_f ∙ sym (p.odds_count tt)) (length-replicate n 0 ∙ sym (p.stamps_count tt)) ∙ w;
      some-axis = some-axis;
      cuts_are = cuts;
      held = record { occupied = held.occupied; free = held.free; ceiling = held.ceiling; above = held.above; layer = held.layer; each_odds = zeros_fit n };
      odds-within = zeros_within m b n;
      none_above_lem = zeros_none_above fresh_frame n;
    }

pub new_storable : (es : List ℕ) (m : Model) (g : Grid) (h : Head) → 0 < length es → length m.above ≡ cuts_for (length es) → Held h []
    → (new_entry es m g).answer ≡ given h → Storable h (new_entry es m g).lent
unfolding new_entry
new_storable es m g h some-axis cuts held e =
    let k = new_head es m in
    let p = not_refused (head_refusal (uses_of new) k (length g.odds) (length g.stamps)) g (record { answer = given k; lent = fresh_grid es }) h e in
    let same : k ≡ h = cc p.1 in
    rw p.0 (subst (λ (x : Head). Storable x (fresh_grid es)) same
    (fresh_storable es m (length g.odds) (length g.stamps) some-axis cuts (subst (λ (x : Head). Held x []) (sym same) held) p.0))
