-- A map with an open sweep written and read again: writing refuses it for want of room alone, and reading gives it
-- back; and what `begin_scan` keeps of it. Assumes nothing.
use Rattle.std.specs.Prelude.{ℕ, zero, suc, ◌+◌, ◌≤◌, ◌<◌, Bool, false, cond, List, [], ◌∷◌, ◌++◌, ◌≡◌, leb, length, take, drop, replicate, Float}
use Rattle.std.proofs.Math.Bool.{true}
use Rattle.std.proofs.Math.Path.{refl}
use Rattle.std.proofs.Common.{ap, ◌∙◌, arith, take_at}
use borrow.Author.Tests.{le-leb, lt-leb, leb-true, eq-eqb}
use Rattle.std.specs.Float.{Format, binary64}
use Rattle.rules.specs.RefusalNumbers.{Answer, given, refused, no_room}
use Rattle.rules.specs.RefusalNumbers.Entries.{Outcome, head_refusal, extents_refusal, begin_scan_entry}
use Rattle.rules.specs.RefusalNumbers.Editions.{Loaded, uses_of_writing, write_edition_entry, read_edition_entry}
use Rattle.rules.specs.TheGridAndItsBounds.{Model, Head, Grid, cells, one_per_cell, fresh_frame}
use Rattle.rules.specs.MarksAndFrames.{frame_of, highest_frame, opened_frame, opened_stamps}
use Rattle.rules.specs.MapRecord.{from_floor_to_ceiling, odds_in_bounds, row_width, row_count}
use Rattle.rules.specs.EditionTwo.{none_above, behind_row, grid_tried, grid_offset, edition_size, edition_bytes, edition_room, edition_writable}
use Rattle.rules.specs.Fields.{rows_tried}
use Rattle.beam.proofs.MarkLists.{marked-odds, marked-stamps}
use Rattle.laws.specs.Checks.{passed}
use Rattle.record_laws.specs.Each.{both}
use Rattle.record_laws.specs.Heads.{tests_of_lem, edition_passes}
use Rattle.record_laws.specs.EditionTwo.Back.{edition_back}
use Rattle.record_laws.specs.EditionTwo.Written.{edition-length}
use Rattle.theorems.specs.PromiseThree.{head_opened, grid_opened}
use Rattle.theorems.specs.PromiseThree.Proof.{opened-length}
use Rattle.theorems.specs.PromiseThree.Entries.{opened_open}
use Rattle.theorems.specs.StationsLists.Words.{Call, outcome, left}
use Rattle.theorems.specs.StationsLists.OneCall.{neither}
use Rattle.theorems.specs.SweepResumes.Words.{Storable, answers, resumed, Resumes}
use Rattle.theorems.specs.SweepResumes.AnyCall.{calls_made}
use Rattle.theorems.specs.SweepResumes.Marks.{calls-none-above, calls-within, calls_fit}

-- ---- the rows, from the whole lists
within-take : (m : Model) (n : ℕ) (xs : List Float) → odds_in_bounds m xs ≡ true → odds_in_bounds m (take n xs) ≡ true
unfolding odds_in_bounds
within-take m zero xs e = refl
within-take m (suc n) [] e = refl
within-take m (suc n) (x ∷ xs) e = let t = both (from_floor_to_ceiling m x) (odds_in_bounds m xs) e in rw t.0 (within-take m n xs t.1)

within-drop : (m : Model) (n : ℕ) (xs : List Float) → odds_in_bounds m xs ≡ true → odds_in_bounds m (drop n xs) ≡ true
unfolding odds_in_bounds
within-drop m zero xs e = e
within-drop m (suc n) [] e = e
within-drop m (suc n) (x ∷ xs) e = within-drop m n xs (both (from_floor_to_ceiling m x) (odds_in_bounds m xs) e).1

none-above-take : (k n : ℕ) (ss : List ℕ) → none_above k ss ≡ true → none_above k (take n ss) ≡ true
unfolding none_above
none-above-take k zero ss e = refl
none-above-take k (suc n) [] e = refl
none-above-take k (suc n) (s ∷ ss) e = let t = both (leb (frame_of s) k) (none_above k ss) e in rw t.0 (none-above-take k n ss t.1)

none-above-drop : (k n : ℕ) (ss : List ℕ) → none_above k ss ≡ true → none_above k (drop n ss) ≡ true
unfolding none_above
none-above-drop k zero ss e = e
none-above-drop k (suc n) [] e = e
none-above-drop k (suc n) (s ∷ ss) e = none-above-drop k n ss (both (leb (frame_of s) k) (none_above k ss) e).1

rows_tried_lem : (m : Model) (k w n o : ℕ) (g : Grid) → odds_in_bounds m g.odds ≡ true → none_above k g.stamps ≡ true → grid_tried true m k w n o g ≡ given tt
unfolding grid_tried rows_tried
rows_tried_lem m k w zero o g p q = refl
rows_tried_lem m k w (suc n) o g p q =
    rw (within-take m w g.odds p, none-above-take k w g.stamps q)
    (rows_tried_lem m k w n _ (behind_row w g) (within-drop m w g.odds p) (none-above-drop k w g.stamps q))

-- ---- writing and reading
module _ (h : Head) (g : Grid) (s : Storable h g) where
  tried : (o : ℕ) → grid_tried true h.model h.frame (row_width h.extents) (row_count h.extents) o g ≡ given tt
  tried o = rows_tried_lem h.model h.frame _ _ o g s.odds-within s.none_above_lem

  pub writes : (out : List ℕ) → edition_size h.extents true ≤ length out
      → write_edition_entry h true g out
      ≡ record { answer = given (edition_size h.extents true); lent = edition_bytes h true g ++ drop (edition_size h.extents true) out }
  unfolding write_edition_entry edition_writable edition_room
  writes out room = rw (s.passes, tried (grid_offset (length h.extents)), le-leb (edition_size h.extents true) (length out) room) refl

  pub wants_room : (out : List ℕ) → length out < edition_size h.extents true
      → write_edition_entry h true g out ≡ record { answer = refused (no_room (edition_size h.extents true)); lent = out }
  unfolding write_edition_entry edition_writable edition_room
  wants_room out short = rw (s.passes, tried (grid_offset (length h.extents)), lt-leb (edition_size h.extents true) (length out) short) refl

  reads : (other : Grid) → length other.odds ≡ cells h.extents → length other.stamps ≡ cells h.extents
      → read_edition_entry (length h.extents) (edition_bytes h true g) other ≡ record { answer = given (record { head = h; running = true }); lent = g }
  unfolding read_edition_entry one_per_cell
  reads other p q = rw (edition_back h true g 0 s.cuts_are s.some-axis s.passes (tried 0) s.held, eq-eqb _ _ p, eq-eqb _ _ q) refl

  pub read_back : (out : List ℕ) (other : Grid) → edition_size h.extents true ≤ length out → length other.odds ≡ cells h.extents
      → length other.stamps ≡ cells h.extents → resumed h g out other ≡ record { answer = given (record { head = h; running = true }); lent = g }
  read_back out other room p q =
      let n = edition_size h.extents true in
      ap (λ (x : Outcome ℕ (List ℕ)). read_edition_entry (length h.extents) (take n x.lent) other) (writes out room)
      ∙ ap (λ (x : List ℕ). read_edition_entry (length h.extents) x other)
      (take_at (edition_bytes h true g) (drop n out) n (edition-length h true g s.cuts_are s.some-axis s.passes))
      ∙ reads other p q

-- ---- `begin_scan`
none_above_higher : (k l : ℕ) (ss : List ℕ) → k ≤ l → none_above k ss ≡ true → none_above l ss ≡ true
unfolding none_above
none_above_higher k l [] p e = refl
none_above_higher k l (s ∷ ss) p e =
    let t = both (leb (frame_of s) k) (none_above k ss) e in
    let low = leb-true (frame_of s) k t.0 in
    rw (le-leb (frame_of s) l (omega arith), none_above_higher k l ss p t.1) refl

pub zeros_none_above : (k n : ℕ) → none_above k (replicate n 0) ≡ true
unfolding none_above
zeros_none_above k zero = refl
zeros_none_above k (suc n) = rw (le-leb (frame_of 0) k (omega arith)) (zeros_none_above k n)

opened-none-above : (k : ℕ) (ss : List ℕ) → none_above k ss ≡ true → none_above (opened_frame k) (opened_stamps k ss) ≡ true
unfolding opened_frame opened_stamps
opened-none-above k ss e = go (leb highest_frame k)
  where
    go : (b : Bool) → none_above (cond b fresh_frame (k + 1)) (cond b (replicate (length ss) 0) ss) ≡ true
    go true = zeros_none_above 1 (length ss)
    go false = none_above_higher k (k + 1) ss (omega arith) e

module _ (h : Head) (g : Grid) (s : Storable h g) where
  one_stamp : length g.stamps ≡ cells h.extents
  one_stamp = (passed (uses_of_writing true) h (length g.odds) (length g.stamps) s.passes).stamps_count tt

  pub begins : begin_scan_entry h g.stamps ≡ record { answer = given (head_opened h); lent = (grid_opened h g).stamps }
  unfolding begin_scan_entry head_refusal one_per_cell
  begins = rw ((neither (extents_refusal h.extents) _ s.passes).0, eq-eqb _ _ one_stamp) refl

  pub opened_storable : Storable (head_opened h) (grid_opened h g)
  opened_storable =
      let t = (tests_of_lem (uses_of_writing true) h (length g.odds) (length g.stamps) tt tt tt s.passes).0 in
      record {
        passes = edition_passes true (head_opened h) (length g.odds) (length (grid_opened h g).stamps)
            (record { extents = t.extents; model = t.model; cuts = t.cuts; frame = opened_open h.frame; count = t.count })
            (λ e. opened-length h.frame g.stamps ∙ one_stamp);
        some-axis = s.some-axis;
        cuts_are = s.cuts_are;
        held = record {
          occupied = s.held.occupied;
          free = s.held.free;
          ceiling = s.held.ceiling;
          above = s.held.above;
          layer = s.held.layer;
          each_odds = s.held.each_odds;
        };
        odds-within = s.odds-within;
        none_above_lem = opened-none-above h.frame g.stamps s.none_above_lem;
      }

-- ---- calls
module _ (h : Head) (g : Grid) (s : Storable h g) (cs : List Call) where
  left-odds : length (left binary64 h cs g).odds ≡ length g.odds
  left-odds = rw (calls_made binary64 h cs g).1 (marked-odds binary64 h.model h.frame _ g)

  left-stamps : length (left binary64 h cs g).stamps ≡ length g.stamps
  left-stamps = rw (calls_made binary64 h cs g).1 (marked-stamps binary64 h.model h.frame _ g)

  pub left_storable : Storable h (left binary64 h cs g)
  left_storable =
      let b = (tests_of_lem (uses_of_writing true) h (length g.odds) (length g.stamps) tt tt tt s.passes).0.model in
      record {
        passes = rw (left-odds, left-stamps) s.passes;
        some-axis = s.some-axis;
        cuts_are = s.cuts_are;
        held = record {
          occupied = s.held.occupied;
          free = s.held.free;
          ceiling = s.held.ceiling;
          above = s.held.above;
          layer = s.held.layer;
          each_odds = calls_fit binary64 h cs g b s.held.ceiling s.held.each_odds;
        };
        odds-within = calls-within binary64 h cs g b s.odds-within;
        none_above_lem = calls-none-above binary64 h cs g s.none_above_lem;
      }

-- ---- going on
left-joined : (f : Format) (h : Head) (cs ds : List Call) (g : Grid) → left f h ds (left f h cs g) ≡ left f h (cs ++ ds) g
left-joined f h [] ds g = refl
left-joined f h (c ∷ cs) ds g = left-joined f h cs ds (outcome f h c g).lent

answers-joined : (f : Format) (h : Head) (cs ds : List Call) (g : Grid) → answers f h cs g ++ answers f h ds (left f h cs g) ≡ answers f h (cs ++ ds) g
answers-joined f h [] ds g = refl
answers-joined f h (c ∷ cs) ds g = ap (λ (x : List (Answer ℕ)). (outcome f h c g).answer ∷ x) (answers-joined f h cs ds (outcome f h c g).lent)

module _ (h : Head) (g : Grid) (s : Storable h g) (cs ds : List Call) (out : List ℕ) (other : Grid) where
  pub resumes : edition_size h.extents true ≤ length out → length other.odds ≡ cells h.extents → length other.stamps ≡ cells h.extents
      → Resumes h g cs ds out other
  resumes room p q =
      let x = left binary64 h cs g in
      let t = left_storable h g s cs in
      let back = read_back h x t out other room p q in
      let lists : (resumed h x out other).lent ≡ x = ap (λ (o : Outcome Loaded Grid). o.lent) back in
      record {
        written = ap (λ (o : Outcome ℕ (List ℕ)). o.answer) (writes h x t out room);
        head_back = ap (λ (o : Outcome Loaded Grid). o.answer) back;
        odds_back = ap (λ (y : Grid). y.odds) lists;
        stamps_back = ap (λ (y : Grid). y.stamps) lists;
        same_lists = ap (left binary64 h ds) lists ∙ left-joined binary64 h cs ds g;
        same-answers = ap (λ (y : Grid). answers binary64 h cs g ++ answers binary64 h ds y) lists ∙ answers-joined binary64 h cs ds g;
      }
