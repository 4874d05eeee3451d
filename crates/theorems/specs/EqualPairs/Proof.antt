-- Equal pairs are one pair, proved: the pair of every place is the lowest band's, so marks, sets and integrated beams
-- are the same, and so is what is refused. Assumes nothing.
use Prim.Native.Nat.{ℕ, zero, suc, ◌/◌, ◌+◌}
use Rattle.std.specs.Prelude.{Bool, true, false, ◌&&◌, ◌≡◌, T, ltb, eqb, length, take, drop, replicate}
use Rattle.std.proofs.Math.Bool.{cond}
use mathlib.Core.List.{List, [], ◌∷◌}
use Rattle.std.proofs.Math.Option.{Option, some, none}
use Rattle.std.proofs.Math.Path.{refl, ap}
use Rattle.std.proofs.Common.{sym, ap₂, ◌∙◌}
use Rattle.std.specs.Float.Ieee.{Float, to_bits}
use Rattle.std.specs.Float.{Format, binary64}
use Rattle.std.specs.Float.Ieee.Fits.{eq→eqb}
use Rattle.std.proofs.Math.ListN.{set}
use Rattle.rules.specs.RefusalNumbers.{Refusal, Answer, given, refused, bad_buffer}
use Rattle.rules.specs.RefusalNumbers.Entries.{Outcome, Uses, head_refusal, uses_of, unless_refused, mark_answer, set_answer, checked_answer, read_answer, write_answer}
use Rattle.rules.specs.RefusalNumbers.Entries.{new_entry, reset_entry, begin_scan_entry, mark_entry, update_ray_entry, update_scan_entry, update_beams_entry}
use Rattle.rules.specs.RefusalNumbers.Entries.{set_log_odds_entry, set_log_odds_checked_entry, log_odds_at_entry, sample_log_odds_entry, cell_containing_entry}
use Rattle.rules.specs.RefusalNumbers.Entries.{read_record_entry, write_record_entry}
use Rattle.rules.specs.RefusalNumbers.Entries as Entries
use Rattle.rules.specs.TheGridAndItsBounds.{fresh_frame, pair_bounded, one_per_cell, Pair, Band, Model, Head, Grid, all_pairs, bounded, floor, pair_at, cuts_below, cuts_in_bounds}
use Rattle.rules.specs.Coordinates.{flat_index}
use Rattle.rules.specs.Fields.{field_size, rows_tried}
use Rattle.rules.specs.MapRecord.{row_length, row_width, row_count, rows_offset}
use Rattle.rules.specs.MapRecord.{Stored, record_of, bands_from, model_with_cuts, with_cuts}
use Rattle.rules.specs.MapRecord.{same_bits, same_pair, equal_pairs, pairs_checked, rows_checked, odds_in_bounds, writable, record_bytes}
use Rattle.rules.specs.MarksAndFrames.{Mark, Marked, Steps, steps_at, steps_with, limited, set_odds, mark_cell, mark_at, cell_at, with_cell, marked, changes}
use Rattle.rules.specs.OneBeam.{Beam, Integrated, beam_marks, integrated_marks, integrated_beam, or_stop, integrated_from, integrated, beams_of}
use Rattle.rules.specs.SweepFile.{Sweep, sweep_of, sweep_answer, swept_by, update_sweep_entry}
use Rattle.rules.specs.VerticalBeam.{vertical_marks, update_vertical_entry}
use Rattle.rules.specs.ManySamples.{sample_all_log_odds_entry}
use Rattle.theorems.specs.EqualPairs.{AllHave, OnePair, plain, plainly, Alike, ReadAlike, EqualPairsAreOne}
use Rattle.record_laws.specs.Words.{plain_head}
use Rattle.record_laws.specs.Read.{read_plain}

-- ---- pairs
either_same : {A : Type 0} (b : Bool) (x y : A) → x ≡ y → cond b x y ≡ y
either_same true x y e = e
either_same false x y e = refl

-- the pair at every height is the lowest one's
pub pair_everywhere : (height : ℕ) (p : Pair) (bs : List Band) → AllHave p bs → pair_at height p bs ≡ p
unfolding pair_at
pair_everywhere height p [] a = refl
pair_everywhere height p (b ∷ bs) a =
    let r : pair_at height b.pair bs ≡ p = ap (λ (q : Pair). pair_at height q bs) a.0 ∙ pair_everywhere height p bs a.1 in
    either_same (ltb height b.cut) p (pair_at height b.pair bs) (sym r) ∙ r

twice : (b : Bool) → b && b ≡ b
twice true = refl
twice false = refl

one_test : (test : Pair → Bool) (p : Pair) (bs : List Band) → AllHave p bs → all_pairs test p bs ≡ test p
unfolding all_pairs
one_test test p [] a = refl
one_test test p (b ∷ bs) a =
    ap (λ (q : Pair). test p && all_pairs test q bs) a.0 ∙ ap (λ (t : Bool). test p && t) (one_test test p bs a.1) ∙ twice (test p)

-- bands from cuts, and a pair that equals the first one's in every bit
pub bands_have : (p : Pair) (cuts : List ℕ) → AllHave p (bands_from p cuts)
unfolding bands_from
bands_have p [] = tt
bands_have p (c ∷ cs) = (refl, bands_have p cs)

holds : (b : Bool) → T b → b ≡ true
holds true t = refl
holds false t = absurd t

same_bits_lem : (x : Float) → same_bits x x ≡ true
unfolding same_bits
same_bits_lem x = holds (eqb (to_bits binary64 x) (to_bits binary64 x)) (eq→eqb {a = to_bits binary64 x} refl)

same-pair : (p : Pair) → same_pair p p ≡ true
unfolding same_pair
same-pair p = ap₂ (λ (a b : Bool). a && b) (same_bits_lem p.occupied) (same_bits_lem p.free)

equal_pairs_lem : (p : Pair) (bs : List Band) → AllHave p bs → equal_pairs p bs ≡ true
unfolding equal_pairs
equal_pairs_lem p [] a = refl
equal_pairs_lem p (b ∷ bs) a = ap₂ (λ (c d : Bool). c && d) (ap (same_pair p) a.0 ∙ same-pair p) (equal_pairs_lem p bs a.1)

-- ---- what a model with equal pairs does
module _ (f : Format) (m : Model) (a : AllHave m.lowest m.above) where
  pub steps : (place : ℕ) → steps_at m place ≡ steps_at (plain m) place
  unfolding steps_at floor pair_at
  steps place = ap (steps_with m) (pair_everywhere (place / m.layer) m.lowest m.above a)

  mark_same : (k : ℕ) (x : Mark) (g : Grid) → mark_at f m k x g ≡ mark_at f (plain m) k x g
  unfolding mark_at
  mark_same k x g = ap (λ (s : Steps). mark_cell f s k x.occupied (cell_at g x.place)) (steps x.place)

  marked-same : (k : ℕ) (xs : List Mark) (g : Grid) → marked f m k xs g ≡ marked f (plain m) k xs g
  unfolding marked
  marked-same k [] g = refl
  marked-same k (x ∷ xs) g =
      ap (λ (r : Marked). marked f m k xs (with_cell g x.place r.cell)) (mark_same k x g)
      ∙ marked-same k xs (with_cell g x.place (mark_at f (plain m) k x g).cell)

  changes-same : (k : ℕ) (xs : List Mark) (g : Grid) → changes f m k xs g ≡ changes f (plain m) k xs g
  unfolding changes
  changes-same k [] g = refl
  changes-same k (x ∷ xs) g =
      ap (λ (r : Marked). cond r.changed 1 0 + changes f m k xs (with_cell g x.place r.cell)) (mark_same k x g)
      ∙ ap (λ (n : ℕ). cond (mark_at f (plain m) k x g).changed 1 0 + n) (changes-same k xs (with_cell g x.place (mark_at f (plain m) k x g).cell))

  pub marks_same : (k : ℕ) (g : Grid) (xs : Answer (List Mark)) → integrated_marks f m k g xs ≡ integrated_marks f (plain m) k g xs
  marks_same k g (given xs) = rw (marked-same k xs g, changes-same k xs g) refl
  marks_same k g (refused r) = refl

  pub beam-same : (es : List ℕ) (k : ℕ) (b : Beam) (g : Grid) → integrated_beam f es m k b g ≡ integrated_beam f es (plain m) k b g
  unfolding integrated_beam
  beam-same es k b g = marks_same k g (beam_marks f es b)

  from-same : (es : List ℕ) (k place count : ℕ) (bs : List Beam) (g : Grid)
      → integrated_from f es m k place count bs g ≡ integrated_from f es (plain m) k place count bs g
  unfolding integrated_from
  from-same es k place count [] g = refl
  from-same es k place count (b ∷ bs) g =
      ap (λ (r : Integrated). or_stop place count r.grid r.answer (λ n. integrated_from f es m k (suc place) n bs r.grid)) (beam-same es k b g)
      ∙ go (integrated_beam f es (plain m) k b g).answer (integrated_beam f es (plain m) k b g).grid (λ n q. from-same es k (suc place) n bs q)
    where
      go : (r : Answer ℕ) (q : Grid)
          → ((n : ℕ) (q : Grid) → integrated_from f es m k (suc place) n bs q ≡ integrated_from f es (plain m) k (suc place) n bs q)
          → or_stop place count q r (λ n. integrated_from f es m k (suc place) n bs q)
          ≡ or_stop place count q r (λ n. integrated_from f es (plain m) k (suc place) n bs q)
      go (given n) q on = on (count + n) q
      go (refused r) q on = refl

  pub list_same : (es : List ℕ) (k : ℕ) (bs : List Beam) (g : Grid) → integrated f es m k bs g ≡ integrated f es (plain m) k bs g
  unfolding integrated
  list_same es k bs g = from-same es k 0 0 bs g

  pub odds-same : (place : ℕ) (x : Float) (odds : List Float) → set_odds m place x odds ≡ set_odds (plain m) place x odds
  unfolding set_odds
  odds-same place x odds = ap (λ (s : Steps). set odds place (limited s x)) (steps place)

  bounds_same : (xs : List Float) → odds_in_bounds m xs ≡ odds_in_bounds (plain m) xs
  unfolding odds_in_bounds floor
  bounds_same [] = refl
  bounds_same (x ∷ xs) = rw (bounds_same xs) refl

  rows_same : (width n offset : ℕ) (odds : List Float) → rows_checked m width n offset odds ≡ rows_checked (plain m) width n offset odds
  unfolding rows_checked rows_tried
  rows_same width zero offset odds = refl
  rows_same width (suc n) offset odds =
      rw (bounds_same (take width odds), rows_same width n (offset + field_size (row_length width)) (drop width odds)) refl

-- ---- the entries
-- what is refused is the same
refusals : (h : Head) → OnePair h → (u : Uses) (odds stamps : ℕ) → head_refusal u h odds stamps ≡ head_refusal u (plain_head h) odds stamps
unfolding head_refusal bounded all_pairs cuts_in_bounds cuts_below
refusals h o u odds stamps =
    rw (one_test (pair_bounded h.model.ceiling) h.model.lowest h.model.above o.pairs, holds (cuts_in_bounds h.extents h.model) o.cuts) refl

-- a head with the model, answered unless something is refused
head_answer : {L : Type 0} (r q : Option Refusal) (h : Head) (kept left : L) → r ≡ q
    → plainly (unless_refused r kept (record { answer = given h; lent = left })) ≡ unless_refused q kept (record { answer = given (plain_head h); lent = left })
head_answer (some r) q h kept left e = rw (sym e) refl
head_answer none q h kept left e = rw (sym e) refl

-- Opening these opens the entries.
unfoldable opened_entries : ℕ
unfolding new_entry reset_entry begin_scan_entry mark_entry update_ray_entry update_scan_entry update_beams_entry update_sweep_entry update_vertical_entry
opened_entries = 0

unfoldable opened_reads : ℕ
unfolding set_log_odds_entry set_log_odds_checked_entry log_odds_at_entry sample_log_odds_entry sample_all_log_odds_entry cell_containing_entry write_record_entry
opened_reads = 0

-- the head that `new` tries
abbrev fresh : Head → Head
fresh h = record { extents = h.extents; model = h.model; frame = fresh_frame }

module _ (f : Format) (h : Head) (o : OnePair h) where
  tried : (g : Grid)
      → head_refusal (uses_of Entries.beams) h (length g.odds) (length g.stamps)
      ≡ head_refusal (uses_of Entries.beams) (plain_head h) (length g.odds) (length g.stamps)
  tried g = refusals h o (uses_of Entries.beams) (length g.odds) (length g.stamps)

  mark_answer_lem : (occupied : Bool) (g : Grid) (i : Answer ℕ) → mark_answer f h occupied g i ≡ mark_answer f (plain_head h) occupied g i
  mark_answer_lem occupied g (refused r) = refl
  mark_answer_lem occupied g (given i) =
      ap (λ (r : Marked). record { answer = given r.changed; lent = with_cell g i r.cell })
      (mark_same f h.model o.pairs h.frame (record { place = i; occupied = occupied }) g)

  sweep_answer_lem : (g : Grid) (s : Answer Sweep) → sweep_answer f h g s ≡ sweep_answer f (plain_head h) g s
  sweep_answer_lem g (refused r) = refl
  sweep_answer_lem g (given s) = ap (swept_by s.station) (list_same f h.model o.pairs h.extents h.frame s.beams g)

  set_answer_lem : (x : Float) (odds : List Float) (i : Answer ℕ) → set_answer h x odds i ≡ set_answer (plain_head h) x odds i
  set_answer_lem x odds (refused r) = refl
  set_answer_lem x odds (given i) = rw (odds-same f h.model o.pairs i x odds) refl

  checked_answer_lem : (x : Float) (odds : List Float) (i : Answer ℕ) → checked_answer h.model x odds i ≡ checked_answer (plain h.model) x odds i
  checked_answer_lem x odds (refused r) = refl
  checked_answer_lem x odds (given i) = rw (odds-same f h.model o.pairs i x odds) refl

  writable-same : (odds : List Float) (room : ℕ) → writable h odds room ≡ writable (plain_head h) odds room
  unfolding writable pairs_checked equal_pairs
  writable-same odds room =
      let es = h.extents in
      rw (equal_pairs_lem h.model.lowest h.model.above o.pairs, rows_same f h.model o.pairs (row_width es) (row_count es) (rows_offset (length es)) odds) refl

  write_answer_lem : (odds : List Float) (out : List ℕ) (n : Answer ℕ) → write_answer h odds out n ≡ write_answer (plain_head h) odds out n
  unfolding record_bytes
  write_answer_lem odds out (refused r) = refl
  write_answer_lem odds out (given n) = refl

  alike : Alike f h
  unfolding opened_entries opened_reads
  alike =
      let again : List Float → List ℕ → Answer ℕ = λ odds out. writable (plain_head h) odds (length out) in
      let m = h.model in
      let es = h.extents in
      let k = h.frame in
      record {
        steps = steps f m o.pairs;
        new = λ g. head_answer _ _ _ g _ (refusals (fresh h) (record { pairs = o.pairs; cuts = o.cuts }) (uses_of Entries.new) (length g.odds) (length g.stamps));
        reset = λ g. head_answer _ _ _ g _ (refusals h o (uses_of Entries.reset) (length g.odds) (length g.stamps));
        begin_scan = λ stamps. head_answer _ _ _ stamps _ (refusals h o (uses_of Entries.begin_scan) 0 (length stamps));
        mark = λ occupied cell g. rw (refusals h o (uses_of Entries.marks) (length g.odds) (length g.stamps), mark_answer_lem occupied g (flat_index es cell)) refl;
        ray = λ b g. rw (tried g, beam-same f m o.pairs es k b g) refl;
        scan = λ numbers hits g. rw (tried g, list_same f m o.pairs es k (beams_of (length es) numbers hits) g) refl;
        beams = λ bs g. rw (tried g, list_same f m o.pairs es k bs g) refl;
        sweep = λ bytes g. rw (tried g, sweep_answer_lem g (sweep_of (length es) bytes)) refl;
        vertical = λ v g. rw (tried g, marked-same f m o.pairs k (vertical_marks es v) g, changes-same f m o.pairs k (vertical_marks es v) g) refl;
        set = λ cell x odds. rw (refusals h o (uses_of Entries.set_log_odds) (length odds) 0, set_answer_lem x odds (flat_index es cell)) refl;
        set-checked = λ cell x odds. rw (refusals h o (uses_of Entries.set_log_odds) (length odds) 0, checked_answer_lem x odds (flat_index es cell)) refl;
        log_odds_at = λ cell odds. rw (refusals h o (uses_of Entries.cell_reads) (length odds) 0) refl;
        sample = λ point odds. rw (refusals h o (uses_of Entries.samples) (length odds) 0) refl;
        sample-all = λ points odds s. rw (refusals h o (uses_of Entries.samples) (length odds) 0) refl;
        cell-containing = λ point. rw (refusals h o (uses_of Entries.cell-containing) 0 0) refl;
        write = λ odds out. rw (refusals h o (uses_of Entries.writing) (length odds) 0, writable-same odds (length out), write_answer_lem odds out (again odds out)) refl;
      }

pub equal_pairs_are_one : EqualPairsAreOne
equal_pairs_are_one = alike

-- ---- reading
stored_alike : (cuts : List ℕ) (g : Grid) (s : Stored) → T (cuts_in_bounds s.head.extents (with_cuts cuts s.head).model) → plain_head s.head ≡ s.head
    → plainly (read_answer cuts g (given s)) ≡ read_answer [] g (given s)
unfolding cuts_in_bounds cuts_below
stored_alike cuts g s t e =
    let none : cuts_in_bounds s.head.extents s.head.model ≡ true = ap (λ (h : Head). cuts_in_bounds h.extents h.model) (sym e) in
    let b = one_per_cell s.head.extents (length g.odds) && one_per_cell s.head.extents (length g.stamps) in
    rw (holds (cuts_in_bounds s.head.extents (with_cuts cuts s.head).model) t, none) (sized b)
  where
    model-same : (es cs : List ℕ) (m : Model) → plain (model_with_cuts es cs m) ≡ plain m
    model-same es [] m = refl
    model-same es (c ∷ cs) m = refl

    head-same : plain_head (with_cuts cuts s.head) ≡ s.head
    head-same = ap (λ (m : Model). record { extents = s.head.extents; model = m; frame = s.head.frame }) (model-same s.head.extents cuts s.head.model) ∙ e

    read : Head → Outcome Head Grid
    read h = record { answer = given h; lent = record { odds = s.odds; stamps = replicate (length g.stamps) 0 } }

    unfit : Outcome Head Grid
    unfit = record { answer = refused bad_buffer; lent = g }

    sized : (b : Bool) → plainly (cond b (read (with_cuts cuts s.head)) unfit) ≡ cond b (read s.head) unfit
    sized true = ap read head-same
    sized false = refl

pub read_alike : ReadAlike
unfolding read_record_entry
read_alike axes cuts bytes g fit = go (record_of axes bytes) fit (λ s e. read_plain axes bytes s e)
  where
    go : (r : Answer Stored) → ((s : Stored) → r ≡ given s → T (cuts_in_bounds s.head.extents (with_cuts cuts s.head).model))
        → ((s : Stored) → r ≡ given s → plain_head s.head ≡ s.head) → plainly (read_answer cuts g r) ≡ read_answer [] g r
    go (refused r) k e = refl
    go (given s) k e = stored_alike cuts g s (k s refl) (e s refl)
