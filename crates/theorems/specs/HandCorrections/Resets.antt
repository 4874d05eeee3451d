-- `reset` after calls on one map: no call but reading a record changes the extents, the model or the lengths of the
-- lists, and `reset` looks at nothing else. Assumes nothing.
use Rattle.std.specs.Prelude.{ℕ, ◌≡◌, refl, Bool, true, false, List, [], ◌∷◌, ℤ, length, Float}
use Rattle.std.proofs.Common.{sym, ap, ap₂, ◌∙◌, arith, length-set}
use Rattle.std.proofs.Math.Option.{Option, some, none}
use Rattle.std.proofs.lemmas.List.{length-replicate}
use Rattle.std.specs.Float.Ieee.{is_nan}
use Rattle.std.specs.Float.{Format}
use Rattle.rules.specs.RefusalNumbers.{Refusal, Answer, given, refused, bad_buffer, bad_beams, outside_profile}
use Rattle.rules.specs.RefusalNumbers.Entries.{Outcome, or_else, unless_holds, unless_refused, extents_refusal, head_refusal, uses_of, reset, begin_scan, marks, beams}
use Rattle.rules.specs.RefusalNumbers.Entries.{reset_entry, begin_scan_entry, mark_answer, mark_entry, of_integrated, update_ray_entry, update_scan_entry, update_beams_entry, set_log_odds_entry, set_log_odds_checked_entry}
use Rattle.rules.specs.TheGridAndItsBounds.{Model, Head, Grid, cells, one_per_cell, fresh_grid, fresh_frame}
use Rattle.rules.specs.Coordinates.{flat_index}
use Rattle.rules.specs.MarksAndFrames.{opened_frame, opened_stamps}
use Rattle.rules.specs.OneBeam.{Beam, integrated_marks, integrated_beam, integrated, flat_shape, beams_of}
use Rattle.rules.specs.SweepFile.{Sweep, Swept, sweep_of, sweep_answer, update_sweep_entry}
use Rattle.rules.specs.VerticalBeam.{Vertical, in_profile, vertical_marks, update_vertical_entry}
use Rattle.laws.specs.Checks.{passed}
use Rattle.theorems.specs.PromiseThree.Proof.{opened-length}
use Rattle.theorems.specs.HandCorrections.{Map, Call, set-odds, set-checked, mark, update_ray, update_scan, update_beams, update_sweep, update_vertical, open_scan, reset_map, head_after, after, after_all}
use Rattle.theorems.specs.CheckedSet.{number_set, nan_refused}
use Rattle.theorems.specs.HandCorrections.Sets.{set-length}
use Rattle.theorems.specs.HandCorrections.Lists.{list_is, list-keeps}
use Rattle.theorems.specs.HandCorrections.Sweeps.{marks_odds, marks_stamps, beam-odds, beam-stamps}

-- ---- what every call keeps
record Kept (a b : Map) : Type 0 where
  extents : b.head.extents ≡ a.head.extents
  model : b.head.model ≡ a.head.model
  odds : length b.grid.odds ≡ length a.grid.odds
  stamps : length b.grid.stamps ≡ length a.grid.stamps

all-kept : (m : Map) → Kept m m
all-kept m = record { extents = refl; model = refl; odds = refl; stamps = refl }

then_kept : (a b c : Map) → Kept a b → Kept b c → Kept a c
then_kept a b c p q =
    record {
      extents = q.extents ∙ p.extents;
      model = q.model ∙ p.model;
      odds = q.odds ∙ p.odds;
      stamps = q.stamps ∙ p.stamps;
    }

-- the lists alone
record Sized (g x : Grid) : Type 0 where
  odds : length x.odds ≡ length g.odds
  stamps : length x.stamps ≡ length g.stamps

same_head : (m : Map) (x : Grid) → Sized m.grid x → Kept m (record { head = m.head; grid = x })
same_head m x s = record { extents = refl; model = refl; odds = s.odds; stamps = s.stamps }

unless_sized : {A : Type 0} (r : Option Refusal) (g : Grid) (out : Outcome A Grid) → Sized g out.lent → Sized g (unless_refused r g out).lent
unless_sized (some r) g out s = record { odds = refl; stamps = refl }
unless_sized none g out s = s

mark_sized : (f : Format) (h : Head) (occupied : Bool) (g : Grid) (a : Answer ℕ) → Sized g (mark_answer f h occupied g a).lent
mark_sized f h occupied g (refused r) = record { odds = refl; stamps = refl }
mark_sized f h occupied g (given i) = record { odds = length-set g.odds i _; stamps = length-set g.stamps i _ }

list_sized : (f : Format) (h : Head) (bs : List Beam) (g : Grid) → Sized g (integrated f h.extents h.model h.frame bs g).grid
list_sized f h bs g =
    rw (list_is f h.extents h.model h.frame bs g)
    (record {
      odds = list-keeps f h.extents h.model h.frame (λ x. length x.odds) (beam-odds f h.extents h.model h.frame) bs g;
      stamps = list-keeps f h.extents h.model h.frame (λ x. length x.stamps) (beam-stamps f h.extents h.model h.frame) bs g;
    })

-- ---- each call
-- `begin_scan` and `reset`, with what the head refuses as it may be
abbrev opened_outcome : Map → Option Refusal → Outcome Head (List ℕ)
opened_outcome m r =
    unless_refused {A = Head} r m.grid.stamps
    (record {
      answer = given (record { extents = m.head.extents; model = m.head.model; frame = opened_frame m.head.frame });
      lent = opened_stamps m.head.frame m.grid.stamps;
    })

abbrev fresh_outcome : List ℕ → Model → Grid → Option Refusal → Outcome Head Grid
fresh_outcome es k g r = unless_refused {A = Head} r g (record { answer = given (record { extents = es; model = k; frame = fresh_frame }); lent = fresh_grid es })

opened-kept : (m : Map) (r : Option Refusal)
    → Kept m (record { head = head_after m.head (opened_outcome m r).answer; grid = record { odds = m.grid.odds; stamps = (opened_outcome m r).lent } })
opened-kept m (some r) = record { extents = refl; model = refl; odds = refl; stamps = refl }
opened-kept m none = record { extents = refl; model = refl; odds = refl; stamps = opened-length m.head.frame m.grid.stamps }

abbrev tried : Map → Option Refusal
tried m = head_refusal (uses_of reset) m.head (length m.grid.odds) (length m.grid.stamps)

fresh_kept : (m : Map) (r : Option Refusal) → tried m ≡ r
    → Kept m (record {
      head = head_after m.head (fresh_outcome m.head.extents m.head.model m.grid r).answer;
      grid = (fresh_outcome m.head.extents m.head.model m.grid r).lent;
    })
unfolding fresh_grid
fresh_kept m (some r) e = record { extents = refl; model = refl; odds = refl; stamps = refl }
fresh_kept m none e =
    let p = passed (uses_of reset) m.head (length m.grid.odds) (length m.grid.stamps) e in
    record {
      extents = refl;
      model = refl;
      odds = length-replicate (cells m.head.extents) _ ∙ sym (p.odds_count tt);
      stamps = length-replicate (cells m.head.extents) _ ∙ sym (p.stamps_count tt);
    }

mark_kept : (f : Format) (h : Head) (occupied : Bool) (cell : List ℤ) (g : Grid) → Sized g (mark_entry f occupied h cell g).lent
unfolding mark_entry
mark_kept f h occupied cell g =
    let a = flat_index h.extents cell in
    unless_sized {A = Bool} (head_refusal (uses_of marks) h (length g.odds) (length g.stamps)) g (mark_answer f h occupied g a) (mark_sized f h occupied g a)

ray-kept : (f : Format) (h : Head) (b : Beam) (g : Grid) → Sized g (update_ray_entry f h b g).lent
unfolding update_ray_entry
ray-kept f h b g =
    unless_sized {A = ℕ} (head_refusal (uses_of beams) h (length g.odds) (length g.stamps)) g (of_integrated (integrated_beam f h.extents h.model h.frame b g))
    (record { odds = beam-odds f h.extents h.model h.frame b g; stamps = beam-stamps f h.extents h.model h.frame b g })

-- a list, whatever is refused of it
list-kept : (f : Format) (h : Head) (r : Option Refusal) (bs : List Beam) (g : Grid)
    → Sized g (unless_refused {A = ℕ} r g (of_integrated (integrated f h.extents h.model h.frame bs g))).lent
list-kept f h r bs g = unless_sized {A = ℕ} r g (of_integrated (integrated f h.extents h.model h.frame bs g)) (list_sized f h bs g)

scan_kept : (f : Format) (h : Head) (numbers : List Float) (hits : List ℕ) (g : Grid) → Sized g (update_scan_entry f h numbers hits g).lent
unfolding update_scan_entry
scan_kept f h numbers hits g =
    let n = length h.extents in
    list-kept f h (or_else (head_refusal (uses_of beams) h (length g.odds) (length g.stamps)) (unless_holds true (flat_shape n numbers hits) bad_beams)) (beams_of n numbers hits) g

beams_kept : (f : Format) (h : Head) (bs : List Beam) (g : Grid) → Sized g (update_beams_entry f h bs g).lent
unfolding update_beams_entry
beams_kept f h bs g = list-kept f h (head_refusal (uses_of beams) h (length g.odds) (length g.stamps)) bs g

sweep_sized : (f : Format) (h : Head) (g : Grid) (a : Answer Sweep) → Sized g (sweep_answer f h g a).lent
sweep_sized f h g (refused r) = record { odds = refl; stamps = refl }
sweep_sized f h g (given s) = list_sized f h s.beams g

sweep-kept : (f : Format) (h : Head) (bytes : List ℕ) (g : Grid) → Sized g (update_sweep_entry f h bytes g).lent
unfolding update_sweep_entry
sweep-kept f h bytes g =
    let a = sweep_of (length h.extents) bytes in
    unless_sized {A = Swept} (head_refusal (uses_of beams) h (length g.odds) (length g.stamps)) g (sweep_answer f h g a) (sweep_sized f h g a)

vertical-kept : (f : Format) (h : Head) (b : Vertical) (g : Grid) → Sized g (update_vertical_entry f h b g).lent
unfolding update_vertical_entry
vertical-kept f h b g =
    let marks-of = given (vertical_marks h.extents b) in
    unless_sized {A = ℕ}
    (or_else (head_refusal (uses_of beams) h (length g.odds) (length g.stamps)) (unless_holds true (in_profile h.extents b) outside_profile)) g
    (of_integrated (integrated_marks f h.model h.frame g marks-of))
    (record { odds = marks_odds f h.model h.frame marks-of g; stamps = marks_stamps f h.model h.frame marks-of g })

checked-length : (h : Head) (cell : List ℤ) (x : Float) (odds : List Float) → length (set_log_odds_checked_entry h cell x odds).lent ≡ length odds
checked-length h cell x odds = go (is_nan x) refl
  where
    go : (b : Bool) → is_nan x ≡ b → length (set_log_odds_checked_entry h cell x odds).lent ≡ length odds
    go true e = ap (λ (o : Outcome (Unit {0}) (List Float)). length o.lent) (nan_refused h cell x odds e)
    go false e = ap (λ (o : Outcome (Unit {0}) (List Float)). length o.lent) (number_set h cell x odds e) ∙ set-length h cell x odds

call_keeps : (f : Format) (c : Call) (m : Map) → Kept m (after f c m)
unfolding begin_scan_entry reset_entry
call_keeps f (set-odds cell x) m =
    same_head m (record { odds = (set_log_odds_entry m.head cell x m.grid.odds).lent; stamps = m.grid.stamps }) (record { odds = set-length m.head cell x m.grid.odds; stamps = refl })
call_keeps f (set-checked cell x) m =
    same_head m (record { odds = (set_log_odds_checked_entry m.head cell x m.grid.odds).lent; stamps = m.grid.stamps }) (record { odds = checked-length m.head cell x m.grid.odds; stamps = refl })
call_keeps f (mark occupied cell) m = same_head m (mark_entry f occupied m.head cell m.grid).lent (mark_kept f m.head occupied cell m.grid)
call_keeps f (update_ray b) m = same_head m (update_ray_entry f m.head b m.grid).lent (ray-kept f m.head b m.grid)
call_keeps f (update_scan numbers hits) m = same_head m (update_scan_entry f m.head numbers hits m.grid).lent (scan_kept f m.head numbers hits m.grid)
call_keeps f (update_beams bs) m = same_head m (update_beams_entry f m.head bs m.grid).lent (beams_kept f m.head bs m.grid)
call_keeps f (update_sweep bytes) m = same_head m (update_sweep_entry f m.head bytes m.grid).lent (sweep-kept f m.head bytes m.grid)
call_keeps f (update_vertical b) m = same_head m (update_vertical_entry f m.head b m.grid).lent (vertical-kept f m.head b m.grid)
call_keeps f open_scan m = opened-kept m (head_refusal (uses_of begin_scan) m.head 0 (length m.grid.stamps))
call_keeps f reset_map m = fresh_kept m (tried m) refl

calls_keep : (f : Format) (cs : List Call) (m : Map) → Kept m (after_all f cs m)
calls_keep f [] m = all-kept m
calls_keep f (c ∷ cs) m = then_kept m (after f c m) (after_all f cs (after f c m)) (call_keeps f c m) (calls_keep f cs (after f c m))

-- ---- `reset` looks at the extents, the model and the lengths
-- what it refuses
abbrev looked_at : List ℕ → ℕ → ℕ → Option Refusal
looked_at es odds stamps =
    or_else (extents_refusal es) (or_else (unless_holds true (one_per_cell es odds) bad_buffer) (or_else (unless_holds true (one_per_cell es stamps) bad_buffer) none))

tried_is : (m : Map) → tried m ≡ looked_at m.head.extents (length m.grid.odds) (length m.grid.stamps)
unfolding head_refusal
tried_is m = refl

same-tried : (a b : Map) → Kept a b → tried b ≡ tried a
same-tried a b k =
    tried_is b
    ∙ ap (λ (es : List ℕ). looked_at es (length b.grid.odds) (length b.grid.stamps)) k.extents
    ∙ ap₂ (λ (i j : ℕ). looked_at a.head.extents i j) k.odds k.stamps
    ∙ sym (tried_is a)

reset_is : (a b : Map) → Kept a b → reset_entry b.head b.grid ≡ fresh_outcome a.head.extents a.head.model b.grid (tried a)
unfolding reset_entry
reset_is a b k =
    ap (λ (r : Option Refusal). fresh_outcome b.head.extents b.head.model b.grid r) (same-tried a b k)
    ∙ ap₂ (λ (es : List ℕ) (m : Model). fresh_outcome es m b.grid (tried a)) k.extents k.model

same_answer : (es : List ℕ) (m : Model) (x g : Grid) (r : Option Refusal) → (fresh_outcome es m x r).answer ≡ (fresh_outcome es m g r).answer
same_answer es m x g (some r) = refl
same_answer es m x g none = refl

same_outcome : (es : List ℕ) (m : Model) (x g : Grid) (r : Option Refusal) (k : Head) → (fresh_outcome es m g r).answer ≡ given k → fresh_outcome es m x r ≡ fresh_outcome es m g r
same_outcome es m x g (some r) k e = let z : ◌≡◌ {A = ℕ} 0 1 = cc in absurd (omega arith)
same_outcome es m x g none k e = refl

pub reset_answers : (f : Format) (cs : List Call) (m : Map)
    → (reset_entry (after_all f cs m).head (after_all f cs m).grid).answer ≡ (reset_entry m.head m.grid).answer
reset_answers f cs m =
    let x = after_all f cs m in
    ap (λ (o : Outcome Head Grid). o.answer) (reset_is m x (calls_keep f cs m))
    ∙ same_answer m.head.extents m.head.model x.grid m.grid (tried m)
    ∙ sym (ap (λ (o : Outcome Head Grid). o.answer) (reset_is m m (all-kept m)))

pub reset_alone : (f : Format) (cs : List Call) (m : Map) (k : Head) → (reset_entry m.head m.grid).answer ≡ given k
    → reset_entry (after_all f cs m).head (after_all f cs m).grid ≡ reset_entry m.head m.grid
reset_alone f cs m k e =
    let x = after_all f cs m in
    let own = reset_is m m (all-kept m) in
    reset_is m x (calls_keep f cs m)
    ∙ same_outcome m.head.extents m.head.model x.grid m.grid (tried m) k (sym (ap (λ (o : Outcome Head Grid). o.answer) own) ∙ e)
    ∙ sym own
