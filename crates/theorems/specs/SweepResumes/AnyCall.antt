-- Whatever a call answers, the lists that it leaves are those that some marks of the head's frame leave: of a refused
-- call no marks, or those of the beams before the one that was refused. Over any format. Assumes nothing.
use Rattle.std.specs.Prelude.{ℕ, suc, ◌+◌, Bool, ◌≡◌, refl}
use Rattle.std.proofs.Math.Bool.{true}
use mathlib.Core.List.{List, [], ◌∷◌, ◌++◌}
use Rattle.std.proofs.Math.Option.{Option, some, none}
use Rattle.std.proofs.Common.{sym, ap, ◌∙◌}
use Rattle.std.proofs.Math.ListN.{length}
use Rattle.std.specs.Float.{Format}
use Rattle.rules.specs.RefusalNumbers.{Refusal, Answer, given, refused, bad_beams, outside_profile}
use Rattle.rules.specs.RefusalNumbers.Entries.{Outcome, or_else, unless_holds, unless_refused, of_integrated, mark_answer}
use Rattle.rules.specs.RefusalNumbers.Entries.{update_ray_entry, update_scan_entry, update_beams_entry, mark_entry}
use Rattle.rules.specs.TheGridAndItsBounds.{Model, Head, Grid}
use Rattle.rules.specs.Coordinates.{flat_index}
use Rattle.rules.specs.MarksAndFrames.{Mark, marked}
use Rattle.rules.specs.OneBeam.{Beam, beam_marks, Integrated, integrated_marks, integrated_beam, or_stop, integrated_from, integrated, flat_shape, beams_of}
use Rattle.rules.specs.SweepFile.{Sweep, sweep_of, sweep_answer, update_sweep_entry}
use Rattle.rules.specs.VerticalBeam.{in_profile, vertical_marks, update_vertical_entry}
use Rattle.beam.proofs.MarkLists.{marked_append}
use Rattle.theorems.specs.StationsLists.Words.{Call, ray, flat-list, slice, file, upright, mark, outcome, left}
use Rattle.theorems.specs.StationsLists.OneCall.{tried}

module _ (f : Format) (m : Model) (k : ℕ) where
  -- the second grid is what some marks leave of the first
  abbrev pub ByMarks : Grid → Grid → Type 0
  ByMarks g x = (xs : List Mark) × (x ≡ marked f m k xs g)

  no_marks : (g : Grid) → ByMarks g g
  unfolding marked
  no_marks g = ([], refl)

  more_marks : (g x y : Grid) → ByMarks g x → ByMarks x y → ByMarks g y
  more_marks g x y a b = (a.0 ++ b.0, b.1 ∙ ap (marked f m k b.0) a.1 ∙ sym (marked_append f m k a.0 b.0 g))

  unless_refused_lem : {A : Type 0} (r : Option Refusal) (g : Grid) (out : Outcome A Grid) → ByMarks g out.lent → ByMarks g (unless_refused r g out).lent
  unless_refused_lem (some r) g out w = no_marks g
  unless_refused_lem none g out w = w

  one-beam : (g : Grid) (a : Answer (List Mark)) → ByMarks g (integrated_marks f m k g a).grid
  one-beam g (given xs) = (xs, refl)
  one-beam g (refused r) = no_marks g

  or_stop_lem : (place count : ℕ) (g x : Grid) (a : Answer ℕ) (go : ℕ → Integrated) → ByMarks g x → ((n : ℕ) → ByMarks g (go n).grid)
      → ByMarks g (or_stop place count x a go).grid
  or_stop_lem place count g x (given n) go w v = v (count + n)
  or_stop_lem place count g x (refused r) go w v = w

  beams_from : (es : List ℕ) (place count : ℕ) (bs : List Beam) (g : Grid) → ByMarks g (integrated_from f es m k place count bs g).grid
  unfolding integrated_from integrated_beam
  beams_from es place count [] g = no_marks g
  beams_from es place count (b ∷ bs) g =
      let r = integrated_marks f m k g (beam_marks f es b) in
      let w = one-beam g (beam_marks f es b) in
      or_stop_lem place count g r.grid r.answer (λ n. integrated_from f es m k (suc place) n bs r.grid) w
      (λ n. more_marks g r.grid _ w (beams_from es (suc place) n bs r.grid))

  all_beams : (es : List ℕ) (bs : List Beam) (g : Grid) → ByMarks g (integrated f es m k bs g).grid
  unfolding integrated
  all_beams es bs g = beams_from es 0 0 bs g

module _ (f : Format) (h : Head) (g : Grid) where
  abbrev Made : Grid → Type 0
  Made x = ByMarks f h.model h.frame g x

  file_made : (a : Answer Sweep) → Made (sweep_answer f h g a).lent
  file_made (refused r) = no_marks f h.model h.frame g
  file_made (given s) = all_beams f h.model h.frame h.extents s.beams g

  mark_made : (occupied : Bool) (a : Answer ℕ) → Made (mark_answer f h occupied g a).lent
  unfolding marked
  mark_made occupied (refused r) = no_marks f h.model h.frame g
  mark_made occupied (given i) = (record { place = i; occupied = occupied } ∷ [], refl)

  call_made : (c : Call) → Made (outcome f h c g).lent
  unfolding update_ray_entry update_scan_entry update_beams_entry update_sweep_entry update_vertical_entry mark_entry integrated_beam
  call_made (ray b) =
      unless_refused_lem f h.model h.frame (tried h g) g (of_integrated (integrated_marks f h.model h.frame g (beam_marks f h.extents b)))
      (one-beam f h.model h.frame g (beam_marks f h.extents b))
  call_made (flat-list numbers hits) =
      let n = length h.extents in
      let bs = beams_of n numbers hits in
      unless_refused_lem f h.model h.frame (or_else (tried h g) (unless_holds true (flat_shape n numbers hits) bad_beams)) g
      (of_integrated (integrated f h.extents h.model h.frame bs g)) (all_beams f h.model h.frame h.extents bs g)
  call_made (slice bs) =
      unless_refused_lem f h.model h.frame (tried h g) g (of_integrated (integrated f h.extents h.model h.frame bs g))
      (all_beams f h.model h.frame h.extents bs g)
  call_made (file bytes) =
      let a = sweep_of (length h.extents) bytes in unless_refused_lem f h.model h.frame (tried h g) g (sweep_answer f h g a) (file_made a)
  call_made (upright v) =
      let a = given (vertical_marks h.extents v) in
      unless_refused_lem f h.model h.frame (or_else (tried h g) (unless_holds true (in_profile h.extents v) outside_profile)) g
      (of_integrated (integrated_marks f h.model h.frame g a)) (one-beam f h.model h.frame g a)
  call_made (mark occupied cell) =
      let a = flat_index h.extents cell in
      unless_refused_lem f h.model h.frame (tried h g) g (mark_answer f h occupied g a) (mark_made occupied a)

-- calls one after another
pub calls_made : (f : Format) (h : Head) (cs : List Call) (g : Grid) → ByMarks f h.model h.frame g (left f h cs g)
calls_made f h [] g = no_marks f h.model h.frame g
calls_made f h (c ∷ cs) g =
    let x = (outcome f h c g).lent in more_marks f h.model h.frame g x (left f h cs x) (call_made f h g c) (calls_made f h cs x)
