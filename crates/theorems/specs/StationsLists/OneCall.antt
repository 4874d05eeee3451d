-- One call of a night. What shows, of a call that was not refused, that it would not be on any grid of these lengths;
-- and of such a call, that it leaves the marks of the beams that it hands over. Assumes nothing.
use Prim.Native.Nat.{ℕ, suc, ◌+◌}
use Rattle.std.specs.Prelude.{◌≡◌, Bool, false, ℤ, T, length, Float}
use Rattle.std.proofs.Math.Path.{refl, sym, ap, subst}
use Rattle.std.proofs.Common.{◌∙◌, arith}
use Rattle.std.proofs.Math.Logic.{inl, inr}
use Rattle.std.proofs.Math.Bool.{true, cond}
use mathlib.Core.List.Memᴰ
use mathlib.Core.List.{List, [], ◌∷◌, ◌++◌, Memᴰ}
use Rattle.std.proofs.Math.Option.{Option, some, none}
use Rattle.std.specs.Float.{Format}
use Rattle.rules.specs.RefusalNumbers.{Refusal, Answer, given, refused, and_then, bad_beams}
use Rattle.rules.specs.RefusalNumbers.Entries.{Outcome, or_else, unless_holds, unless_refused, answered, head_refusal, uses_of, beams, mark_answer, mark_entry, of_integrated}
use Rattle.rules.specs.RefusalNumbers.Entries.{update_ray_entry, update_scan_entry, update_beams_entry}
use Rattle.rules.specs.TheGridAndItsBounds.{Model, Head, Grid}
use Rattle.rules.specs.Coordinates.{flat_index}
use Rattle.rules.specs.MarksAndFrames.{Mark, changes, marked}
use Rattle.rules.specs.OneBeam.{Beam, beam_marks, integrated_marks, integrated_beam, or_stop, integrated_from, integrated, flat_shape, beams_of}
use Rattle.rules.specs.SweepFile.{Sweep, Swept, sweep_of, sweep_answer, update_sweep_entry}
use Rattle.rules.specs.VerticalBeam.{Vertical, in_profile, update_vertical_entry}
use Rattle.beam.proofs.MarkLists.{marked_append}
use Rattle.theorems.specs.PromiseThree.Beams.{marks_given, Taken, all_marks, given_a_count, grid_is}
use Rattle.theorems.specs.FlatList.{flat_as_structs}
use Rattle.theorems.specs.VerticalBeam.{general_beam}
use Rattle.theorems.specs.VerticalBeam.Proof.{same_as_general}
use Rattle.theorems.specs.StationsLists.Words.{Call, ray, flat-list, slice, file, upright, mark, counted, changed_one, outcome}
use Rattle.theorems.specs.StationsLists.Words.{Handed, beam, by_hand, hand_marks, as_beams, beams_of_file, hands_over}

-- what the head is refused for, which turns on the lengths of the lists and on nothing else in them
abbrev pub tried : Head → Grid → Option Refusal
tried h g = head_refusal (uses_of beams) h (length g.odds) (length g.stamps)

-- a flat list in the right shape, bytes that are a file, a beam inside the profile
abbrev pub WellFormed : List ℕ → Call → Type 0
WellFormed es (ray b) = Unit {0}
WellFormed es (flat-list numbers hits) = T (flat_shape (length es) numbers hits)
WellFormed es (slice bs) = Unit {0}
WellFormed es (file bytes) = (s : Sweep) × (sweep_of (length es) bytes ≡ given s)
WellFormed es (upright v) = T (in_profile es v)
WellFormed es (mark occupied cell) = Unit {0}

pub record Good (f : Format) (es : List ℕ) (c : Call) : Type 0 where
  pub well_formed : WellFormed es c
  pub taken : Taken (hand_marks f es) (hands_over f es c)

-- ---- beams are handed over as they are
module _ (f : Format) (es : List ℕ) where
  hands_taken : (bs : List Beam) → Taken (beam_marks f es) bs → Taken (hand_marks f es) (as_beams bs)
  hands_taken [] t = λ x d. absurd (Memᴰ.not-nil d)
  hands_taken (b ∷ bs) t = go (hands_taken bs (λ c d. t c (Memᴰ.tail d)))
    where
      go : Taken (hand_marks f es) (as_beams bs) → Taken (hand_marks f es) (beam b ∷ as_beams bs)
      go ih x d =
          elim (Memᴰ.cases_cons d) [
            | inl w ↦ (let r = t b (Memᴰ.head refl) in (r.0, ap (hand_marks f es) w ∙ r.1))
            | inr w ↦ ih x w
          ]

  among_hands : (bs : List Beam) (b : Beam) → Memᴰ b bs → Memᴰ (beam b) (as_beams bs)
  among_hands [] b d = absurd (Memᴰ.not-nil d)
  among_hands (c ∷ bs) b d = elim (Memᴰ.cases_cons d) [ inl w ↦ Memᴰ.head (ap beam w) | inr w ↦ Memᴰ.tail (among_hands bs b w) ]

  beams_taken : (bs : List Beam) → Taken (hand_marks f es) (as_beams bs) → Taken (beam_marks f es) bs
  beams_taken bs t b d = t (beam b) (among_hands bs b d)

  same_marks : (bs : List Beam) → all_marks (beam_marks f es) bs ≡ all_marks (hand_marks f es) (as_beams bs)
  same_marks [] = refl
  same_marks (b ∷ bs) = ap (λ (xs : List Mark). marks_given (beam_marks f es b) ++ xs) (same_marks bs)

-- ---- what an answer shows
refused_given : {A : Type 0} (r : Refusal) (a : A) → refused r ≡ given a → ⊥
refused_given r a e = let z : ◌≡◌ {A = ℕ} 0 1 = cc in omega arith

pub not_refused : {A L : Type 0} (r : Option Refusal) (lent : L) (out : Outcome A L) (a : A) → (unless_refused r lent out).answer ≡ given a → (r ≡ none) × (out.answer ≡ given a)
not_refused (some r) lent out a e = absurd (refused_given r a e)
not_refused none lent out a e = (refl, e)

pub neither : (a b : Option Refusal) → or_else a b ≡ none → (a ≡ none) × (b ≡ none)
neither (some r) b e = let z : ◌≡◌ {A = ℕ} 0 1 = cc in absurd (omega arith)
neither none b e = (refl, e)

it_holds : (b : Bool) (r : Refusal) → unless_holds true b r ≡ none → T b
it_holds true r e = tt
it_holds false r e = let z : ◌≡◌ {A = ℕ} 0 1 = cc in absurd (omega arith)

given_given : {A B : Type 0} (a : Answer A) (go : A → B) (n : B) → and_then a (λ x. given (go x)) ≡ given n → (k : A) × (a ≡ given k)
given_given (given k) go n e = (k, refl)
given_given (refused r) go n e = absurd (refused_given r n e)

module _ (f : Format) (es : List ℕ) (m : Model) (k : ℕ) where
  marks_given_lem : (a : Answer (List Mark)) (g : Grid) (n : ℕ) → (integrated_marks f m k g a).answer ≡ given n → (xs : List Mark) × (a ≡ given xs)
  marks_given_lem (given xs) g n e = (xs, refl)
  marks_given_lem (refused r) g n e = absurd (refused_given r n e)

  taken_from : (place count : ℕ) (bs : List Beam) (g : Grid) (n : ℕ) → (integrated_from f es m k place count bs g).answer ≡ given n → Taken (beam_marks f es) bs
  unfolding integrated_from integrated_beam
  taken_from place count [] g n e = λ b d. absurd (Memᴰ.not-nil d)
  taken_from place count (c ∷ bs) g n e = go (beam_marks f es c) refl (λ j x. taken_from (suc place) j bs x n) e
    where
      go : (a : Answer (List Mark)) → beam_marks f es c ≡ a → ((j : ℕ) (x : Grid) → (integrated_from f es m k (suc place) j bs x).answer ≡ given n → Taken (beam_marks f es) bs)
          → (or_stop place count (integrated_marks f m k g a).grid (integrated_marks f m k g a).answer
          (λ j. integrated_from f es m k (suc place) j bs (integrated_marks f m k g a).grid)).answer ≡ given n → Taken (beam_marks f es) (c ∷ bs)
      go (refused r) p ih q = absurd (refused_given _ n q)
      go (given xs) p ih q = λ b d.
          elim (Memᴰ.cases_cons d) [
            | inl w ↦ (xs, ap (beam_marks f es) w ∙ p)
            | inr w ↦ ih (count + changes f m k xs g) (marked f m k xs g) q b w
          ]

  list_taken : (bs : List Beam) (g : Grid) (n : ℕ) → (integrated f es m k bs g).answer ≡ given n → Taken (beam_marks f es) bs
  unfolding integrated
  list_taken bs g n e = taken_from 0 0 bs g n e

one_taken : (f : Format) (es : List ℕ) (b : Beam) → (xs : List Mark) × (beam_marks f es b ≡ given xs) → Taken (beam_marks f es) (b ∷ [])
one_taken f es b t c d = elim (Memᴰ.cases_cons d) [ inl w ↦ (t.0, ap (beam_marks f es) w ∙ t.1) | inr w ↦ absurd (Memᴰ.not-nil w) ]

module _ (f : Format) (h : Head) (g : Grid) (n : ℕ) where
  abbrev Shown : Call → Type 0
  Shown c = (tried h g ≡ none) × Good f h.extents c

  ray-good : (b : Beam) → (update_ray_entry f h b g).answer ≡ given n → Shown (ray b)
  unfolding update_ray_entry integrated_beam
  ray-good b e =
      let p = not_refused (tried h g) g _ n e in
      let xs = marks_given_lem f h.extents h.model h.frame (beam_marks f h.extents b) g n p.1 in
      (p.0, record { well_formed = tt; taken = hands_taken f h.extents (b ∷ []) (one_taken f h.extents b xs) })

  slice_good : (bs : List Beam) → (update_beams_entry f h bs g).answer ≡ given n → Shown (slice bs)
  unfolding update_beams_entry
  slice_good bs e =
      let p = not_refused (tried h g) g _ n e in
      (p.0, record { well_formed = tt; taken = hands_taken f h.extents bs (list_taken f h.extents h.model h.frame bs g n p.1) })

  flat_good : (numbers : List Float) (hits : List ℕ) → (update_scan_entry f h numbers hits g).answer ≡ given n → Shown (flat-list numbers hits)
  unfolding update_scan_entry
  flat_good numbers hits e =
      let bs = beams_of (length h.extents) numbers hits in
      let shape = flat_shape (length h.extents) numbers hits in
      let p = not_refused (or_else (tried h g) (unless_holds true shape bad_beams)) g _ n e in
      let q = neither (tried h g) (unless_holds true shape bad_beams) p.0 in
      (q.0, record { well_formed = it_holds shape bad_beams q.1; taken = hands_taken f h.extents bs (list_taken f h.extents h.model h.frame bs g n p.1) })

  file-good : (bytes : List ℕ) → (counted (update_sweep_entry f h bytes g)).answer ≡ given n → Shown (file bytes)
  unfolding update_sweep_entry
  file-good bytes e =
      let c = given_given (unless_refused (tried h g) g (sweep_answer f h g (sweep_of (length h.extents) bytes))).answer (λ s. s.count) n e in
      let p = not_refused (tried h g) g (sweep_answer f h g (sweep_of (length h.extents) bytes)) c.0 c.1 in
      (p.0, go (sweep_of (length h.extents) bytes) refl c.0 p.1)
    where
      go : (a : Answer Sweep) → sweep_of (length h.extents) bytes ≡ a → (s : Swept) → (sweep_answer f h g a).answer ≡ given s → Good f h.extents (file bytes)
      go (refused r) q s w = absurd (refused_given r s w)
      go (given x) q s w =
          let i = integrated f h.extents h.model h.frame x.beams g in
          let c = given_given i.answer (λ j. record { station = x.station; count = j }) s w in
          record {
            well_formed = (x, q);
            taken =
                subst (λ (a : Answer Sweep). Taken (hand_marks f h.extents) (as_beams (beams_of_file a))) (sym q)
                (hands_taken f h.extents x.beams (list_taken f h.extents h.model h.frame x.beams g c.0 c.1));
          }

  upright_good : (v : Vertical) → (update_vertical_entry f h v g).answer ≡ given n → Shown (upright v)
  upright_good v e = go (in_profile h.extents v) refl
    where
      none_given : (r : Option Refusal) (x : Refusal) → answered {A = ℕ} r (refused x) ≡ given n → ⊥
      none_given (some r) x q = refused_given r n q
      none_given none x q = refused_given x n q

      go : (b : Bool) → in_profile h.extents v ≡ b → Shown (upright v)
      go true q =
          let t : T (in_profile h.extents v) = subst T (sym q) tt in
          let r = ray-good (general_beam f h.extents v) (ap (λ (o : Outcome ℕ Grid). o.answer) (sym ((same_as_general f).outcome h v g t)) ∙ e) in
          (r.0, record { well_formed = t; taken = r.1.taken })
      go false q = absurd (none_given (tried h g) _ (ap (λ (o : Outcome ℕ Grid). o.answer) (sym ((same_as_general f).outside h v g q)) ∙ e))

  mark_good : (occupied : Bool) (cell : List ℤ) → (changed_one (mark_entry f occupied h cell g)).answer ≡ given n → Shown (mark occupied cell)
  unfolding mark_entry
  mark_good occupied cell e =
      let c = given_given (unless_refused (tried h g) g (mark_answer f h occupied g (flat_index h.extents cell))).answer (λ changed. cond changed 1 0) n e in
      let p = not_refused (tried h g) g (mark_answer f h occupied g (flat_index h.extents cell)) c.0 c.1 in
      (p.0, go (flat_index h.extents cell) refl p.1)
    where
      go : {b : Bool} (a : Answer ℕ) → flat_index h.extents cell ≡ a → (mark_answer f h occupied g a).answer ≡ given b → Good f h.extents (mark occupied cell)
      go {b} (refused r) q w = absurd (refused_given r b w)
      go (given i) q w =
          let x : Mark = record { place = i; occupied = occupied } in
          let its : hand_marks f h.extents (by_hand occupied cell) ≡ given (x ∷ []) =
          ap (λ (a : Answer ℕ). and_then a (λ j. given (record { place = j; occupied = occupied } ∷ []))) q in
          record {
            well_formed = tt;
            taken =
                λ y d. elim (Memᴰ.cases_cons d) [ inl v ↦ (x ∷ [], ap (hand_marks f h.extents) v ∙ its) | inr v ↦ absurd (Memᴰ.not-nil v) ];
          }

  pub good_of : (c : Call) → (outcome f h c g).answer ≡ given n → Shown c
  good_of (ray b) e = ray-good b e
  good_of (flat-list numbers hits) e = flat_good numbers hits e
  good_of (slice bs) e = slice_good bs e
  good_of (file bytes) e = file-good bytes e
  good_of (upright v) e = upright_good v e
  good_of (mark occupied cell) e = mark_good occupied cell e

-- ---- what such a call does, on a grid with which the head passes
pub record Does (f : Format) (h : Head) (bs : List Handed) (g : Grid) (out : Outcome ℕ Grid) : Type 0 where
  pub count : (n : ℕ) × (out.answer ≡ given n)
  pub leaves : out.lent ≡ marked f h.model h.frame (all_marks (hand_marks f h.extents) bs) g

module _ (f : Format) (h : Head) (g : Grid) (p : tried h g ≡ none) where
  list_does : (bs : List Beam) → Taken (beam_marks f h.extents) bs → Does f h (as_beams bs) g (of_integrated (integrated f h.extents h.model h.frame bs g))
  list_does bs t =
      record {
        count = given_a_count f h.extents h.model h.frame bs g t;
        leaves =
            grid_is f h.extents h.model h.frame bs g t
            ∙ ap (λ (xs : List Mark). marked f h.model h.frame xs g) (same_marks f h.extents bs);
      }

  slice_does : (bs : List Beam) → Taken (beam_marks f h.extents) bs → Does f h (as_beams bs) g (update_beams_entry f h bs g)
  unfolding update_beams_entry
  slice_does bs t = rw p (list_does bs t)

  ray_does : (b : Beam) → Taken (hand_marks f h.extents) (beam b ∷ []) → Does f h (beam b ∷ []) g (update_ray_entry f h b g)
  unfolding update_ray_entry integrated_beam marked
  ray_does b t =
      let a = t (beam b) (Memᴰ.head refl) in
      rw (p, a.1) (record {
        count = (changes f h.model h.frame a.0 g, refl);
        leaves =
            sym (marked_append f h.model h.frame a.0 [] g)
            ∙ ap (λ (c : Answer (List Mark)). marked f h.model h.frame (marks_given c ++ []) g) (sym a.1);
      })

  file_does : (bytes : List ℕ) (s : Sweep) → sweep_of (length h.extents) bytes ≡ given s → Taken (beam_marks f h.extents) s.beams
      → Does f h (as_beams s.beams) g (counted (update_sweep_entry f h bytes g))
  unfolding update_sweep_entry
  file_does bytes s q t =
      let d = list_does s.beams t in
      let told : Answer ℕ → Answer ℕ = λ a. and_then (and_then a (λ (n : ℕ). given (record { station = s.station; count = n }))) (λ (x : Swept). given x.count) in
      rw (p, q) (record { count = (d.count.0, ap told d.count.1); leaves = d.leaves })

  mark_does : (occupied : Bool) (cell : List ℤ) → Taken (hand_marks f h.extents) (by_hand occupied cell ∷ [])
      → Does f h (by_hand occupied cell ∷ []) g (changed_one (mark_entry f occupied h cell g))
  unfolding mark_entry marked
  mark_does occupied cell t = go (flat_index h.extents cell) refl (t (by_hand occupied cell) (Memᴰ.head refl))
    where
      go : (a : Answer ℕ) → flat_index h.extents cell ≡ a → (xs : List Mark) × (hand_marks f h.extents (by_hand occupied cell) ≡ given xs)
          → Does f h (by_hand occupied cell ∷ []) g (changed_one (unless_refused (tried h g) g (mark_answer f h occupied g (flat_index h.extents cell))))
      go (given i) q w =
          rw (p, q) (record {
            count = (_, refl);
            leaves =
                ap (λ (a : Answer ℕ). marked f h.model h.frame (marks_given (and_then a (λ j. given (record { place = j; occupied = occupied } ∷ []))) ++ []) g) (sym q);
          })
      go (refused r) q w =
          absurd (refused_given r w.0 (ap (λ (a : Answer ℕ). and_then a (λ j. given (record { place = j; occupied = occupied } ∷ []))) (sym q) ∙ w.1))

  pub does : (c : Call) → Good f h.extents c → Does f h (hands_over f h.extents c) g (outcome f h c g)
  does (ray b) w = ray_does b w.taken
  does (flat-list numbers hits) w =
      let bs = beams_of (length h.extents) numbers hits in
      subst (Does f h (as_beams bs) g) (sym (flat_as_structs f h numbers hits g w.well_formed)) (slice_does bs (beams_taken f h.extents bs w.taken))
  does (slice bs) w = slice_does bs (beams_taken f h.extents bs w.taken)
  does (file bytes) w =
      let s = w.well_formed.0 in
      let q = w.well_formed.1 in
      subst (λ (a : Answer Sweep). Does f h (as_beams (beams_of_file a)) g (counted (update_sweep_entry f h bytes g))) (sym q)
      (file_does bytes s q (beams_taken f h.extents s.beams (subst (λ (a : Answer Sweep). Taken (hand_marks f h.extents) (as_beams (beams_of_file a))) q w.taken)))
  does (upright v) w =
      let b = general_beam f h.extents v in
      subst (Does f h (beam b ∷ []) g) (sym ((same_as_general f).outcome h v g w.well_formed)) (ray_does b w.taken)
  does (mark occupied cell) w = mark_does occupied cell w.taken
