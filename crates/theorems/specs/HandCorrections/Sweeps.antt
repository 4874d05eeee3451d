-- What the entries answer of an empty list of beams, and of two lists one after another in one sweep: as structs, and
-- as flat numbers. Assumes nothing.
use Prim.Native.Nat.{ℕ, ◌+◌}
use Rattle.std.specs.Prelude.{◌≡◌, List, ◌++◌}
use Rattle.std.proofs.Math.Path.{refl, ap, ap₂}
use Rattle.std.proofs.Common.{sym, ◌∙◌, arith}
use Rattle.std.proofs.Math.Option.{Option, some, none}
use Rattle.std.proofs.Math.ListN.{length}
use Rattle.std.specs.Float.{Format}
use Rattle.rules.specs.RefusalNumbers.{Refusal, Answer, given, refused, ray_in_list}
use Rattle.rules.specs.RefusalNumbers.Entries.{Outcome, unless_refused, head_refusal, uses_of, beams, of_integrated, update_beams_entry}
use Rattle.rules.specs.TheGridAndItsBounds.{Model, Head, Grid}
use Rattle.rules.specs.MarksAndFrames.{Mark}
use Rattle.rules.specs.OneBeam.{Beam, Integrated, integrated_marks, integrated_beam, beam_marks}
use Rattle.beam.proofs.MarkLists.{marked-odds, marked-stamps}
use Rattle.theorems.specs.HandCorrections.{Joined}
use Rattle.theorems.specs.HandCorrections.Lists.{Ended, done, stopped, behind, Came, outcome_of, and_on, whole-list, list_is, list-keeps, lists_joined}

-- ---- a list keeps the lengths of what it was lent
module _ (f : Format) (m : Model) (k : ℕ) where
  pub marks_odds : (a : Answer (List Mark)) (g : Grid) → length (integrated_marks f m k g a).grid.odds ≡ length g.odds
  marks_odds (given xs) g = marked-odds f m k xs g
  marks_odds (refused r) g = refl

  pub marks_stamps : (a : Answer (List Mark)) (g : Grid) → length (integrated_marks f m k g a).grid.stamps ≡ length g.stamps
  marks_stamps (given xs) g = marked-stamps f m k xs g
  marks_stamps (refused r) g = refl

pub beam-odds : (f : Format) (es : List ℕ) (m : Model) (k : ℕ) (b : Beam) (g : Grid) → length (integrated_beam f es m k b g).grid.odds ≡ length g.odds
unfolding integrated_beam
beam-odds f es m k b g = marks_odds f m k (beam_marks f es b) g

pub beam-stamps : (f : Format) (es : List ℕ) (m : Model) (k : ℕ) (b : Beam) (g : Grid) → length (integrated_beam f es m k b g).grid.stamps ≡ length g.stamps
unfolding integrated_beam
beam-stamps f es m k b g = marks_stamps f m k (beam_marks f es b) g

-- ---- the entry, with what the head refuses and how far the list came as they may be
abbrev tried : Head → Grid → Option Refusal
tried h g = head_refusal (uses_of beams) h (length g.odds) (length g.stamps)

abbrev outcome : Option Refusal → Grid → Came → Outcome ℕ Grid
outcome r g c = unless_refused r g (of_integrated (outcome_of c))

-- the second list put behind the first
abbrev put_behind : ℕ → Came → (Grid → Came) → Came
put_behind p c go = and_on c.end c.grid (λ n x. record { end = behind p n (go x).end; grid = (go x).grid })

module _ (f : Format) (h : Head) where
  list : List Beam → Grid → Came
  list bs g = whole-list f h.extents h.model h.frame bs g

  entry_is : (bs : List Beam) (g : Grid) → update_beams_entry f h bs g ≡ outcome (tried h g) g (list bs g)
  unfolding update_beams_entry list
  entry_is bs g = ap (λ (x : Integrated). unless_refused (tried h g) g (of_integrated x)) (list_is f h.extents h.model h.frame bs g)

  -- the head refuses of the grid that a list left what it refuses of the one before
  same-tried : (bs : List Beam) (g : Grid) → tried h (update_beams_entry f h bs g).lent ≡ tried h g
  unfolding list
  same-tried bs g = ap (λ (o : Outcome ℕ Grid). tried h o.lent) (entry_is bs g) ∙ go (tried h g)
    where
      go : (r : Option Refusal) → tried h (outcome r g (whole-list f h.extents h.model h.frame bs g)).lent ≡ tried h g
      go (some r) = refl
      go none =
          ap₂ (λ (i j : ℕ). head_refusal (uses_of beams) h i j)
          (list-keeps f h.extents h.model h.frame (λ x. length x.odds) (beam-odds f h.extents h.model h.frame) bs g)
          (list-keeps f h.extents h.model h.frame (λ x. length x.stamps) (beam-stamps f h.extents h.model h.frame) bs g)

  second_is : (bs cs : List Beam) (g : Grid)
      → update_beams_entry f h cs (update_beams_entry f h bs g).lent ≡ outcome (tried h g) (outcome (tried h g) g (list bs g)).lent (list cs (outcome (tried h g) g (list bs g)).lent)
  second_is bs cs g =
      entry_is cs (update_beams_entry f h bs g).lent
      ∙ ap (λ (r : Option Refusal). outcome r (update_beams_entry f h bs g).lent (list cs (update_beams_entry f h bs g).lent)) (same-tried bs g)
      ∙ ap (λ (o : Outcome ℕ Grid). outcome (tried h g) o.lent (list cs o.lent)) (entry_is bs g)

  both_is : (bs cs : List Beam) (g : Grid) → update_beams_entry f h (bs ++ cs) g ≡ outcome (tried h g) g (put_behind (length bs) (list bs g) (λ x. list cs x))
  unfolding list
  both_is bs cs g = entry_is (bs ++ cs) g ∙ ap (λ (c : Came). outcome (tried h g) g c) (lists_joined f h.extents h.model h.frame bs cs g)

-- ---- two lists, whatever they are
given_is : {A : Type 0} (a b : A) → given a ≡ given b → a ≡ b
given_is a b e = cc

not_given : {A : Type 0} (a : A) (r : Refusal) → refused r ≡ given a → ⊥
not_given a r e = let z : ◌≡◌ {A = ℕ} 0 1 = cc in omega arith

refused_is : {A : Type 0} (r t : Refusal) → ◌≡◌ {A = Answer A} (refused r) (refused t) → r ≡ t
refused_is r t e = cc

-- by how the first ended, and then the second
by_ends : (p : ℕ) (g : Grid) (e : Ended) (x : Grid) (go : Grid → Came)
    → Joined p (outcome none g (record { end = e; grid = x })) (outcome none x (go x)) (outcome none g (put_behind p (record { end = e; grid = x }) go))
by_ends p g (stopped q n) x go =
    record {
      counts_added = λ k l a b. absurd (not_given k (ray_in_list q n) a);
      first_refused = λ r a. refl;
      second_refused = λ k r a b. absurd (not_given k (ray_in_list q n) a);
    }
by_ends p g (done n) x go = second (go x).end
  where
    second : (e : Ended)
        → Joined p (outcome none g (record { end = done n; grid = x })) (outcome none x (record { end = e; grid = (go x).grid }))
        (outcome none g (record { end = behind p n e; grid = (go x).grid }))
    second (done m) =
        record {
          counts_added = λ k l a b. ap₂ (λ (i j : ℕ). record { answer = given (i + j); lent = (go x).grid }) (given_is n k a) (given_is m l b);
          first_refused = λ r a. absurd (not_given n r (sym a));
          second_refused = λ k r a b. absurd (not_given m r (sym b));
        }
    second (stopped q m) =
        record {
          counts_added = λ k l a b. absurd (not_given l (ray_in_list q m) b);
          first_refused = λ r a. absurd (not_given n r (sym a));
          second_refused =
              λ k r a b. (
                q,
                m,
                sym (refused_is (ray_in_list q m) r b),
                ap (λ (i : ℕ). record { answer = refused (ray_in_list (p + q) (i + m)); lent = (go x).grid }) (given_is n k a),
              );
        }

by_head : (p : ℕ) (g : Grid) (r : Option Refusal) (c : Came) (go : Grid → Came)
    → Joined p (outcome r g c) (outcome r (outcome r g c).lent (go (outcome r g c).lent)) (outcome r g (put_behind p c go))
by_head p g (some r) c go =
    record {
      counts_added = λ k l a b. absurd (not_given k r a);
      first_refused = λ t a. refl;
      second_refused = λ k t a b. absurd (not_given k r a);
    }
by_head p g none c go = by_ends p g c.end c.grid go

-- two lists of structs
pub lists : (f : Format) (h : Head) (bs cs : List Beam) (g : Grid)
    → Joined (length bs) (update_beams_entry f h bs g) (update_beams_entry f h cs (update_beams_entry f h bs g).lent) (update_beams_entry f h (bs ++ cs) g)
lists f h bs cs g =
    rw (second_is f h bs cs g, both_is f h bs cs g, entry_is f h bs g)
    (by_head (length bs) g (tried h g) (list f h bs g) (λ x. list f h cs x))
