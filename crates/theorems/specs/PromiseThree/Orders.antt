-- The marks of a frame in any order, each any number of times: a cell sees only the marks on it, and whether it has any
-- and whether one of them is a cloud mark decides its stamp. And its odds, where a clear mark taken back leaves what
-- the cloud mark alone would. Assumes nothing.
use Rattle.std.specs.Prelude.{◌≡◌, ◌⊎◌, Bool, ◌||◌, T, eqb, length, get_or, set, Float}
use Rattle.std.proofs.Math.Path.{refl, ap}
use Rattle.std.proofs.Common.{sym, ◌∙◌, inl, inr, eq-eqb, ne_eqb, length-set, get_or-set_same, get_or-set_other}
use mathlib.Core.List.{List, [], ◌∷◌}
use Rattle.std.proofs.Math.Bool.{true, false, cond}
use Prim.Native.Nat.{ℕ, ◌+◌, ◌*◌, ◌/◌, ◌<◌}
use native.Mathlib.Omega.{arith}
use Rattle.std.proofs.Math.Decide.{ℕ_discrete}
use Rattle.std.specs.Float.{nan, Format}
use Rattle.std.specs.Float.Ieee.{le, sub}
use Rattle.rules.specs.TheGridAndItsBounds.{Model, Grid}
use Rattle.rules.specs.MarksAndFrames.{Steps, Cell, Mark, steps_at, stamp_of, frame_of, unmarked, freed, mark_free, occupied_step, occupy, mark_occupied, mark_cell}
use Rattle.rules.specs.MarksAndFrames.{cell_at, with_cell, mark_at, marked}
use Rattle.theorems.specs.PromiseThree.TakeBack.{alone, taken_back}

-- ---- one cell: the marks on it, by their kinds
pub runs : Format → Steps → ℕ → List Bool → Cell → Cell
runs f s k [] c = c
runs f s k (b ∷ bs) c = runs f s k bs (mark_cell f s k b c).cell

abbrev pub any_cloud : List Bool → Bool
any_cloud [] = false
any_cloud (b ∷ bs) = b || any_cloud bs

abbrev pub any_mark : List Bool → Bool
any_mark [] = false
any_mark (b ∷ bs) = true

module _ (f : Format) (s : Steps) (k : ℕ) where
  -- a cell after a clear mark, after a cloud mark alone, and after a cloud mark that takes back a clear one
  abbrev pub cleared : Float → Cell
  cleared o = record { odds = freed f s o; stamp = stamp_of k false }

  abbrev pub clouded : Float → Cell
  clouded o = record { odds = alone f s o; stamp = stamp_of k true }

  abbrev pub restored : Float → Cell
  restored o = record { odds = taken_back f s o; stamp = stamp_of k true }

  left-cloud : (b : Bool) (c : Cell) → c.stamp ≡ stamp_of k true → (mark_cell f s k b c).cell ≡ c
  unfolding mark_cell mark_free mark_occupied stamp_of
  left-cloud false c e =
      ap (λ (t : Bool). (cond t (unmarked c) (record { cell = cleared c.odds; changed = true })).cell) (eq-eqb (c.stamp / 2) k (omega arith))
  left-cloud true c e =
      ap (λ (t : Bool). (cond t (unmarked c) (record { cell = record { odds = occupy f s c.odds (occupied_step f s k c); stamp = stamp_of k true }; changed = true })).cell)
      (eq-eqb c.stamp (k * 2 + 1) e)

  left-clear : (c : Cell) → c.stamp ≡ stamp_of k false → (mark_cell f s k false c).cell ≡ c
  unfolding mark_cell mark_free stamp_of
  left-clear c e =
      ap (λ (t : Bool). (cond t (unmarked c) (record { cell = cleared c.odds; changed = true })).cell) (eq-eqb (c.stamp / 2) k (omega arith))

  -- what a cloud mark makes of a cell that has none in this frame
  cloud_mark_lem : (c : Cell) → ¬ (c.stamp ≡ stamp_of k true)
      → (mark_cell f s k true c).cell ≡ record { odds = occupy f s c.odds (occupied_step f s k c); stamp = stamp_of k true }
  unfolding mark_cell mark_occupied
  cloud_mark_lem c n =
      ap (λ (t : Bool). (cond t (unmarked c) (record { cell = record { odds = occupy f s c.odds (occupied_step f s k c); stamp = stamp_of k true }; changed = true })).cell)
      (ne_eqb c.stamp (stamp_of k true) n)

  pub back_step : (c : Cell) → c.stamp ≡ stamp_of k false → occupied_step f s k c ≡ cond (le c.odds s.floor) s.occupied (sub f s.occupied s.free)
  unfolding occupied_step
  back_step c e =
      ap (λ (t : Bool). cond t (cond (le c.odds s.floor) s.occupied (sub f s.occupied s.free)) s.occupied) (eq-eqb c.stamp (stamp_of k false) e)

  alone_step : (c : Cell) → ¬ (c.stamp ≡ stamp_of k false) → occupied_step f s k c ≡ s.occupied
  unfolding occupied_step
  alone_step c n =
      ap (λ (t : Bool). cond t (cond (le c.odds s.floor) s.occupied (sub f s.occupied s.free)) s.occupied) (ne_eqb c.stamp (stamp_of k false) n)

  stamps_differ : stamp_of k false ≡ stamp_of k true → ⊥
  unfolding stamp_of
  stamps_differ e = omega arith

  of_frame : (b : Bool) (t : ℕ) → t ≡ stamp_of k b → frame_of t ≡ k
  unfolding stamp_of
  of_frame true t e = omega arith
  of_frame false t e = omega arith

  taken_back_lem : (c : Cell) → c.stamp ≡ stamp_of k false → (mark_cell f s k true c).cell ≡ restored c.odds
  taken_back_lem c e =
      cloud_mark_lem c (λ g. stamps_differ (sym e ∙ g)) ∙ ap (λ (d : Float). record { odds = occupy f s c.odds d; stamp = stamp_of k true }) (back_step c e)

  -- a cell whose stamp is not of this frame
  module _ (c : Cell) (new : ¬ (frame_of c.stamp ≡ k)) where
    new_clear : (mark_cell f s k false c).cell ≡ cleared c.odds
    unfolding mark_cell mark_free
    new_clear = ap (λ (t : Bool). (cond t (unmarked c) (record { cell = cleared c.odds; changed = true })).cell) (ne_eqb (c.stamp / 2) k new)

    new_cloud : (mark_cell f s k true c).cell ≡ clouded c.odds
    new_cloud =
        cloud_mark_lem c (λ g. new (of_frame true c.stamp g))
        ∙ ap (λ (d : Float). record { odds = occupy f s c.odds d; stamp = stamp_of k true }) (alone_step c (λ g. new (of_frame false c.stamp g)))

  -- many marks
  runs_cloud : (bs : List Bool) (c : Cell) → c.stamp ≡ stamp_of k true → runs f s k bs c ≡ c
  unfolding runs
  runs_cloud [] c e = refl
  runs_cloud (b ∷ bs) c e = ap (λ (x : Cell). runs f s k bs x) (left-cloud b c e) ∙ runs_cloud bs c e

  runs_clear : (bs : List Bool) (c : Cell) → c.stamp ≡ stamp_of k false → runs f s k bs c ≡ cond (any_cloud bs) (restored c.odds) c
  unfolding runs
  runs_clear [] c e = refl
  runs_clear (false ∷ bs) c e = ap (λ (x : Cell). runs f s k bs x) (left-clear c e) ∙ runs_clear bs c e
  runs_clear (true ∷ bs) c e = ap (λ (x : Cell). runs f s k bs x) (taken_back_lem c e) ∙ runs_cloud bs (restored c.odds) refl

  module _ (c : Cell) (new : ¬ (frame_of c.stamp ≡ k)) where
    pub runs_first_clear : (bs : List Bool) → runs f s k (false ∷ bs) c ≡ cond (any_cloud bs) (restored (freed f s c.odds)) (cleared c.odds)
    unfolding runs
    runs_first_clear bs = ap (λ (x : Cell). runs f s k bs x) (new_clear c new) ∙ runs_clear bs (cleared c.odds) refl

    pub runs_first_cloud : (bs : List Bool) → runs f s k (true ∷ bs) c ≡ clouded c.odds
    unfolding runs
    runs_first_cloud bs = ap (λ (x : Cell). runs f s k bs x) (new_cloud c new) ∙ runs_cloud bs (clouded c.odds) refl

-- ---- the whole grid: cell i sees only the marks on it
abbrev pub kinds_on : ℕ → List Mark → List Bool
kinds_on i [] = []
kinds_on i (x ∷ xs) = cond (eqb x.place i) (x.occupied ∷ kinds_on i xs) (kinds_on i xs)

-- lists of n cells
pub record Sized (n : ℕ) (g : Grid) : Type 0 where
  pub odds : length g.odds ≡ n
  pub stamps : length g.stamps ≡ n

with_sized : (n i : ℕ) (c : Cell) (g : Grid) → Sized n g → Sized n (with_cell g i c)
with_sized n i c g s = record { odds = length-set g.odds i c.odds ∙ s.odds; stamps = length-set g.stamps i c.stamp ∙ s.stamps }

with-same : (g : Grid) (n i j : ℕ) (c : Cell) → Sized n g → i < n → j ≡ i → cell_at (with_cell g j c) i ≡ c
with-same g n i j c s h e = λ u. record { odds = a u; stamp = b u }
  where
    a : get_or (set g.odds j c.odds) i nan ≡ c.odds
    a = rw e (get_or-set_same g.odds i c.odds nan (omega (arith, s.odds)))

    b : get_or (set g.stamps j c.stamp) i 0 ≡ c.stamp
    b = rw e (get_or-set_same g.stamps i c.stamp 0 (omega (arith, s.stamps)))

with-other : (g : Grid) (i j : ℕ) (c : Cell) → ¬ (j ≡ i) → cell_at (with_cell g j c) i ≡ cell_at g i
with-other g i j c n =
    λ u. record { odds = get_or-set_other g.odds j i c.odds nan (λ e. n (sym e)) u; stamp = get_or-set_other g.stamps j i c.stamp 0 (λ e. n (sym e)) u }

module _ (f : Format) (m : Model) (k : ℕ) where
  pub marked_sized : (xs : List Mark) (g : Grid) (n : ℕ) → Sized n g → Sized n (marked f m k xs g)
  unfolding marked
  marked_sized [] g n s = s
  marked_sized (x ∷ xs) g n s =
      let c = (mark_at f m k x g).cell in
      marked_sized xs (with_cell g x.place c) n (with_sized n x.place c g s)

  pub marked-cell : (xs : List Mark) (g : Grid) (n i : ℕ) → Sized n g → i < n → cell_at (marked f m k xs g) i ≡ runs f (steps_at m i) k (kinds_on i xs) (cell_at g i)
  unfolding marked runs mark_at
  marked-cell [] g n i s h = refl
  marked-cell (x ∷ xs) g n i s h =
      let c = (mark_at f m k x g).cell in
      marked-cell xs (with_cell g x.place c) n i (with_sized n x.place c g s) h ∙ go (ℕ_discrete x.place i)
    where
      one : ℕ → Cell
      one j = (mark_cell f (steps_at m j) k x.occupied (cell_at g j)).cell

      go : Dec (x.place ≡ i) → runs f (steps_at m i) k (kinds_on i xs) (cell_at (with_cell g x.place (one x.place)) i) ≡ runs f (steps_at m i) k (kinds_on i (x ∷ xs))
          (cell_at g i)
      go (yes e) =
          ap (λ (z : Cell). runs f (steps_at m i) k (kinds_on i xs) z) (with-same g n i x.place (one x.place) s h e ∙ ap one e)
          ∙ ap (λ (t : Bool). runs f (steps_at m i) k (cond t (x.occupied ∷ kinds_on i xs) (kinds_on i xs)) (cell_at g i)) (sym (eq-eqb x.place i e))
      go (no e) =
          ap (λ (z : Cell). runs f (steps_at m i) k (kinds_on i xs) z) (with-other g i x.place (one x.place) e)
          ∙ ap (λ (t : Bool). runs f (steps_at m i) k (cond t (x.occupied ∷ kinds_on i xs) (kinds_on i xs)) (cell_at g i)) (sym (ne_eqb x.place i e))

-- ---- how a cell ends whose stamp is not of this frame
module _ (f : Format) (s : Steps) (k : ℕ) (c : Cell) (new : ¬ (frame_of c.stamp ≡ k)) where
  pub no_marks : (bs : List Bool) → ¬ T (any_mark bs) → runs f s k bs c ≡ c
  no_marks [] n = unfold runs in refl
  no_marks (b ∷ bs) n = absurd (n tt)

  pub clear_marks : (bs : List Bool) → T (any_mark bs) → ¬ T (any_cloud bs) → runs f s k bs c ≡ cleared f s k c.odds
  clear_marks [] t n = absurd t
  clear_marks (true ∷ bs) t n = absurd (n tt)
  clear_marks (false ∷ bs) t n = runs_first_clear f s k c new bs ∙ go (any_cloud bs) n
    where
      go : (b : Bool) → ¬ T b → cond b (restored f s k (freed f s c.odds)) (cleared f s k c.odds) ≡ cleared f s k c.odds
      go true n = absurd (n tt)
      go false n = refl

  pub cloud_marks : (bs : List Bool) → T (any_cloud bs) → (runs f s k bs c ≡ clouded f s k c.odds) ⊎ (runs f s k bs c ≡ restored f s k (freed f s c.odds))
  cloud_marks [] t = absurd t
  cloud_marks (true ∷ bs) t = inl (runs_first_cloud f s k c new bs)
  cloud_marks (false ∷ bs) t = inr (runs_first_clear f s k c new bs ∙ go (any_cloud bs) t)
    where
      go : (b : Bool) → T b → cond b (restored f s k (freed f s c.odds)) (cleared f s k c.odds) ≡ restored f s k (freed f s c.odds)
      go true t = refl
      go false t = absurd t

  pub stamp_is : (bs : List Bool) → (runs f s k bs c).stamp ≡ cond (any_cloud bs) (stamp_of k true) (cond (any_mark bs) (stamp_of k false) c.stamp)
  stamp_is [] = unfold runs in refl
  stamp_is (true ∷ bs) = ap (λ (x : Cell). x.stamp) (runs_first_cloud f s k c new bs)
  stamp_is (false ∷ bs) = ap (λ (x : Cell). x.stamp) (runs_first_clear f s k c new bs) ∙ go (any_cloud bs)
    where
      go : (b : Bool) → (cond b (restored f s k (freed f s c.odds)) (cleared f s k c.odds)).stamp ≡ cond b (stamp_of k true) (stamp_of k false)
      go true = refl
      go false = refl

  -- where taking back is exact
  pub odds_are : taken_back f s (freed f s c.odds) ≡ alone f s c.odds → (bs : List Bool)
      → (runs f s k bs c).odds ≡ cond (any_cloud bs) (alone f s c.odds) (cond (any_mark bs) (freed f s c.odds) c.odds)
  odds_are x [] = unfold runs in refl
  odds_are x (true ∷ bs) = ap (λ (y : Cell). y.odds) (runs_first_cloud f s k c new bs)
  odds_are x (false ∷ bs) = ap (λ (y : Cell). y.odds) (runs_first_clear f s k c new bs) ∙ go (any_cloud bs)
    where
      go : (b : Bool) → (cond b (restored f s k (freed f s c.odds)) (cleared f s k c.odds)).odds ≡ cond b (alone f s c.odds) (freed f s c.odds)
      go true = x
      go false = refl
