-- Marks one list after another: the grid after both, and the count of both; and that marks keep the lists' lengths.
-- Assumes nothing.
use Prim.Native.Nat.{ℕ, ◌+◌}
use mathlib.Core.List.{List, [], ◌∷◌, ◌++◌}
use mathlib.Core.Path.{◌≡◌, refl, ◌∙◌}
use native.Mathlib.Omega.{arith}
use lib.Ieee.{Format}
use lib.ListN.{length, length-set}
use Rattle.rules.specs.TheGridAndItsBounds.{Model, Grid}
use Rattle.rules.specs.MarksAndFrames.{Mark, mark_at, with_cell, marked, changes}

module _ (f : Format) (m : Model) (k : ℕ) where
  pub marked_append : (xs ys : List Mark) (g : Grid) → marked f m k (xs ++ ys) g ≡ marked f m k ys (marked f m k xs g)
  unfolding marked
  marked_append [] ys g = refl
  marked_append (x ∷ xs) ys g = marked_append xs ys (with_cell g x.place (mark_at f m k x g).cell)

  pub changes_append : (xs ys : List Mark) (g : Grid) → changes f m k (xs ++ ys) g ≡ changes f m k xs g + changes f m k ys (marked f m k xs g)
  unfolding marked changes
  changes_append [] ys g = omega arith
  changes_append (x ∷ xs) ys g = let h = changes_append xs ys (with_cell g x.place (mark_at f m k x g).cell) in omega arith

  -- marks change neither list's length
  pub marked-odds : (xs : List Mark) (g : Grid) → length (marked f m k xs g).odds ≡ length g.odds
  unfolding marked
  marked-odds [] g = refl
  marked-odds (x ∷ xs) g = marked-odds xs (with_cell g x.place (mark_at f m k x g).cell) ∙ length-set g.odds x.place _

  pub marked-stamps : (xs : List Mark) (g : Grid) → length (marked f m k xs g).stamps ≡ length g.stamps
  unfolding marked
  marked-stamps [] g = refl
  marked-stamps (x ∷ xs) g = marked-stamps xs (with_cell g x.place (mark_at f m k x g).cell) ∙ length-set g.stamps x.place _
