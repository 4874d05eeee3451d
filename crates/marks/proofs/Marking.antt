-- One mark in every format: what it leaves of the lists, by the tests that a function made of the stamp and of the
-- odds. Assumes nothing.
use Prim.Native.Nat.{ℕ, ◌/◌}
use mathlib.Core.Bool.{Bool, true, false}
use mathlib.Core.List.{List}
use mathlib.Core.Path.{◌≡◌, sym, ap, ◌∙◌}
use lib.Ieee.{Float, nan, Format, neg, sub, lt, le}
use lib.ListN.{set}
use lib.Seq.{set-get_or}
use borrow.Author.Tests.{eq-eqb, ne_eqb}
use Rattle.rules.specs.MarksAndFrames.{Steps, Cell, Marked, unmarked, cell_at, stamp_of, clamp, limited, steps_at, set_odds, freed, occupied_step, occupy, mark_free, mark_occupied, mark_cell}
use Rattle.rules.specs.TheGridAndItsBounds.{Model, floor}
use Rattle.marks.specs.Marking.{grid_of, cell_of, mark_on, MarkedAt}

-- ---- the bounds
module _ (lo hi x : Float) where
  pub to_floor : lt x lo ≡ true → lo ≡ clamp lo hi x
  unfolding clamp
  to_floor l = rw l

  pub to_ceiling : lt x lo ≡ false → lt hi x ≡ true → hi ≡ clamp lo hi x
  unfolding clamp
  to_ceiling l h = rw (l, h)

  pub in_bounds : lt x lo ≡ false → lt hi x ≡ false → x ≡ clamp lo hi x
  unfolding clamp
  in_bounds l h = rw (l, h)

-- odds that are set use a model's ceiling alone
pub set_by_ceiling : (m : Model) (c : Float) (place : ℕ) (x : Float) (odds : List Float) → m.ceiling ≡ c → set odds place (clamp (neg c) c x) ≡ set_odds m place x odds
unfolding set_odds limited steps_at floor
set_by_ceiling m c place x odds e = ap (λ (k : Float). set odds place (clamp (neg k) k x)) (sym e)

-- ---- what an occupied mark adds: n is the code's number of a free stamp of this frame
module _ (f : Format) (s : Steps) (frame : ℕ) (odds : Float) (stamp : ℕ) {n : ℕ} (e : n ≡ stamp_of frame false) where
  pub on_the_floor : stamp ≡ n → le odds s.floor ≡ true → s.occupied ≡ occupied_step f s frame (cell_of odds stamp)
  unfolding occupied_step
  on_the_floor h l = simp (eq-eqb _ _ (h ∙ e), l)

  pub taken_back_lem : stamp ≡ n → le odds s.floor ≡ false → sub f s.occupied s.free ≡ occupied_step f s frame (cell_of odds stamp)
  unfolding occupied_step
  taken_back_lem h l = rw (eq-eqb _ _ (h ∙ e), l)

  pub nothing_back : (stamp ≡ n → ⊥) → s.occupied ≡ occupied_step f s frame (cell_of odds stamp)
  unfolding occupied_step
  nothing_back h = simp (ne_eqb _ _ (rw e at h))

module _ (f : Format) (s : Steps) (frame at : ℕ) (odds : List Float) (stamps : List ℕ) where
  -- ---- a mark that leaves its cell, and one that changes it
  module _ (occupied : Bool) where
    left : mark_on f occupied s frame at odds stamps ≡ unmarked (cell_at (grid_of odds stamps) at) → MarkedAt f occupied s frame at odds stamps false odds stamps
    left e =
        record {
          answer = sym (ap (λ (m : Marked). m.changed) e);
          odds_now = sym (ap (λ (m : Marked). set odds at m.cell.odds) e ∙ set-get_or odds at nan);
          stamps_now = sym (ap (λ (m : Marked). set stamps at m.cell.stamp) e ∙ set-get_or stamps at 0);
        }

    moved : (o : Float) (t : ℕ) → mark_on f occupied s frame at odds stamps ≡ record { cell = cell_of o t; changed = true }
        → MarkedAt f occupied s frame at odds stamps true (set odds at o) (set stamps at t)
    moved o t e =
        record {
          answer = sym (ap (λ (m : Marked). m.changed) e);
          odds_now = sym (ap (λ (m : Marked). set odds at m.cell.odds) e);
          stamps_now = sym (ap (λ (m : Marked). set stamps at m.cell.stamp) e);
        }

  -- ---- by the test of the stamp: o and t are what the code wrote
  abbrev was : Cell
  was = cell_at (grid_of odds stamps) at

  pub free_left : was.stamp / 2 ≡ frame → MarkedAt f false s frame at odds stamps false odds stamps
  unfolding mark_cell mark_free
  free_left h = left false (simp (eq-eqb _ _ h))

  pub free_moved : {o : Float} {t : ℕ} → (was.stamp / 2 ≡ frame → ⊥) → o ≡ freed f s was.odds → t ≡ stamp_of frame false
      → MarkedAt f false s frame at odds stamps true (set odds at o) (set stamps at t)
  unfolding mark_cell mark_free
  free_moved h p q = moved false _ _ (simp (ne_eqb _ _ h, p, q))

  pub occupied_left : {t : ℕ} → was.stamp ≡ t → t ≡ stamp_of frame true → MarkedAt f true s frame at odds stamps false odds stamps
  unfolding mark_cell mark_occupied
  occupied_left h q = left true (simp (eq-eqb _ _ (h ∙ q)))

  pub occupied_moved : {o step : Float} {t : ℕ} → (was.stamp ≡ t → ⊥) → step ≡ occupied_step f s frame was → o ≡ occupy f s was.odds step → t ≡ stamp_of frame true
      → MarkedAt f true s frame at odds stamps true (set odds at o) (set stamps at t)
  unfolding mark_cell mark_occupied
  occupied_moved h d p q = moved true _ _ (simp (ne_eqb _ _ (rw q at h), p, d, q))
