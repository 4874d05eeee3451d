-- What the floor costs, proved of the rules: in every format, on any number of axes, for every list of beams. Assumes
-- nothing.
use Rattle.std.specs.Prelude.{◌≡◌, refl, ◌⊎◌, List, false, ℕ, ◌+◌, ◌*◌, ◌≤◌, ◌<◌, min, max, T}
use Rattle.std.proofs.Common.{sym, ap, ◌∙◌, arith, le→leb}
use Rattle.std.proofs.Math.Path.{subst}
use Rattle.std.proofs.Math.Logic.{inl, inr}
use Rattle.std.proofs.Math.ListN.{get_or}
use Rattle.std.specs.Float.Ieee.{Float, nan, add, le}
use Rattle.std.specs.Float.{Format}
use Rattle.std.specs.Float.Ieee.Fits.{and_l, and_r}
use Rattle.rules.specs.RefusalNumbers.{Answer}
use Rattle.rules.specs.TheGridAndItsBounds.{Model, Head, Grid, cells, bounded, floor}
use Rattle.rules.specs.MarksAndFrames.{Mark, Steps, pair_for, steps_at, stamp_of, freed, occupy, cell_at}
use Rattle.rules.specs.OneBeam.{Beam, beam_marks}
use Rattle.laws.specs.Floats.Tests.{order}
use Rattle.theorems.specs.PromiseThree.{Opened, Ends, Sweep, sweep, Hit, frame_opened, odds_within, of_units, model_of_units, cloud_alone, cloud_after_clear}
use Rattle.theorems.specs.PromiseThree.Dyadic.{Units, dif, dif-units, add-dif, le-units}
use Rattle.theorems.specs.PromiseThree.Multiple.{many, plus, less}
use Rattle.theorems.specs.PromiseThree.TakeBack.{alone, taken_back, most, most-fits, StepUnits, free_is, freed_is, alone_is, back_low, take_back}
use Rattle.theorems.specs.PromiseThree.OneCell.{above, in_units, near-zero, step_units, of_units_lem}
use Rattle.theorems.specs.PromiseThree.Orders.{back_step}
use Rattle.theorems.specs.PromiseThree.Proof.{promise_three}
use Rattle.theorems.specs.FloorCost.{InUnits, lone_vote, FloorCost}

-- at most the one and at least the other less a clear step
pub record Between (f : Format) (s : Steps) (lone x : Float) : Type 0 where
  pub no_higher : T (le x lone)
  pub one_clear_step : T (le (add f lone s.free) x)

module _ (f : Format) (s : Steps) (O F C : ℕ) (u : StepUnits f s O F C) where
  -- R - S units are the lone vote, and P - Q units stand where they should
  ordered : (P Q R S : ℕ) → P ≤ Q + most f → Q ≤ P + most f → R ≤ S + most f → S ≤ R + most f → P + S ≤ R + Q → R + Q ≤ P + (S + F)
      → Between f s (dif f R S) (dif f P Q)
  ordered P Q R S a b c d low high =
      let M = most-fits f in
      let x = dif-units f P Q (omega arith) (omega arith) in
      let y = dif-units f R S (omega arith) (omega arith) in
      let z = dif-units f (R + 0) (S + F) (omega (arith, u.free_most)) (omega (arith, u.free_most)) in
      let less : add f (dif f R S) s.free ≡ dif f (R + 0) (S + F) =
      ap (λ (v : Float). add f (dif f R S) v) (free_is f s O F C u) ∙ add-dif f (dif f R S) R S 0 F y (omega (arith, u.free_most)) (omega (arith, u.free_most)) in
      record {
        no_higher = subst T (sym (le-units f (dif f P Q) (dif f R S) P Q R S x y)) (le→leb (P + S) (R + Q) low);
        one_clear_step =
            subst (λ (v : Float). T (le v (dif f P Q))) (sym less)
            (subst T (sym (le-units f (dif f (R + 0) (S + F)) (dif f P Q) (R + 0) (S + F) P Q z x)) (le→leb (R + 0 + Q) (P + (S + F)) (omega arith)));
      }

  -- of one cell: a clear mark and a cloud mark after it
  module _ (o : Float) (a b : ℕ) (w : Units f o a b) (near : a ≤ b + 4 * most f) (near' : b ≤ a + 4 * most f) where
    R : ℕ
    R = max (b + 0) (min (a + O + C) (b + 0 + C + C))

    S : ℕ
    S = b + 0 + C

    -- the clear step, cut off by the floor or not
    p : ℕ
    p = max (b + F) (min (a + 0 + C) (b + F + C + C))

    q : ℕ
    q = b + F + C

    P : ℕ
    P = max (q + 0) (min (p + O + C) (q + 0 + C + C))

    Q : ℕ
    Q = q + 0 + C

    lone : Between f s (dif f R S) (dif f R S)
    unfolding R S
    lone = ordered R S R S (omega (arith, u.ceiling_most)) (omega (arith, u.ceiling_most)) (omega (arith, u.ceiling_most)) (omega (arith, u.ceiling_most)) (omega arith) (omega arith)

    cut_off : b ≤ a + C → a + C ≤ b + F → Between f s (dif f R S) (dif f P Q)
    unfolding R S p q P Q
    cut_off h k =
        ordered P Q R S (omega (arith, u.ceiling_most)) (omega (arith, u.ceiling_most)) (omega (arith, u.ceiling_most)) (omega (arith, u.ceiling_most)) (omega arith) (omega arith)

    alone-between : Between f s (alone f s o) (alone f s o)
    unfolding R S
    alone-between = subst (λ (x : Float). Between f s x x) (sym (alone_is f s O F C u o a b w near near')) lone

    after-clear : b ≤ a + C → Between f s (alone f s o) (taken_back f s (freed f s o))
    unfolding R S p q P Q
    after-clear h = go (order (b + F) (a + C))
      where
        v : Units f (dif f p q) p q
        v = dif-units f p q (omega (arith, u.ceiling_most, most-fits f)) (omega (arith, u.ceiling_most, most-fits f))

        back_is : a + C ≤ b + F → taken_back f s (freed f s o) ≡ dif f P Q
        back_is k =
            ap (λ (x : Float). taken_back f s x) (freed_is f s O F C u o a b w near near')
            ∙ back_low f s O F C u (dif f p q) p q v (omega (arith, u.ceiling_most)) (omega (arith, u.ceiling_most)) (omega arith)

        go : (b + F < a + C) ⊎ (a + C ≤ b + F) → Between f s (alone f s o) (taken_back f s (freed f s o))
        go (inl k) = subst (λ (x : Float). Between f s (alone f s o) x) (sym (take_back f s O F C u o a b w near near' (inr k))) alone-between
        go (inr k) =
            subst (λ (x : Float). Between f s x (taken_back f s (freed f s o))) (sym (alone_is f s O F C u o a b w near near'))
            (subst (λ (x : Float). Between f s (dif f R S) x) (sym (back_is k)) (cut_off h k))

-- ---- one cell, from the premises
module _ (f : Format) (m : Model) (i : ℕ) (o : Float) (b : T (bounded m)) (n : T (model_of_units f m)) (t : T (odds_within m o)) (w : T (of_units f o)) where
  O : ℕ
  O = many f (pair_for m i).occupied

  F : ℕ
  F = many f (pair_for m i).free

  C : ℕ
  C = many f m.ceiling

  s : Steps
  s = steps_at m i

  u : StepUnits f s O F C
  unfolding O F C s
  u = step_units f m i b n

  from-floor : T (le s.floor o)
  unfolding s odds_within steps_at
  from-floor = and_l (le (floor m) o) (le o m.ceiling) t

  to_ceiling : T (le o s.ceiling)
  unfolding s odds_within steps_at
  to_ceiling = and_r (le (floor m) o) (le o m.ceiling) t

  units : Units f o (plus f o) (less f o)
  units = in_units f s O F C u o (of_units_lem f o w).0 (of_units_lem f o w).1 from-floor to_ceiling

  near : (plus f o ≤ less f o + 4 * most f) × (less f o ≤ plus f o + 4 * most f)
  near = near-zero f s O F C u o (of_units_lem f o w).0 (of_units_lem f o w).1 from-floor to_ceiling

  hit_alone : Between f s (cloud_alone f s o) (cloud_alone f s o)
  hit_alone = alone-between f s O F C u o (plus f o) (less f o) units near.0 near.1

  hit_after_clear : (k : ℕ) → Between f s (cloud_alone f s o) (cloud_after_clear f s k o)
  hit_after_clear k =
      subst (λ (d : Float). Between f s (cloud_alone f s o) (occupy f s (freed f s o) d)) (sym (back_step f s k (record { odds = freed f s o; stamp = stamp_of k false }) refl))
      (after-clear f s O F C u o (plus f o) (less f o) units near.0 near.1 (above f s O F C u o (of_units_lem f o w).0 (of_units_lem f o w).1 from-floor))

-- THE THEOREM
module _ {A : Type 0} (f : Format) (h : Head) (g : Grid) (marks_of : A → Answer (List Mark)) (bs : List A) (after : Grid)
    (p : Opened h g) (c : Ends f h g marks_of bs after) (e : InUnits f h g) where
  hit_cell : (i : ℕ) → i < cells h.extents → Hit marks_of bs i → Between f (steps_at h.model i) (lone_vote f h g i) (cell_at after i).odds
  unfolding s
  hit_cell i l w =
      let o = get_or g.odds i nan in
      let B : Float → Type 0 = λ x. Between f (steps_at h.model i) (lone_vote f h g i) x in
      elim (c.cloud-odds i l w) [
        | inl q ↦ subst B (sym q) (hit_alone f h.model i o p.model e.model (p.within i l) (e.odds i l))
        | inr q ↦ subst B (sym q) (hit_after_clear f h.model i o p.model e.model (p.within i l) (e.odds i l) (frame_opened h))
      ]

  -- wherever cells end as promise 3 has it
  pub ends_cost : FloorCost f h g marks_of bs after
  ends_cost = record { no_higher = λ i l w. (hit_cell i l w).no_higher; one_clear_step = λ i l w. (hit_cell i l w).one_clear_step }

-- of one list of beams
pub floor_cost : (f : Format) (h : Head) (g : Grid) (bs : List Beam) → Sweep f h g bs → InUnits f h g → FloorCost f h g (beam_marks f h.extents) bs (sweep f h g bs).grid
floor_cost f h g bs p e = ends_cost f h g (beam_marks f h.extents) bs (sweep f h g bs).grid p.opened (promise_three f h g bs p).ends e
