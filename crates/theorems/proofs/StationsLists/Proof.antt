-- A night is one list of beams and marks, on the grid that `begin_scan` opened. So what promise 3 says of the marks of
-- a list holds of what the calls leave. Assumes nothing.
use Rattle.std.specs.Prelude.{◌≡◌, List}
use Rattle.std.proofs.Common.{sym, ap, ◌∙◌, subst}
use Rattle.std.specs.Float.{Format}
use Rattle.rules.specs.TheGridAndItsBounds.{Head, Grid}
use Rattle.theorems.specs.PromiseThree.{head_opened, grid_opened, Same, Opened, Ends}
use Rattle.theorems.specs.PromiseThree.Proof.{marks_leave, stamps-same, odds-same}
use Rattle.theorems.specs.PromiseThree.Proof as Marks
use Rattle.theorems.specs.FloorCost.{InUnits, FloorCost}
use Rattle.theorems.specs.FloorCost.Proof.{ends_cost}
use Rattle.theorems.specs.StationsLists.Words.{Call, Handed, hand_marks, handed, night, NoneRefused, SameMap, AsGood}
use Rattle.theorems.specs.StationsLists.Calls.{came, accepted_too, same-handed}

module _ (f : Format) (h : Head) (g : Grid) (o : Opened h g) where
  module _ (cs : List Call) (a : NoneRefused f h g cs) where
    abbrev all : List Handed
    all = handed f h.extents cs

    night_is : night f h g cs ≡ marks_leave f h g o (hand_marks f h.extents) all
    night_is = (came f (head_opened h) cs (grid_opened h g) a).leaves

    pub ends : Ends f h g (hand_marks f h.extents) all (night f h g cs)
    ends = subst (Ends f h g (hand_marks f h.extents) all) (sym night_is) (Marks.ends f h g o (hand_marks f h.extents) all)

    pub costs : InUnits f h g → FloorCost f h g (hand_marks f h.extents) all (night f h g cs)
    costs u = ends_cost f h g (hand_marks f h.extents) all (night f h g cs) o ends u

  pub same_map : (cs ds : List Call) → NoneRefused f h g cs → NoneRefused f h g ds → Same (handed f h.extents cs) (handed f h.extents ds) → SameMap f h g cs ds
  same_map cs ds a b e =
      let marks_of = hand_marks f h.extents in
      let p = night_is cs a in
      let q = night_is ds b in
      record {
        stamps =
            ap (λ (x : Grid). x.stamps) p ∙ stamps-same f h g o marks_of (handed f h.extents cs) (handed f h.extents ds) e
            ∙ ap (λ (x : Grid). x.stamps) (sym q);
        odds =
            λ m. ap (λ (x : Grid). x.odds) p ∙ odds-same f h g o marks_of (handed f h.extents cs) (handed f h.extents ds) e m
            ∙ ap (λ (x : Grid). x.odds) (sym q);
      }

  -- the same calls, in any order and with any repeats
  pub same-calls : (cs ds : List Call) → Same cs ds → NoneRefused f h g cs → AsGood f h g cs ds
  same-calls cs ds e a =
      let b = accepted_too f (head_opened h) cs ds (grid_opened h g) e.back a in
      record { none_refused = b; same_map = same_map cs ds a b (same-handed f h.extents cs ds e.there e.back) }
