-- THE ORDER OF THE STATIONS' LISTS does not matter. A night is many calls: one station mails a file, another a list, an
-- older one looks straight up, a keeper sends one beam again or marks a cell by hand. After `begin_scan`, where no call
-- is refused, it matters which beams and marks were handed over: not in which order, not how often, and not by which
-- calls. `Words` has the calls and what they leave; promise 3's words are in `PromiseThree`. Assumes nothing.
pub mod Proof
pub mod Chart
use Rattle.std.specs.Prelude.{ℕ, ◌≡◌, refl, Float}
use Rattle.std.proofs.Common.{ap}
use mathlib.Core.List.{List, [], ◌∷◌, Memᴰ, Permᴰ}
use Rattle.std.specs.Float.{Format}
use Rattle.rules.specs.RefusalNumbers.{given}
use Rattle.rules.specs.RefusalNumbers.Entries.{begin_scan_entry}
use Rattle.rules.specs.TheGridAndItsBounds.{Head, Grid}
use Rattle.rules.specs.LayerChart.{layer_chart_entry}
use Rattle.theorems.specs.PromiseThree.{head_opened, grid_opened, Same, Opened, Multiples, Ends}
use Rattle.theorems.specs.PromiseThree.Proof.{permuted, repeated}
use Rattle.theorems.specs.PromiseThree.Entries.{begins}
use Rattle.theorems.specs.FloorCost.{InUnits, FloorCost}
use Rattle.theorems.specs.StationsLists.Words.{Call, Handed, hand_marks, handed, night, NoneRefused, SameMap, AsGood}
use Rattle.theorems.specs.StationsLists.ChartWords.{LoneVotes, NoThicker}
use Rattle.theorems.proofs.StationsLists.Chart.{lone_votes, votes_same, no_thicker}
use Rattle.theorems.proofs.StationsLists.Proof.{ends, costs, same_map, same-calls}

-- of any format, and of any map whose sweep is properly opened
module _ (f : Format) (h : Head) (g : Grid) (o : Opened h g) where
  -- Two lists exchanged, of whatever kinds: the second order is accepted where the first is, leaves the same stamps,
  -- and under the premises of promise 3's last sentence the same odds.
  pub the_order_of_the_stations_lists : (first second : Call) → NoneRefused f h g (first ∷ second ∷ []) → AsGood f h g (first ∷ second ∷ []) (second ∷ first ∷ [])
  the_order_of_the_stations_lists first second =
      same-calls f h g o (first ∷ second ∷ []) (second ∷ first ∷ []) (permuted (first ∷ second ∷ []) (second ∷ first ∷ []) (Permᴰ.swap refl refl))

  -- All calls of a night, in any other order.
  pub any_order_of_the_calls : (cs ds : List Call) → Permᴰ cs ds → NoneRefused f h g cs → AsGood f h g cs ds
  any_order_of_the_calls cs ds p = same-calls f h g o cs ds (permuted cs ds p)

  -- A call sent again.
  pub a_call_sent_again : (c : Call) (cs : List Call) → Memᴰ c cs → NoneRefused f h g cs → AsGood f h g cs (c ∷ cs)
  a_call_sent_again c cs m = same-calls f h g o cs (c ∷ cs) (repeated c cs m)

  -- The same beams and marks, in any order and with any repeats, divided among calls and kinds of calls in any way.
  pub the_same_beams : (cs ds : List Call) → NoneRefused f h g cs → NoneRefused f h g ds
      → Same (handed f h.extents cs) (handed f h.extents ds) → SameMap f h g cs ds
  the_same_beams = same_map f h g o

  -- Promise 3 of what the last call leaves: each cell ends as the beams and marks that were handed over say.
  pub the_cells_at_the_end : (cs : List Call) → NoneRefused f h g cs → Ends f h g (hand_marks f h.extents) (handed f h.extents cs) (night f h g cs)
  the_cells_at_the_end = ends f h g o

  -- Request 9's bound of it.
  pub the_floor_at_the_end : (cs : List Call) → NoneRefused f h g cs → InUnits f h g → FloorCost f h g (hand_marks f h.extents) (handed f h.extents cs) (night f h g cs)
  the_floor_at_the_end = costs f h g o

  -- THE CHART DOES NOT THICKEN. Two nights that hand over the same are charted alike, number for number and refusal for
  -- refusal, under the premises of promise 3's last sentence.
  pub the_same_chart : (cs ds : List Call) → NoneRefused f h g cs → NoneRefused f h g ds → Same (handed f h.extents cs) (handed f h.extents ds)
      → Multiples f h g → (chart : List ℕ) → layer_chart_entry (head_opened h) (night f h g cs).odds chart ≡ layer_chart_entry (head_opened h) (night f h g ds).odds chart
  the_same_chart cs ds a b e m chart = ap (λ (odds : List Float). layer_chart_entry (head_opened h) odds chart) ((the_same_beams cs ds a b e).odds m)

  -- For multiples of the unit and with no premise about the floor: of some beams and marks, in every order, with any
  -- repeats and divided among calls in any way, no band and neither total of any column is above that of the one map in
  -- which every cell that was hit took one lone cloud vote.
  pub the_chart_does_not_thicken : (bs : List Handed) (lone : List Float) → LoneVotes f h g bs lone → InUnits f h g
      → (cs : List Call) → NoneRefused f h g cs → Same bs (handed f h.extents cs)
      → (chart : List ℕ) → (layer_chart_entry (head_opened h) (night f h g cs).odds chart).answer ≡ given tt → NoThicker (head_opened h) (night f h g cs).odds lone chart
  the_chart_does_not_thicken bs lone v u cs a e = no_thicker f h g o cs a u lone (votes_same f h g bs (handed f h.extents cs) lone e v)

-- Such a map there is, whatever was handed over.
pub one_lone_vote_each : (f : Format) (h : Head) (g : Grid) (bs : List Handed) → (odds : List Float) × LoneVotes f h g bs odds
one_lone_vote_each = lone_votes

-- The night begins with `begin_scan`, which answers the head that the calls are made with, and leaves the stamps that
-- they find.
pub the_sweep_opens : (h : Head) (g : Grid) → Opened h g → begin_scan_entry h g.stamps ≡ record { answer = given (head_opened h); lent = (grid_opened h g).stamps }
the_sweep_opens = begins
