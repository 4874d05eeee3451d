-- A walk along a line: what holds between its steps, over lines of any number of axes, in every format. Whatever the
-- rest of the line does to the lists as they stand, the whole line does to the lists as they were. Assumes nothing.
use Prim.Native.Nat.{ℕ, ◌+◌, ◌-◌, ◌<◌, ◌≤◌}
use Rattle.std.proofs.Common.{Fits, w64}
use mathlib.Core.Bool.{Bool, false, cond}
use mathlib.Core.List.{List, []}
use mathlib.Core.Path.{◌≡◌, refl, sym, ap, ◌∙◌}
use native.Mathlib.Nat.{add_assoc, add-zero}
use native.Mathlib.Omega.{arith}
use lib.Dec.{eqb}
use lib.Ieee.{Float, Format}
use lib.IntN.{ℤ}
use lib.ListN.{length}
use borrow.Author.Tests.{ne_eqb}
use Rattle.rules.specs.TheGridAndItsBounds.{Head, Grid}
use Rattle.rules.specs.Coordinates.{flat_index, truncated_point}
use Rattle.rules.specs.RefusalNumbers.{given}
use Rattle.rules.specs.TheLine.{Line, yields, none, step_of, line_cells, currents, ends}
use Rattle.rules.specs.MarksAndFrames.{Mark}
use Rattle.rules.specs.OneBeam.{mark_of, marks_along}
use Rattle.laws.specs.Checks.{Ready}
use Rattle.laws.specs.Following.{drawn_after}
use Rattle.laws.specs.LineSteps.{line_after, line_ended, goes_on, ends_here, marks_step, done, no_cells}
use Rattle.laws.specs.Room.{room, room_most}
use Rattle.beam.proofs.MarkLists.{marked-odds, marked-stamps}
use Rattle.marks.specs.Marking.{grid_of}
use Rattle.beam.specs.Applying.{Applied, one}
use Rattle.beam.specs.Walking.{Walked, Begun}
use Rattle.beam.proofs.Applying.{none_applied, both_applied}

-- no more marks change a cell than the stamps have room for, so their count fits
pub still_counts : (h : Head) (odds : ℕ) (stamps₀ stamps stamps' : List ℕ) (count n : ℕ) → Ready h odds (length stamps₀) → count + room h.frame stamps ≤ room h.frame stamps₀
    → n + room h.frame stamps' ≤ room h.frame stamps → Fits w64 (count + n)
still_counts h odds stamps₀ stamps stamps' count n r before step =
    let most = room_most h.frame stamps₀ in
    let counted = r.stamps_count in
    let few = r.extents.1 in
    omega arith

-- the head still fits the lists after marks
pub still_ready : (f : Format) (h : Head) (xs : List Mark) (odds odds' : List Float) (stamps stamps' : List ℕ) (n : ℕ) → Ready h (length odds) (length stamps)
    → Applied f xs h.model h.frame odds stamps n odds' stamps' → Ready h (length odds') (length stamps')
still_ready f h xs odds odds' stamps stamps' n r a =
    record {
      extents = r.extents;
      cuts = r.cuts;
      odds_count = ap (λ (g : Grid). length g.odds) a.grid ∙ marked-odds f h.model h.frame xs (grid_of odds stamps) ∙ r.odds_count;
      stamps_count = ap (λ (g : Grid). length g.stamps) a.grid ∙ marked-stamps f h.model h.frame xs (grid_of odds stamps) ∙ r.stamps_count;
      frame = r.frame;
    }

module _ (f : Format) (h : Head) (last : Bool) (line : Line) (odds₀ : List Float) (stamps₀ : List ℕ) where
  module _ (rest : Line) (odds : List Float) (stamps : List ℕ) (count remaining : ℕ) (w : Walked f h last line odds₀ stamps₀ rest odds stamps count remaining) where
    pub one_step : (after : Line) (c : List ℤ) (occupied : Bool) (n : ℕ) (odds' : List Float) (stamps' : List ℕ) → step_of f rest ≡ yields c after
        → occupied ≡ cond (eqb after.remaining 0) last false
        → Applied f (mark_of occupied (flat_index h.extents c)) h.model h.frame odds stamps n odds' stamps'
        → Walked f h last line odds₀ stamps₀ after odds' stamps' (count + n) after.remaining
    one_step after c occupied n odds' stamps' e o a =
        let u = w.used in
        let v = a.used in
        record {
          left = refl;
          ready = still_ready f h _ odds odds' stamps stamps' n w.ready a;
          used = omega arith;
          whole = λ k odds'' stamps'' b.
              rw add_assoc
              (w.whole (n + k) odds'' stamps''
              (rw (marks_step f h.extents last rest after c e, ← o)
              (both_applied f h.model h.frame _ _ odds odds' odds'' stamps stamps' stamps'' n k a b)));
        }

    ended : line_cells f rest ≡ [] → Applied f (marks_along h.extents last (line_cells f line)) h.model h.frame odds₀ stamps₀ count odds stamps
    unfolding marks_along
    ended e = rw add-zero at (w.whole 0 odds stamps (rw e (none_applied f h.model h.frame odds stamps)))

    pub at_the_end : remaining ≡ 0 → Applied f (marks_along h.extents last (line_cells f line)) h.model h.frame odds₀ stamps₀ count odds stamps
    at_the_end z = ended (no_cells f rest (sym w.left ∙ z))

    pub stopped : step_of f rest ≡ none → Applied f (marks_along h.extents last (line_cells f line)) h.model h.frame odds₀ stamps₀ count odds stamps
    stopped e = ended (done f rest e)

-- a step whose cell is on the grid and not the last: a free mark at its place, whatever the last is to be marked as
module _ (f : Format) (h : Head) (line : Line) (odds₀ : List Float) (stamps₀ : List ℕ) (rest : Line) (odds : List Float) (stamps : List ℕ) (count : ℕ)
    (b : Begun f h line odds₀ stamps₀ rest odds stamps count) where
  pub goes_free : (at n : ℕ) (odds' : List Float) (stamps' : List ℕ) → 1 < rest.remaining → flat_index h.extents (truncated_point (currents rest.axes)) ≡ given at
      → Applied f (one at false) h.model h.frame odds stamps n odds' stamps'
      → Begun f h line odds₀ stamps₀ (line_after f rest) odds' stamps' (count + n)
  goes_free at n odds' stamps' more e a =
      record {
        drawn = drawn_after f rest b.drawn;
        walked = λ last.
            one_step f h last line odds₀ stamps₀ rest odds stamps count rest.remaining (b.walked last) (line_after f rest) _ false n odds' stamps'
            (goes_on f rest b.drawn.primary-below more)
            (rw (ne_eqb (rest.remaining - 1) 0 (λ z. omega arith)) refl)
            (rw e a);
      }

  -- the last cell ends the walk
  pub goes_last : (last : Bool) (n : ℕ) (odds' : List Float) (stamps' : List ℕ) → rest.remaining ≡ 1
      → Applied f (mark_of last (flat_index h.extents (truncated_point (ends rest.axes)))) h.model h.frame odds stamps n odds' stamps'
      → Applied f (marks_along h.extents last (line_cells f line)) h.model h.frame odds₀ stamps₀ (count + n) odds' stamps'
  goes_last last n odds' stamps' one_left a =
      at_the_end f h last line odds₀ stamps₀ (line_ended rest) odds' stamps' (count + n) 0
      (one_step f h last line odds₀ stamps₀ rest odds stamps count rest.remaining (b.walked last) (line_ended rest) _ last n odds' stamps'
      (ends_here f rest b.drawn.primary-below one_left) refl a)
      refl
