-- Marks applied to the lent lists: none, one, and one list after another. Assumes nothing.
use Prim.Native.Nat.{ℕ, ◌+◌, ◌<◌}
use mathlib.Core.Bool.{Bool, cond}
use mathlib.Core.List.{List, [], ◌++◌}
use mathlib.Core.Path.{◌≡◌, refl, sym, ap, ap₂, ◌∙◌}
use native.Mathlib.Omega.{arith}
use lib.Ieee.{Float, Format}
use lib.ListN.{length, get_or, set}
use Rattle.rules.specs.RefusalNumbers.{given}
use Rattle.rules.specs.RefusalNumbers.Entries.{Outcome}
use Rattle.rules.specs.TheGridAndItsBounds.{Model, Grid}
use Rattle.rules.specs.MarksAndFrames.{Mark, Steps, mark_at, with_cell, marked, changes, steps_at}
use Rattle.beam.proofs.MarkLists.{marked_append, changes_append}
use Rattle.laws.specs.Room.{room, room-set, mark_lowers}
use Rattle.marks.specs.Marking.{grid_of, mark_on, MarkedAt}
use Rattle.beam.specs.Applying.{Applied, one}

module _ (f : Format) (m : Model) (k : ℕ) where
  pub none_applied : (odds : List Float) (stamps : List ℕ) → Applied f [] m k odds stamps 0 odds stamps
  unfolding marked changes
  none_applied odds stamps = record { count = refl; grid = refl; used = omega arith }

  pub one_applied : (occupied : Bool) (at : ℕ) (odds odds' : List Float) (stamps stamps' : List ℕ) (changed : Bool) (n : ℕ)
      → at < length stamps → MarkedAt f occupied (steps_at m at) k at odds stamps changed odds' stamps' → n ≡ cond changed 1 0
      → Applied f (one at occupied) m k odds stamps n odds' stamps'
  unfolding marked changes mark_at
  one_applied occupied at odds odds' stamps stamps' changed n h d e =
      let r = mark_on f occupied (steps_at m at) k at odds stamps in
      let c : n ≡ cond r.changed 1 0 = e ∙ ap (λ (b : Bool). cond b 1 0) d.answer in
      let low = mark_lowers f (steps_at m at) k occupied (record { odds = get_or odds at lib.Ieee.nan; stamp = get_or stamps at 0 }) in
      let moved = room-set k stamps at r.cell.stamp h in
      let after : room k stamps' ≡ room k (set stamps at r.cell.stamp) = ap (room k) d.stamps_now in
      record {
        count = omega arith;
        grid = ap₂ grid_of d.odds_now d.stamps_now;
        used = omega arith;
      }

  -- a mark knows of a model its cell's steps and nothing else
  pub by_the_steps : (occupied : Bool) (at : ℕ) (odds odds' : List Float) (stamps stamps' : List ℕ) (n : ℕ) (other : Model)
      → steps_at m at ≡ steps_at other at → Applied f (one at occupied) m k odds stamps n odds' stamps'
      → Applied f (one at occupied) other k odds stamps n odds' stamps'
  unfolding marked changes mark_at
  by_the_steps occupied at odds odds' stamps stamps' n other same a =
      record {
        count = a.count ∙ ap (λ (s : Steps). cond (mark_on f occupied s k at odds stamps).changed 1 0 + 0) same;
        grid = a.grid ∙ ap (λ (s : Steps). with_cell (grid_of odds stamps) at (mark_on f occupied s k at odds stamps).cell) same;
        used = a.used;
      }

  pub both_applied : (xs ys : List Mark) (odds odds' odds'' : List Float) (stamps stamps' stamps'' : List ℕ) (a b : ℕ)
      → Applied f xs m k odds stamps a odds' stamps' → Applied f ys m k odds' stamps' b odds'' stamps''
      → Applied f (xs ++ ys) m k odds stamps (a + b) odds'' stamps''
  both_applied xs ys odds odds' odds'' stamps stamps' stamps'' a b p q =
      let n = changes_append f m k xs ys (grid_of odds stamps) in
      let again : changes f m k ys (grid_of odds' stamps') ≡ changes f m k ys (marked f m k xs (grid_of odds stamps)) =
      ap (changes f m k ys) p.grid in
      let c = p.count in
      let d = q.count in
      let u = p.used in
      let v = q.used in
      record {
        count = omega arith;
        grid = q.grid ∙ ap (marked f m k ys) p.grid ∙ sym (marked_append f m k xs ys (grid_of odds stamps));
        used = omega arith;
      }

-- one mark, as the entries answer it
pub mark_answered : (f : Format) (m : Model) (k at : ℕ) (occupied : Bool) (odds odds' : List Float) (stamps stamps' : List ℕ) (changed : Bool)
    → MarkedAt f occupied (steps_at m at) k at odds stamps changed odds' stamps'
    → ◌≡◌ {A = Outcome Bool Grid} (record { answer = given changed; lent = grid_of odds' stamps' })
    (record {
      answer = given (mark_at f m k (record { place = at; occupied = occupied }) (grid_of odds stamps)).changed;
      lent = with_cell (grid_of odds stamps) at (mark_at f m k (record { place = at; occupied = occupied }) (grid_of odds stamps)).cell;
    })
unfolding mark_at
mark_answered f m k at occupied odds odds' stamps stamps' changed d =
    ap₂ (λ (b : Bool) (g : Grid). record { answer = given b; lent = g }) d.answer (ap₂ grid_of d.odds_now d.stamps_now)
