-- How many marks can still change a grid in one frame: two for a cell that does not bear the frame, one for a cell
-- marked free in it, none for a cell marked occupied. Each mark that changes a cell uses one up, so counts stay below
-- twice the number of cells. Assumes nothing.
use Rattle.std.specs.Prelude.{ℕ, zero, suc, ◌+◌, ◌*◌, ◌/◌, ◌≤◌, ◌<◌, Bool, true, false, cond, List, [], ◌∷◌, ◌≡◌, refl, eqb, length, get_or, set}
use Rattle.std.proofs.Common.{arith, eqb-true, eq-eqb, ne_eqb}
use Rattle.std.specs.Float.{Format}
use Rattle.std.proofs.lemmas.Bool.{eqb-false}
use Rattle.rules.specs.MarksAndFrames.{Steps, Cell, Marked, unmarked, freed, occupy, occupied_step, stamp_of, mark_free, mark_occupied, mark_cell}

unfoldable pub left_of : ℕ → ℕ → ℕ
left_of k stamp = cond (eqb (stamp / 2) k) (cond (eqb stamp (k * 2)) 1 0) 2

unfoldable pub room : ℕ → List ℕ → ℕ
room k [] = 0
room k (s ∷ ss) = left_of k s + room k ss

left-most : (k s : ℕ) → left_of k s ≤ 2
unfolding left_of
left-most k s = go (eqb (s / 2) k) (eqb s (k * 2))
  where
    go : (a b : Bool) → cond a (cond b 1 0) 2 ≤ 2
    go true true = omega arith
    go true false = omega arith
    go false b = omega arith

pub room_most : (k : ℕ) (ss : List ℕ) → room k ss ≤ 2 * length ss
unfolding room
room_most k [] = omega arith
room_most k (s ∷ ss) = let h = room_most k ss in let g = left-most k s in omega arith

pub room-set : (k : ℕ) (ss : List ℕ) (i t : ℕ) → i < length ss → room k (set ss i t) + left_of k (get_or ss i 0) ≡ room k ss + left_of k t
unfolding room
room-set k [] i t h = absurd (omega arith)
room-set k (s ∷ ss) zero t h = omega arith
room-set k (s ∷ ss) (suc i) t h = let g = room-set k ss i t (omega arith) in omega arith

left_other : (k s : ℕ) → (s / 2 ≡ k → ⊥) → left_of k s ≡ 2
unfolding left_of
left_other k s h = simp (ne_eqb _ _ h)

left_free : (k : ℕ) → left_of k (k * 2 + 0) ≡ 1
unfolding left_of
left_free k = simp (eq-eqb ((k * 2 + 0) / 2) k (omega arith), eq-eqb (k * 2 + 0) (k * 2) (omega arith))

left_occupied : (k : ℕ) → left_of k (k * 2 + 1) ≡ 0
unfolding left_of
left_occupied k = simp (eq-eqb ((k * 2 + 1) / 2) k (omega arith), ne_eqb (k * 2 + 1) (k * 2) (λ e. omega arith))

-- a stamp that is no occupied one of this frame leaves room
left_not_occupied : (k s : ℕ) → (s ≡ k * 2 + 1 → ⊥) → 1 ≤ left_of k s
unfolding left_of
left_not_occupied k s h = go (eqb (s / 2) k) (eqb s (k * 2)) refl refl
  where
    go : (a b : Bool) → eqb (s / 2) k ≡ a → eqb s (k * 2) ≡ b → 1 ≤ cond a (cond b 1 0) 2
    go true true p q = omega arith
    go true false p q = absurd (h (let e = eqb-true (s / 2) k p in let n = eqb-false s (k * 2) q in omega arith))
    go false b p q = omega arith

-- what a mark has used up, and what it leaves
abbrev pub Lowers : ℕ → Marked → ℕ → Type 0
Lowers k r before = cond r.changed 1 0 + left_of k r.cell.stamp ≤ left_of k before

-- a mark that changes a cell uses up one of its marks
pub mark_lowers : (f : Format) (s : Steps) (k : ℕ) (occupied : Bool) (c : Cell) → Lowers k (mark_cell f s k occupied c) c.stamp
unfolding mark_cell mark_free mark_occupied stamp_of
mark_lowers f s k false c = go (eqb (c.stamp / 2) k) refl
  where
    go : (b : Bool) → eqb (c.stamp / 2) k ≡ b
        → Lowers k (cond b (unmarked c) (record { cell = record { odds = freed f s c.odds; stamp = k * 2 + 0 }; changed = true })) c.stamp
    go true p = omega arith
    go false p = let a = left_free k in let b = left_other k c.stamp (eqb-false (c.stamp / 2) k p) in omega arith
mark_lowers f s k true c = go (eqb c.stamp (k * 2 + 1)) refl
  where
    go : (b : Bool) → eqb c.stamp (k * 2 + 1) ≡ b
        → Lowers k
        (cond b (unmarked c) (record { cell = record { odds = occupy f s c.odds (occupied_step f s k c); stamp = k * 2 + 1 }; changed = true })) c.stamp
    go true p = omega arith
    go false p = let a = left_occupied k in let b = left_not_occupied k c.stamp (eqb-false c.stamp (k * 2 + 1) p) in omega arith
