-- A list of points, point by point: what holds between two of them, over any number of axes, in every format. Assumes
-- nothing.
use Prim.Native.Nat.{ℕ, suc, ◌+◌, ◌-◌, ◌*◌, ◌≤◌, ◌<◌}
use mathlib.Core.List.{List, [], ◌∷◌, ◌++◌, append_assoc, append-nil}
use mathlib.Core.Option.{Option, some, none}
use mathlib.Core.Path.{◌≡◌, refl, sym, ap, ◌∙◌}
use native.Mathlib.Nat.{sub-zero, mul-zero, mul-suc, mul-le-mul_left}
use native.Mathlib.Numerals.{add-one}
use native.Mathlib.Omega.{arith}
use lib.Ieee.{Float, Format}
use lib.ListN.{length, take, drop, set, length-drop, length-append, length-set, take-append-drop}
use lib.Seq.{take-add, drop-drop, take_all, take_at, drop_at, take-suc-set, sets-eq, length-sets, length-take-le}
use Rattle.rules.specs.Coordinates.{Sample, sample}
use Rattle.rules.specs.ManySamples.{slot_of, found_of, slots_all, found_all, sampled_all}
use Rattle.sample_list.proofs.Counts.{slot_size}
use Rattle.sample_list.specs.Slots.{slots_of, stored}

-- ---- one slot
-- the list is as it was before the slot and after it, and the slot holds what its point leaves there
module _ (at size : ℕ) (l : List Float) (fits : at + size ≤ length l) where
  pub before_next : (r : Option Sample) → length (slot_of r (take size (drop at l))) ≡ size → take (at + size) (stored at r l) ≡ take at l ++ slot_of r (take size (drop at l))
  before_next none e = take-add at size l
  before_next (some s) e =
      let vs : List Float = s.value ∷ s.gradient in
      let size_is : length vs ≡ size = e in
      let front : length (take at l ++ vs) ≡ at + size = length-append (take at l) vs ∙ omega (arith, length-take-le at l (omega arith)) in
      ap (take (at + size)) (sets-eq vs l at (omega arith)) ∙ take_at (take at l ++ vs) _ (at + size) front

  pub from_next : (r : Option Sample) → length (slot_of r (take size (drop at l))) ≡ size → drop (at + size) (stored at r l) ≡ drop (at + size) l
  from_next none e = refl
  from_next (some s) e =
      let vs : List Float = s.value ∷ s.gradient in
      let size_is : length vs ≡ size = e in
      let front : length (take at l ++ vs) ≡ at + size = length-append (take at l) vs ∙ omega (arith, length-take-le at l (omega arith)) in
      ap (drop (at + size)) (sets-eq vs l at (omega arith)) ∙ drop_at (take at l ++ vs) _ (at + size) front ∙ ap (λ (k : ℕ). drop (at + k) l) size_is

pub stored-length : (at : ℕ) (r : Option Sample) (l : List Float) → length (stored at r l) ≡ length l
stored-length at (some s) l = length-sets l at (s.value ∷ s.gradient)
stored-length at none l = refl

-- ---- the points in order
module _ (f : Format) (es : List ℕ) (odds points samples₀ : List Float) (found₀ : List ℕ) where
  abbrev n : ℕ
  n = length es

  -- what the points from a place on leave in these slots, and their marks
  abbrev slots_from : ℕ → List Float → List Float
  slots_from place samples = slots_all f es odds (length found₀ - place) (drop (n * place) points) (drop (suc n * place) samples)

  abbrev marks_from : ℕ → List ℕ
  marks_from place = found_all f es odds (length found₀ - place) (drop (n * place) points)

  -- the points before a place are done: the rest leaves of these lists what the whole leaves of the first ones
  pub record Underway (place : ℕ) (samples : List Float) (found : List ℕ) : Type 0 where
    pub numbers_kept : length samples ≡ length samples₀
    pub marks_kept : length found ≡ length found₀
    pub slots : slots_all f es odds (length found₀) points samples₀ ≡ take (suc n * place) samples ++ slots_from place samples
    pub marks : found_all f es odds (length found₀) points ≡ take place found ++ marks_from place

  pub none_yet : Underway 0 samples₀ found₀
  none_yet = record { numbers_kept = refl; marks_kept = refl; slots = rw (mul-zero, mul-zero, sub-zero) refl; marks = rw (mul-zero, sub-zero) refl }

  module _ (place : ℕ) (samples : List Float) (found : List ℕ) (u : Underway place samples found) where
    module _ (more : place < length found₀) (ps : length points ≡ n * length found₀) (ss : length samples₀ ≡ suc n * length found₀) where
      abbrev at : ℕ
      at = suc n * place

      abbrev answer : Option Sample
      answer = sample f es odds (take n (drop (n * place) points))

      next : at + suc n ≡ suc n * (place + 1)
      next = rw add-one (sym (mul-suc (suc n) place))

      next_point : n * place + n ≡ n * (place + 1)
      next_point = rw add-one (sym (mul-suc n place))

      pub fits : at + suc n ≤ length samples
      fits = let m : suc n * (place + 1) ≤ suc n * length found₀ = mul-le-mul_left (suc n) (omega arith) in omega (arith, u.numbers_kept, next)

      pub point-fits : n * place + n ≤ length points
      point-fits = let m : n * (place + 1) ≤ n * length found₀ = mul-le-mul_left n (omega arith) in omega (arith, next_point)

      size : length (slot_of answer (take (suc n) (drop at samples))) ≡ suc n
      size =
          slot_size f es odds (take n (drop (n * place) points)) (take (suc n) (drop at samples))
          (length-take-le n (drop (n * place) points) (simp length-drop (omega (arith, point-fits))))
          (length-take-le (suc n) (drop at samples) (simp length-drop (omega (arith, fits))))

      left : length found₀ - place ≡ suc (length found₀ - (place + 1))
      left = omega arith

      abbrev samples' : List Float
      samples' = stored at answer samples

      slots_next : slots_from place samples ≡ slot_of answer (take (suc n) (drop at samples)) ++ slots_from (place + 1) samples'
      unfolding slots_all
      slots_next =
          ap (λ (k : ℕ). slots_all f es odds k (drop (n * place) points) (drop at samples)) left
          ∙ ap (λ (p : List Float). slot_of answer (take (suc n) (drop at samples)) ++ slots_all f es odds (length found₀ - (place + 1)) p (drop (suc n) (drop at samples)))
          (drop-drop n (n * place) points ∙ ap (λ (k : ℕ). drop k points) next_point)
          ∙ ap (λ (s : List Float). slot_of answer (take (suc n) (drop at samples)) ++ slots_all f es odds (length found₀ - (place + 1)) (drop (n * (place + 1)) points) s)
          (drop-drop (suc n) at samples ∙ sym (from_next at (suc n) samples fits answer size) ∙ ap (λ (k : ℕ). drop k samples') next)

      marks_next : marks_from place ≡ found_of answer ∷ marks_from (place + 1)
      unfolding found_all
      marks_next =
          ap (λ (k : ℕ). found_all f es odds k (drop (n * place) points)) left
          ∙ ap (λ (p : List Float). found_of answer ∷ found_all f es odds (length found₀ - (place + 1)) p)
          (drop-drop n (n * place) points ∙ ap (λ (k : ℕ). drop k points) next_point)

      pub one_more : Underway (place + 1) samples' (set found place (found_of answer))
      one_more =
          record {
            numbers_kept = stored-length at answer samples ∙ u.numbers_kept;
            marks_kept = length-set found place (found_of answer) ∙ u.marks_kept;
            slots =
                u.slots ∙ ap (λ (s : List Float). take at samples ++ s) slots_next
                ∙ sym (append_assoc (take at samples) _ _)
                ∙ ap (λ (s : List Float). s ++ slots_from (place + 1) samples')
                (sym (before_next at (suc n) samples fits answer size) ∙ ap (λ (k : ℕ). take k samples') next);
            marks =
                u.marks ∙ ap (λ (s : List ℕ). take place found ++ s) marks_next
                ∙ sym (append_assoc (take place found) (found_of answer ∷ []) (marks_from (place + 1)))
                ∙ ap (λ (s : List ℕ). s ++ marks_from (place + 1))
                (sym (take-suc-set found place (found_of answer) (omega (arith, u.marks_kept)))
                ∙ ap (λ (k : ℕ). take k (set found place (found_of answer))) (sym (add-one place)));
          }

    pub all_done : place ≡ length found₀ → slots_of samples found ≡ sampled_all f es odds points (slots_of samples₀ found₀)
    unfolding sampled_all slots_all found_all
    all_done e =
        let none_left : length found₀ - place ≡ 0 = omega arith in
        let numbers : slots_all f es odds (length found₀) points samples₀ ≡ samples =
        u.slots ∙ ap (λ (k : ℕ). take (suc n * place) samples ++ slots_all f es odds k (drop (n * place) points) (drop (suc n * place) samples)) none_left
        ∙ take-append-drop (suc n * place) samples in
        let bytes : found_all f es odds (length found₀) points ≡ found =
        u.marks ∙ ap (λ (k : ℕ). take place found ++ found_all f es odds k (drop (n * place) points)) none_left
        ∙ append-nil (take place found) ∙ take_all place found (omega (arith, u.marks_kept)) in
        rw (numbers, bytes) refl
