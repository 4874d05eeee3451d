-- Calls one after another: where none is refused, they leave the marks of all that they hand over; and whether one is
-- refused does not turn on the calls before it, so the same calls in another order, or repeated, are accepted too.
-- Assumes nothing.
use Rattle.std.specs.Prelude.{ℕ, ◌≡◌}
use Rattle.std.proofs.Math.Path.{refl, sym, ap}
use Rattle.std.proofs.Common.{ap₂, ◌∙◌, subst}
use Rattle.std.proofs.Math.Logic.{inl, inr}
use mathlib.Core.List.Memᴰ
use mathlib.Core.List.{List, [], ◌∷◌, ◌++◌, append_assoc, Memᴰ}
use Rattle.std.proofs.Math.Option.{none}
use Rattle.std.specs.Float.{Format}
use Rattle.rules.specs.RefusalNumbers.{Answer}
use Rattle.rules.specs.RefusalNumbers.Entries.{head_refusal, uses_of, beams}
use Rattle.rules.specs.TheGridAndItsBounds.{Head, Grid}
use Rattle.rules.specs.MarksAndFrames.{Mark, marked}
use Rattle.beam.proofs.MarkLists.{marked_append, marked-odds, marked-stamps}
use Rattle.theorems.specs.PromiseThree.{Same}
use Rattle.theorems.specs.PromiseThree.Beams.{marks_given, Taken, all_marks}
use Rattle.theorems.specs.StationsLists.Words.{Call, outcome, left, Accepted, Handed, hand_marks, hands_over, handed}
use Rattle.theorems.specs.StationsLists.OneCall.{tried, Good, good_of, does}

-- ---- two lists
marks_joined : {A : Type 0} (marks_of : A → Answer (List Mark)) (bs cs : List A) → all_marks marks_of (bs ++ cs) ≡ all_marks marks_of bs ++ all_marks marks_of cs
marks_joined marks_of [] cs = refl
marks_joined marks_of (b ∷ bs) cs =
    let xs = marks_given (marks_of b) in
    ap (λ (ys : List Mark). xs ++ ys) (marks_joined marks_of bs cs) ∙ sym (append_assoc xs (all_marks marks_of bs) (all_marks marks_of cs))

-- ---- what calls leave
pub record Came (f : Format) (h : Head) (cs : List Call) (g : Grid) : Type 0 where
  pub taken : Taken (hand_marks f h.extents) (handed f h.extents cs)
  pub leaves : left f h cs g ≡ marked f h.model h.frame (all_marks (hand_marks f h.extents) (handed f h.extents cs)) g

module _ (f : Format) (h : Head) where
  pub came : (cs : List Call) (g : Grid) → Accepted f h cs g → Came f h cs g
  unfolding marked
  came [] g a = record { taken = λ b d. absurd (Memᴰ.not-nil d); leaves = refl }
  came (c ∷ cs) g a =
      let es = h.extents in
      let w = good_of f h g a.0.0 c a.0.1 in
      let d = does f h g w.0 c w.1 in
      let r = came cs (outcome f h c g).lent a.1 in
      let xs = all_marks (hand_marks f es) (hands_over f es c) in
      let ys = all_marks (hand_marks f es) (handed f es cs) in
      record {
        taken = λ b m. elim (Memᴰ.append_cases (hands_over f es c) m) [ inl q ↦ w.1.taken b q | inr q ↦ r.taken b q ];
        leaves =
            r.leaves ∙ ap (λ (x : Grid). marked f h.model h.frame ys x) d.leaves ∙ sym (marked_append f h.model h.frame xs ys g)
            ∙ ap (λ (zs : List Mark). marked f h.model h.frame zs g) (sym (marks_joined (hand_marks f es) (hands_over f es c) (handed f es cs)));
      }

  -- ---- the same calls
  all-good : (cs : List Call) (g : Grid) → Accepted f h cs g → (c : Call) → Memᴰ c cs → (tried h g ≡ none) × Good f h.extents c
  all-good [] g a c m = absurd (Memᴰ.not-nil m)
  all-good (d ∷ cs) g a c m =
      let w = good_of f h g a.0.0 d a.0.1 in
      elim (Memᴰ.cases_cons m) [
        | inl q ↦ (w.0, subst (Good f h.extents) (sym q) w.1)
        | inr q ↦ (w.0, (all-good cs (outcome f h d g).lent a.1 c q).1)
      ]

  marks_tried : (xs : List Mark) (g : Grid) → tried h (marked f h.model h.frame xs g) ≡ tried h g
  marks_tried xs g = ap₂ (λ (i j : ℕ). head_refusal (uses_of beams) h i j) (marked-odds f h.model h.frame xs g) (marked-stamps f h.model h.frame xs g)

  all_accepted : (ds : List Call) (g : Grid) → ((c : Call) → Memᴰ c ds → (tried h g ≡ none) × Good f h.extents c) → Accepted f h ds g
  all_accepted [] g w = tt
  all_accepted (d ∷ ds) g w =
      let v = w d (Memᴰ.head refl) in
      let r = does f h g v.0 d v.1 in
      let same : tried h (outcome f h d g).lent ≡ tried h g =
      ap (tried h) r.leaves ∙ marks_tried (all_marks (hand_marks f h.extents) (hands_over f h.extents d)) g in
      (r.count, all_accepted ds (outcome f h d g).lent (λ c m. (same ∙ v.0, (w c (Memᴰ.tail m)).1)))

  pub accepted_too : (cs ds : List Call) (g : Grid) → ((c : Call) → Memᴰ c ds → Memᴰ c cs) → Accepted f h cs g → Accepted f h ds g
  accepted_too cs ds g back a = all_accepted ds g (λ c m. all-good cs g a c (back c m))

-- ---- the same calls hand over the same
module _ (f : Format) (es : List ℕ) where
  find : (cs : List Call) (b : Handed) → Memᴰ b (handed f es cs) → (c : Call) × Memᴰ c cs × Memᴰ b (hands_over f es c)
  find [] b m = absurd (Memᴰ.not-nil m)
  find (c ∷ cs) b m =
      elim (Memᴰ.append_cases (hands_over f es c) m) [
        | inl q ↦ (c, Memᴰ.head refl, q)
        | inr q ↦ (let r = find cs b q in (r.0, Memᴰ.tail r.1, r.2))
      ]

  among : (cs : List Call) (c : Call) (b : Handed) → Memᴰ c cs → Memᴰ b (hands_over f es c) → Memᴰ b (handed f es cs)
  among [] c b m q = absurd (Memᴰ.not-nil m)
  among (d ∷ cs) c b m q =
      elim (Memᴰ.cases_cons m) [
        | inl e ↦ Memᴰ.append_left (handed f es cs) (subst (λ (x : Call). Memᴰ b (hands_over f es x)) e q)
        | inr e ↦ Memᴰ.append_right (hands_over f es d) (among cs c b e q)
      ]

  handed_too : (cs ds : List Call) → ((c : Call) → Memᴰ c cs → Memᴰ c ds) → (b : Handed) → Memᴰ b (handed f es cs) → Memᴰ b (handed f es ds)
  handed_too cs ds there b m = let r = find cs b m in among ds r.0 b (there r.0 r.1) r.2

  pub same-handed : (cs ds : List Call) → ((c : Call) → Memᴰ c cs → Memᴰ c ds) → ((c : Call) → Memᴰ c ds → Memᴰ c cs)
      → Same (handed f es cs) (handed f es ds)
  same-handed cs ds there back = record { there = handed_too cs ds there; back = handed_too ds cs back }
