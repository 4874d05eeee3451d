-- A list of beams of which none is refused makes the marks of each in turn, and these do not depend on what the grid
-- holds. So the same beams in another order, or repeated, make the same marks. Assumes nothing.
use Rattle.std.specs.Prelude.{◌≡◌, refl, ◌⊎◌, Bool, true, false, cond, ℕ, suc, ◌+◌, T, eqb}
use Rattle.std.proofs.Math.Path.{sym, ap}
use Rattle.std.proofs.Common.{◌∙◌, subst, inl, inr, eq-eqb, eqb→eq}
use mathlib.Core.List.Memᴰ
use mathlib.Core.List.{List, [], ◌∷◌, ◌++◌, Memᴰ}
use Rattle.std.specs.Float.{Format}
use Rattle.std.specs.Float.Ieee.Bits.{is_true}
use Rattle.rules.specs.RefusalNumbers.{Answer, given, refused}
use Rattle.rules.specs.TheGridAndItsBounds.{Model, Grid}
use Rattle.rules.specs.MarksAndFrames.{Mark, marked, changes}
use Rattle.rules.specs.OneBeam.{Beam, Integrated, beam_marks, integrated_marks, integrated_beam, integrated_from, integrated, or_stop}
use Rattle.laws.specs.Floats.Tests.{or_cases, or_r}
use Rattle.beam.proofs.MarkLists.{marked_append}
use Rattle.theorems.specs.PromiseThree.Orders.{any_cloud, any_mark, kinds_on}
use Rattle.theorems.specs.PromiseThree.{Makes, Hit, Touched}

-- the marks of an answer, and of a list of beams
abbrev pub marks_given : Answer (List Mark) → List Mark
marks_given (given xs) = xs
marks_given (refused r) = []

abbrev pub all_marks : {A : Type 0} → (A → Answer (List Mark)) → List A → List Mark
all_marks marks_of [] = []
all_marks marks_of (b ∷ bs) = marks_given (marks_of b) ++ all_marks marks_of bs

-- none of the beams is refused
abbrev pub Taken : {A : Type 0} → (A → Answer (List Mark)) → List A → Type 0
Taken {A} marks_of bs = (b : A) → Memᴰ b bs → (xs : List Mark) × (marks_of b ≡ given xs)

-- ---- the grid after a list of beams is the grid after their marks
module _ (f : Format) (es : List ℕ) (m : Model) (k : ℕ) where
  one_more : (place count : ℕ) (b : Beam) (bs : List Beam) (g : Grid) (xs : List Mark) → beam_marks f es b ≡ given xs
      → integrated_from f es m k place count (b ∷ bs) g ≡ integrated_from f es m k (suc place) (count + changes f m k xs g) bs (marked f m k xs g)
  unfolding integrated_from integrated_beam
  one_more place count b bs g xs e =
      ap (λ (a : Answer (List Mark)). let r : Integrated = integrated_marks f m k g a in
      or_stop place count r.grid r.answer (λ n. integrated_from f es m k (suc place) n bs r.grid)) e

  grid-from : (place count : ℕ) (bs : List Beam) (g : Grid) → Taken (beam_marks f es) bs
      → ((n : ℕ) × ((integrated_from f es m k place count bs g).answer ≡ given n)) × ((integrated_from f es m k place count bs g).grid ≡ marked f m k (all_marks (beam_marks f es) bs) g)
  unfolding integrated_from marked
  grid-from place count [] g t = ((count, refl), refl)
  grid-from place count (b ∷ bs) g t =
      let a = t b (Memᴰ.head refl) in
      let xs = a.0 in
      let e = one_more place count b bs g xs a.1 in
      let r = grid-from (suc place) (count + changes f m k xs g) bs (marked f m k xs g) (λ c d. t c (Memᴰ.tail d)) in (
        (r.0.0, ap (λ (i : Integrated). i.answer) e ∙ r.0.1),
        ap (λ (i : Integrated). i.grid) e ∙ r.1 ∙ sym (marked_append f m k xs (all_marks (beam_marks f es) bs) g)
            ∙ ap (λ (c : Answer (List Mark)). marked f m k (marks_given c ++ all_marks (beam_marks f es) bs) g) (sym a.1),
      )

  pub given_a_count : (bs : List Beam) (g : Grid) → Taken (beam_marks f es) bs → (n : ℕ) × ((integrated f es m k bs g).answer ≡ given n)
  unfolding integrated
  given_a_count bs g t = (grid-from 0 0 bs g t).0

  pub grid_is : (bs : List Beam) (g : Grid) → Taken (beam_marks f es) bs → (integrated f es m k bs g).grid ≡ marked f m k (all_marks (beam_marks f es) bs) g
  unfolding integrated
  grid_is bs g t = (grid-from 0 0 bs g t).1

-- ---- a mark of the list is a mark of a beam
module _ {A : Type 0} (marks_of : A → Answer (List Mark)) where
  makes_mem : (bs : List A) (x : Mark) → Makes marks_of bs x → Memᴰ x (all_marks marks_of bs)
  makes_mem bs x w = find bs w.among
    where
      find : (bs : List A) → Memᴰ w.giver bs → Memᴰ x (all_marks marks_of bs)
      find [] d = absurd (Memᴰ.not-nil d)
      find (c ∷ bs) d = go (Memᴰ.cases_cons d) (find bs)
        where
          mine : Memᴰ x (marks_given (marks_of w.giver))
          mine = subst (λ (a : Answer (List Mark)). Memᴰ x (marks_given a)) (sym w.its_marks) w.one_of_them

          go : (w.giver ≡ c) ⊎ Memᴰ w.giver bs → (Memᴰ w.giver bs → Memᴰ x (all_marks marks_of bs)) → Memᴰ x (all_marks marks_of (c ∷ bs))
          go (inl p) ih = Memᴰ.append_left (all_marks marks_of bs) (subst (λ (z : A). Memᴰ x (marks_given (marks_of z))) p mine)
          go (inr p) ih = Memᴰ.append_right (marks_given (marks_of c)) (ih p)

  mem_makes : (bs : List A) (x : Mark) → Memᴰ x (all_marks marks_of bs) → Makes marks_of bs x
  mem_makes [] x d = absurd (Memᴰ.not-nil d)
  mem_makes (b ∷ bs) x d = go (marks_of b) refl (Memᴰ.append_cases (marks_given (marks_of b)) d) (mem_makes bs x)
    where
      later : Makes marks_of bs x → Makes marks_of (b ∷ bs) x
      later w = record { giver = w.giver; among = Memᴰ.tail w.among; marks = w.marks; its_marks = w.its_marks; one_of_them = w.one_of_them }

      here : (a : Answer (List Mark)) → marks_of b ≡ a → Memᴰ x (marks_given a) → Makes marks_of (b ∷ bs) x
      here (given xs) e d = record { giver = b; among = Memᴰ.head refl; marks = xs; its_marks = e; one_of_them = d }
      here (refused r) e d = absurd (Memᴰ.not-nil d)

      go : (a : Answer (List Mark)) → marks_of b ≡ a → Memᴰ x (marks_given (marks_of b)) ⊎ Memᴰ x (all_marks marks_of bs)
          → (Memᴰ x (all_marks marks_of bs) → Makes marks_of bs x) → Makes marks_of (b ∷ bs) x
      go a e (inl d) ih = here (marks_of b) refl d
      go a e (inr d) ih = later (ih d)

  pub makes_same : (bs cs : List A) (x : Mark) → ((b : A) → Memᴰ b bs → Memᴰ b cs) → Makes marks_of bs x → Makes marks_of cs x
  makes_same bs cs x t w = record { giver = w.giver; among = t w.giver w.among; marks = w.marks; its_marks = w.its_marks; one_of_them = w.one_of_them }

-- ---- whether a cell has a mark of a kind, as a test and as a mark of the list
abbrev on : ℕ → Bool → Mark
on i b = record { place = i; occupied = b }

on_is : (i : ℕ) (b : Bool) (x : Mark) → x.place ≡ i → x.occupied ≡ b → on i b ≡ x
on_is i b x p q = λ u. record { place = sym p u; occupied = sym q u }

cloud_mem : (i : ℕ) (xs : List Mark) → T (any_cloud (kinds_on i xs)) → Memᴰ (on i true) xs
cloud_mem i [] t = absurd t
cloud_mem i (x ∷ xs) t = go (eqb x.place i) (eqb→eq x.place i) (cloud_mem i xs) t
  where
    go : (b : Bool) → (T b → x.place ≡ i) → (T (any_cloud (kinds_on i xs)) → Memᴰ (on i true) xs)
        → T (any_cloud (cond b (x.occupied ∷ kinds_on i xs) (kinds_on i xs))) → Memᴰ (on i true) (x ∷ xs)
    go false e ih t = Memᴰ.tail (ih t)
    go true e ih t = kind (or_cases x.occupied (any_cloud (kinds_on i xs)) t)
      where
        kind : T x.occupied ⊎ T (any_cloud (kinds_on i xs)) → Memᴰ (on i true) (x ∷ xs)
        kind (inl u) = Memᴰ.head (on_is i true x (e tt) (is_true x.occupied u))
        kind (inr u) = Memᴰ.tail (ih u)

mark_mem : (i : ℕ) (xs : List Mark) → T (any_mark (kinds_on i xs)) → (b : Bool) × Memᴰ (on i b) xs
mark_mem i [] t = absurd t
mark_mem i (x ∷ xs) t = go (eqb x.place i) (eqb→eq x.place i) (mark_mem i xs) t
  where
    go : (b : Bool) → (T b → x.place ≡ i) → (T (any_mark (kinds_on i xs)) → (b : Bool) × Memᴰ (on i b) xs)
        → T (any_mark (cond b (x.occupied ∷ kinds_on i xs) (kinds_on i xs))) → (b : Bool) × Memᴰ (on i b) (x ∷ xs)
    go false e ih t = let r = ih t in (r.0, Memᴰ.tail r.1)
    go true e ih t = (x.occupied, Memᴰ.head (on_is i x.occupied x (e tt) refl))

-- a test that a mark of the kind passes, and that passes later marks on
mem_test : (i : ℕ) (b : Bool) (test : List Bool → Bool) → ((bs : List Bool) → T (test (b ∷ bs))) → ((c : Bool) (bs : List Bool) → T (test bs) → T (test (c ∷ bs)))
    → (xs : List Mark) → Memᴰ (on i b) xs → T (test (kinds_on i xs))
mem_test i b test now later [] d = absurd (Memᴰ.not-nil d)
mem_test i b test now later (x ∷ xs) d = go (Memᴰ.cases_cons d) (mem_test i b test now later xs)
  where
    skip : (t : Bool) → T (test (kinds_on i xs)) → T (test (cond t (x.occupied ∷ kinds_on i xs) (kinds_on i xs)))
    skip true t = later x.occupied (kinds_on i xs) t
    skip false t = t

    go : (on i b ≡ x) ⊎ Memᴰ (on i b) xs → (Memᴰ (on i b) xs → T (test (kinds_on i xs))) → T (test (cond (eqb x.place i) (x.occupied ∷ kinds_on i xs) (kinds_on i xs)))
    go (inl e) ih =
        subst (λ (z : Mark). T (test (cond (eqb z.place i) (z.occupied ∷ kinds_on i xs) (kinds_on i xs)))) e
        (subst (λ (t : Bool). T (test (cond t (b ∷ kinds_on i xs) (kinds_on i xs)))) (sym (eq-eqb i i refl)) (now (kinds_on i xs)))
    go (inr e) ih = skip (eqb x.place i) (ih e)

mem_cloud : (i : ℕ) (xs : List Mark) → Memᴰ (on i true) xs → T (any_cloud (kinds_on i xs))
mem_cloud i xs d = mem_test i true any_cloud (λ bs. tt) (λ c bs t. or_r c (any_cloud bs) t) xs d

mem_mark : (i : ℕ) (b : Bool) (xs : List Mark) → Memᴰ (on i b) xs → T (any_mark (kinds_on i xs))
mem_mark i b xs d = mem_test i b any_mark (λ bs. tt) (λ c bs t. tt) xs d

-- ---- hit and touched, as tests
module _ {A : Type 0} (marks_of : A → Answer (List Mark)) (bs : List A) (i : ℕ) where
  abbrev kinds : List Bool
  kinds = kinds_on i (all_marks marks_of bs)

  pub hit_test : Hit marks_of bs i → T (any_cloud kinds)
  hit_test w = mem_cloud i (all_marks marks_of bs) (makes_mem marks_of bs (record { place = i; occupied = true }) w)

  pub test_hit : T (any_cloud kinds) → Hit marks_of bs i
  test_hit t = mem_makes marks_of bs (record { place = i; occupied = true }) (cloud_mem i (all_marks marks_of bs) t)

  pub touched_test : Touched marks_of bs i → T (any_mark kinds)
  touched_test w = mem_mark i w.0 (all_marks marks_of bs) (makes_mem marks_of bs (record { place = i; occupied = w.0 }) w.1)

  pub test_touched : T (any_mark kinds) → Touched marks_of bs i
  test_touched t =
      let r = mark_mem i (all_marks marks_of bs) t in
      (r.0, mem_makes marks_of bs (record { place = i; occupied = r.0 }) r.1)
