-- Promise 3, proved of the rules: in every format, on any number of axes, for every list of beams. Assumes nothing.
use Rattle.std.specs.Prelude.{◌≡◌, refl, ◌⊎◌, Bool, true, false, cond, ℕ, ◌<◌, leb, length, get_or, replicate, Float}
use Rattle.std.proofs.Common.{sym, ap, ap₂, ◌∙◌, subst, inl, inr, arith, ext_get_or}
use mathlib.Core.List.Memᴰ
use mathlib.Core.List.{List, ◌∷◌, Memᴰ}
use mathlib.Core.List.Permᴰ
use mathlib.Core.List.{Permᴰ}
use Rattle.std.proofs.Math.Dec.{eqb→eq}
use Rattle.std.proofs.lemmas.List.{length-replicate}
use Rattle.std.specs.Float.{nan, Format}
use Rattle.rules.specs.RefusalNumbers.{Answer}
use Rattle.rules.specs.TheGridAndItsBounds.{Head, Grid, cells, one_per_cell}
use Rattle.rules.specs.MarksAndFrames.{Cell, Steps, Mark, steps_at, stamp_of, freed, occupy, cell_at, marked, opened_stamps, highest_frame}
use Rattle.rules.specs.OneBeam.{Beam, beam_marks}
use Rattle.laws.specs.Floats.Tests.{bool_ext}
use Rattle.theorems.specs.PromiseThree.TakeBack.{alone}
use Rattle.theorems.specs.PromiseThree.Orders.{runs, any_cloud, any_mark, kinds_on, Sized, cleared, clouded, restored, marked_sized, marked-cell, back_step, no_marks}
use Rattle.theorems.specs.PromiseThree.Orders.{clear_marks, cloud_marks, stamp_is, odds_are}
use Rattle.theorems.specs.PromiseThree.Beams.{Taken, all_marks, given_a_count, grid_is, makes_same, hit_test, test_hit, touched_test, test_touched}
use Rattle.theorems.specs.PromiseThree.OneCell.{exact}
use Rattle.theorems.specs.PromiseThree.{frame_opened, grid_opened, sweep, Hit, Touched, Same, Opened, Sweep, Multiples, cloud_alone, cloud_after_clear, Ends, Settled}

-- ---- permutations and repeats are the same beams
perm_mem : {A : Type 0} {bs cs : List A} (b : A) → Permᴰ bs cs → Memᴰ b bs → Memᴰ b cs
perm_mem b Permᴰ.nil d = d
perm_mem b (Permᴰ.cons e p) d = elim (Memᴰ.cases_cons d) [ inl w ↦ Memᴰ.head (w ∙ e) | inr w ↦ Memᴰ.tail (perm_mem b p w) ]
perm_mem b (Permᴰ.swap e g) d =
    elim (Memᴰ.cases_cons d) [
      | inl w ↦ Memᴰ.tail (Memᴰ.head (w ∙ e))
      | inr w ↦
          elim (Memᴰ.cases_cons w) [ inl v ↦ Memᴰ.head (v ∙ g) | inr v ↦ Memᴰ.tail (Memᴰ.tail v) ]
    ]
perm_mem b (Permᴰ.trans p q) d = perm_mem b q (perm_mem b p d)

pub permuted : {A : Type 0} (bs cs : List A) → Permᴰ bs cs → Same bs cs
permuted bs cs p = record { there = λ b d. perm_mem b p d; back = λ b d. perm_mem b (Permᴰ.symm p) d }

pub repeated : {A : Type 0} (b : A) (bs : List A) → Memᴰ b bs → Same bs (b ∷ bs)
repeated {A} b bs m =
    record { there = λ c d. Memᴰ.tail d; back = λ c d. elim (Memᴰ.cases_cons d) [ inl w ↦ subst (λ (x : A). Memᴰ x bs) (sym w) m | inr w ↦ w ] }

pub opened-length : (k : ℕ) (stamps : List ℕ) → length (opened_stamps k stamps) ≡ length stamps
unfolding opened_stamps
opened-length k stamps = go (leb highest_frame k)
  where
    go : (b : Bool) → length (cond b (replicate (length stamps) 0) stamps) ≡ length stamps
    go true = length-replicate (length stamps) 0
    go false = refl

-- ---- the grid after the marks of whatever was handed over, on the opened grid
module _ {A : Type 0} (f : Format) (h : Head) (g : Grid) (p : Opened h g) (marks_of : A → Answer (List Mark)) where
  abbrev pub marks_leave : List A → Grid
  marks_leave cs = marked f h.model (frame_opened h) (all_marks marks_of cs) (grid_opened h g)

  abbrev kinds : ℕ → List A → List Bool
  kinds i cs = kinds_on i (all_marks marks_of cs)

  sized : Sized (cells h.extents) (grid_opened h g)
  unfolding one_per_cell
  sized =
      record {
        odds = eqb→eq (length g.odds) (cells h.extents) p.odds_per_cell;
        stamps = opened-length h.frame g.stamps ∙ eqb→eq (length g.stamps) (cells h.extents) p.stamps_per_cell;
      }

  -- each cell after a list
  cell-after : (cs : List A) (i : ℕ) → i < cells h.extents
      → cell_at (marks_leave cs) i ≡ runs f (steps_at h.model i) (frame_opened h) (kinds i cs) (cell_at (grid_opened h g) i)
  cell-after cs i l = marked-cell f h.model (frame_opened h) (all_marks marks_of cs) (grid_opened h g) (cells h.extents) i sized l

  after_sized : (cs : List A) → Sized (cells h.extents) (marks_leave cs)
  after_sized cs = marked_sized f h.model (frame_opened h) (all_marks marks_of cs) (grid_opened h g) (cells h.extents) sized

  module _ (bs : List A) where
    -- how the cells end
    clear-cell : (i : ℕ) → i < cells h.extents → Touched marks_of bs i → ¬ Hit marks_of bs i
        → cell_at (marks_leave bs) i ≡ cleared f (steps_at h.model i) (frame_opened h) (get_or g.odds i nan)
    clear-cell i l w z =
        cell-after bs i l
        ∙ clear_marks f (steps_at h.model i) (frame_opened h) (cell_at (grid_opened h g) i) (p.unstamped i l) (kinds i bs)
        (touched_test marks_of bs i w) (λ t. z (test_hit marks_of bs i t))

    cloud-cell : (i : ℕ) → i < cells h.extents → Hit marks_of bs i
        → (cell_at (marks_leave bs) i ≡ clouded f (steps_at h.model i) (frame_opened h) (get_or g.odds i nan))
        ⊎ (cell_at (marks_leave bs) i ≡ restored f (steps_at h.model i) (frame_opened h) (freed f (steps_at h.model i) (get_or g.odds i nan)))
    cloud-cell i l w =
        go (cloud_marks f (steps_at h.model i) (frame_opened h) (cell_at (grid_opened h g) i) (p.unstamped i l) (kinds i bs) (hit_test marks_of bs i w))
      where
        s : Steps
        s = steps_at h.model i

        o : Float
        o = get_or g.odds i nan

        c : Cell
        c = runs f s (frame_opened h) (kinds i bs) (cell_at (grid_opened h g) i)

        go : (c ≡ clouded f s (frame_opened h) o) ⊎ (c ≡ restored f s (frame_opened h) (freed f s o))
            → (cell_at (marks_leave bs) i ≡ clouded f s (frame_opened h) o) ⊎ (cell_at (marks_leave bs) i ≡ restored f s (frame_opened h) (freed f s o))
        go (inl e) = inl (cell-after bs i l ∙ e)
        go (inr e) = inr (cell-after bs i l ∙ e)

    cloud_stamp : (i : ℕ) → i < cells h.extents → Hit marks_of bs i → (cell_at (marks_leave bs) i).stamp ≡ stamp_of (frame_opened h) true
    cloud_stamp i l w = elim (cloud-cell i l w) [ inl e ↦ ap (λ (c : Cell). c.stamp) e | inr e ↦ ap (λ (c : Cell). c.stamp) e ]

    cloud-odds : (i : ℕ) → i < cells h.extents → Hit marks_of bs i
        → ((cell_at (marks_leave bs) i).odds ≡ cloud_alone f (steps_at h.model i) (get_or g.odds i nan))
        ⊎ ((cell_at (marks_leave bs) i).odds ≡ cloud_after_clear f (steps_at h.model i) (frame_opened h) (get_or g.odds i nan))
    cloud-odds i l w =
        let s = steps_at h.model i in
        let o = freed f s (get_or g.odds i nan) in
        elim (cloud-cell i l w) [
          | inl e ↦ inl (ap (λ (c : Cell). c.odds) e)
          | inr e ↦ inr (ap (λ (c : Cell). c.odds) e
              ∙ sym (ap (λ (d : Float). occupy f s o d) (back_step f s (frame_opened h) (record { odds = o; stamp = stamp_of (frame_opened h) false }) refl)))
        ]

    pub ends : Ends f h g marks_of bs (marks_leave bs)
    ends =
        record {
          hit_stamp = cloud_stamp;
          clear_stamp = λ i l w z. ap (λ (c : Cell). c.stamp) (clear-cell i l w z);
          untouched =
              λ i l z. cell-after bs i l ∙ no_marks f (steps_at h.model i) (frame_opened h) (cell_at (grid_opened h g) i) (p.unstamped i l)
              (kinds i bs) (λ t. z (test_touched marks_of bs i t));
          clear-odds = λ i l w z. ap (λ (c : Cell). c.odds) (clear-cell i l w z);
          cloud-odds = cloud-odds;
        }

    -- ---- the same handed over
    module _ (cs : List A) (e : Same bs cs) where
      cloud-same : (i : ℕ) → any_cloud (kinds i bs) ≡ any_cloud (kinds i cs)
      cloud-same i =
          let x : Mark = record { place = i; occupied = true } in
          bool_ext (any_cloud (kinds i bs)) (any_cloud (kinds i cs)) (λ t. hit_test marks_of cs i (makes_same marks_of bs cs x e.there (test_hit marks_of bs i t)))
          (λ t. hit_test marks_of bs i (makes_same marks_of cs bs x e.back (test_hit marks_of cs i t)))

      mark_same : (i : ℕ) → any_mark (kinds i bs) ≡ any_mark (kinds i cs)
      mark_same i =
          bool_ext (any_mark (kinds i bs)) (any_mark (kinds i cs))
          (λ t. let w = test_touched marks_of bs i t in
          touched_test marks_of cs i (w.0, makes_same marks_of bs cs (record { place = i; occupied = w.0 }) e.there w.1))
          (λ t. let w = test_touched marks_of cs i t in
          touched_test marks_of bs i (w.0, makes_same marks_of cs bs (record { place = i; occupied = w.0 }) e.back w.1))

      pub stamps-same : (marks_leave bs).stamps ≡ (marks_leave cs).stamps
      stamps-same =
          let a = after_sized bs in
          let b = after_sized cs in
          ext_get_or 0 (marks_leave bs).stamps (marks_leave cs).stamps (a.stamps ∙ sym b.stamps)
          (λ i q. let l : i < cells h.extents = omega (arith, a.stamps) in
          let s = steps_at h.model i in
          let c = cell_at (grid_opened h g) i in
          ap (λ (x : Cell). x.stamp) (cell-after bs i l) ∙ stamp_is f s (frame_opened h) c (p.unstamped i l) (kinds i bs)
          ∙ ap₂ (λ (u v : Bool). cond u (stamp_of (frame_opened h) true) (cond v (stamp_of (frame_opened h) false) c.stamp)) (cloud-same i) (mark_same i)
          ∙ sym (ap (λ (x : Cell). x.stamp) (cell-after cs i l) ∙ stamp_is f s (frame_opened h) c (p.unstamped i l) (kinds i cs)))

      pub odds-same : Multiples f h g → (marks_leave bs).odds ≡ (marks_leave cs).odds
      odds-same m =
          let a = after_sized bs in
          let b = after_sized cs in
          ext_get_or nan (marks_leave bs).odds (marks_leave cs).odds (a.odds ∙ sym b.odds)
          (λ i q. let l : i < cells h.extents = omega (arith, a.odds) in
          let s = steps_at h.model i in
          let c = cell_at (grid_opened h g) i in
          let x = exact f h.model i c.odds p.model m.model (p.within i l) (m.odds i l) (m.clear_of_floor_lem i l) in
          ap (λ (y : Cell). y.odds) (cell-after bs i l) ∙ odds_are f s (frame_opened h) c (p.unstamped i l) x (kinds i bs)
          ∙ ap₂ (λ (u v : Bool). cond u (alone f s c.odds) (cond v (freed f s c.odds) c.odds)) (cloud-same i) (mark_same i)
          ∙ sym (ap (λ (y : Cell). y.odds) (cell-after cs i l) ∙ odds_are f s (frame_opened h) c (p.unstamped i l) x (kinds i cs)))

-- THE THEOREM
module _ (f : Format) (h : Head) (g : Grid) (bs : List Beam) (p : Sweep f h g bs) where
  abbrev marks_of : Beam → Answer (List Mark)
  marks_of b = beam_marks f h.extents b

  list-leaves : (cs : List Beam) → Taken marks_of cs → (sweep f h g cs).grid ≡ marks_leave f h g p.opened marks_of cs
  list-leaves cs t = grid_is f h.extents h.model (frame_opened h) cs (grid_opened h g) t

  stamps_too : (cs : List Beam) → Same bs cs → (sweep f h g bs).grid.stamps ≡ (sweep f h g cs).grid.stamps
  stamps_too cs e =
      ap (λ (x : Grid). x.stamps) (list-leaves bs p.taken) ∙ stamps-same f h g p.opened marks_of bs cs e
      ∙ ap (λ (x : Grid). x.stamps) (sym (list-leaves cs (λ b d. p.taken b (e.back b d))))

  odds_too : Multiples f h g → (cs : List Beam) → Same bs cs → (sweep f h g bs).grid.odds ≡ (sweep f h g cs).grid.odds
  odds_too m cs e =
      ap (λ (x : Grid). x.odds) (list-leaves bs p.taken) ∙ odds-same f h g p.opened marks_of bs cs e m
      ∙ ap (λ (x : Grid). x.odds) (sym (list-leaves cs (λ b d. p.taken b (e.back b d))))

  pub promise_three : Settled f h g bs
  promise_three =
      record {
        given_a_count = given_a_count f h.extents h.model (frame_opened h) bs (grid_opened h g) p.taken;
        ends = subst (Ends f h g marks_of bs) (sym (list-leaves bs p.taken)) (ends f h g p.opened marks_of bs);
        stamps-same = stamps_too;
        stamps_permuted = λ cs q. stamps_too cs (permuted bs cs q);
        stamps_repeated = λ b d. stamps_too (b ∷ bs) (repeated b bs d);
        odds-same = odds_too;
        odds_permuted = λ m cs q. odds_too m cs (permuted bs cs q);
        odds_repeated = λ m b d. odds_too m (b ∷ bs) (repeated b bs d);
      }
