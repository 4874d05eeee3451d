-- Promise 3's premises as tests, one for each, in the order of the premises' records: where all pass, the premises
-- hold. For examples, where the tests compute. Assumes nothing.
use Rattle.std.specs.Prelude.{◌≡◌, refl, Bool, true, false, not, ◌&&◌, ℕ, zero, suc, ◌+◌, ◌<◌, T, eqb, length, get_or}
use Rattle.std.proofs.Common.{sym, subst, inl, inr, not-suc-le-zero, le_of_suc-le-suc, add-zero, add-suc, suc-add, zero-add, arith, eqb→eq, T_not}
use mathlib.Core.List.Memᴰ
use mathlib.Core.List.{List, [], ◌∷◌, ◌++◌, Memᴰ}
use Rattle.std.specs.Float.{nan, Format}
use Rattle.std.specs.Float.Ieee.Fits.{and_i, and_l, and_r, eq→eqb}
use Rattle.rules.specs.RefusalNumbers.{Answer, given, refused}
use Rattle.rules.specs.TheGridAndItsBounds.{Head, Grid, cells, extents_in_bounds, bounded, one_per_cell}
use Rattle.rules.specs.MarksAndFrames.{steps_at, frame_of}
use Rattle.rules.specs.OneBeam.{Beam, beam_marks}
use Rattle.theorems.specs.PromiseThree.Proof.{opened-length}
use Rattle.theorems.specs.PromiseThree.{frame_opened, grid_opened, Opened, Sweep, Multiples, odds_within, of_units, model_of_units, clear_of_floor}

abbrev pub every : {A : Type 0} → (A → Bool) → List A → Bool
every test [] = true
every test (x ∷ xs) = test x && every test xs

-- a test that goes by the place too, which is counted from k
abbrev pub every_at : {A : Type 0} → (ℕ → A → Bool) → ℕ → List A → Bool
every_at test k [] = true
every_at test k (x ∷ xs) = test k x && every_at test (suc k) xs

abbrev pub is_given : {A : Type 0} → Answer A → Bool
is_given (given x) = true
is_given (refused r) = false

-- the premises that a sweep and its grid have to meet, the beams', and those of the last sentence
abbrev pub opened_tests : Head → Grid → List Bool
opened_tests h g =
    extents_in_bounds h.extents ∷ bounded h.model
    ∷ one_per_cell h.extents (length g.odds) ∷ one_per_cell h.extents (length g.stamps)
    ∷ every (odds_within h.model) g.odds ∷ every (λ t. not (eqb (frame_of t) (frame_opened h))) (grid_opened h g).stamps ∷ []

abbrev pub sweep_tests : Format → Head → Grid → List Beam → List Bool
sweep_tests f h g bs = opened_tests h g ++ every (λ b. is_given (beam_marks f h.extents b)) bs ∷ []

abbrev pub multiples_tests : Format → Head → Grid → List Bool
multiples_tests f h g = model_of_units f h.model ∷ every (of_units f) g.odds ∷ every_at (λ i o. clear_of_floor f (steps_at h.model i) o) 0 g.odds ∷ []

abbrev pub all_pass : List Bool → Bool
all_pass [] = true
all_pass (b ∷ bs) = b && all_pass bs

pub every-at : {A : Type 0} (test : A → Bool) (d : A) (xs : List A) → T (every test xs) → (i : ℕ) → i < length xs → T (test (get_or xs i d))
every-at test d [] t i l = absurd (not-suc-le-zero l)
every-at test d (x ∷ xs) t zero l = and_l (test x) (every test xs) t
every-at test d (x ∷ xs) t (suc i) l = every-at test d xs (and_r (test x) (every test xs) t) i (le_of_suc-le-suc l)

at_each : {A : Type 0} (test : ℕ → A → Bool) (d : A) (k : ℕ) (xs : List A) → T (every_at test k xs) → (i : ℕ) → i < length xs → T (test (k + i) (get_or xs i d))
at_each test d k [] t i l = absurd (not-suc-le-zero l)
at_each test d k (x ∷ xs) t zero l = rw add-zero (and_l (test k x) (every_at test (suc k) xs) t)
at_each test d k (x ∷ xs) t (suc i) l = rw (add-suc, ← suc-add) (at_each test d (suc k) xs (and_r (test k x) (every_at test (suc k) xs) t) i (le_of_suc-le-suc l))

every_of : {A : Type 0} (test : A → Bool) (xs : List A) → T (every test xs) → (x : A) → Memᴰ x xs → T (test x)
every_of test [] t x d = absurd (Memᴰ.not-nil d)
every_of test (y ∷ xs) t x d =
    elim (Memᴰ.cases_cons d) [ inl e ↦ subst (λ z. T (test z)) (sym e) (and_l (test y) (every test xs) t) | inr e ↦ every_of test xs (and_r (test y) (every test xs) t) x e ]

pub is_given_lem : {A : Type 0} (a : Answer A) → T (is_given a) → (xs : A) × (a ≡ given xs)
is_given_lem (given xs) t = (xs, refl)
is_given_lem (refused r) t = absurd t

-- the first of some tests, and the rest
module _ (b : Bool) (bs : List Bool) (t : T (all_pass (b ∷ bs))) where
  first : T b
  first = and_l b (all_pass bs) t

  rest : T (all_pass bs)
  rest = and_r b (all_pass bs) t

-- the tests of two lists
split_tests : (xs ys : List Bool) → T (all_pass (xs ++ ys)) → T (all_pass xs) × T (all_pass ys)
split_tests [] ys t = (tt, t)
split_tests (x ∷ xs) ys t =
    let r = split_tests xs ys (and_r x (all_pass (xs ++ ys)) t) in
    (and_i x (all_pass xs) (and_l x (all_pass (xs ++ ys)) t) r.0, r.1)

pub opened_holds : (h : Head) (g : Grid) → T (all_pass (opened_tests h g)) → Opened h g
unfolding one_per_cell
opened_holds h g t₀ =
    let es = h.extents in
    let a₀ = extents_in_bounds es in
    let a₁ = bounded h.model in
    let a₂ = one_per_cell es (length g.odds) in
    let a₃ = one_per_cell es (length g.stamps) in
    let a₄ = every (odds_within h.model) g.odds in
    let a₅ = every (λ t. not (eqb (frame_of t) (frame_opened h))) (grid_opened h g).stamps in
    let t₁ = rest a₀ (a₁ ∷ a₂ ∷ a₃ ∷ a₄ ∷ a₅ ∷ []) t₀ in
    let t₂ = rest a₁ (a₂ ∷ a₃ ∷ a₄ ∷ a₅ ∷ []) t₁ in
    let t₃ = rest a₂ (a₃ ∷ a₄ ∷ a₅ ∷ []) t₂ in
    let t₄ = rest a₃ (a₄ ∷ a₅ ∷ []) t₃ in
    let t₅ = rest a₄ (a₅ ∷ []) t₄ in
    let n : length g.odds ≡ cells es = eqb→eq (length g.odds) (cells es) (first a₂ (a₃ ∷ a₄ ∷ a₅ ∷ []) t₂) in
    let m : length g.stamps ≡ cells es = eqb→eq (length g.stamps) (cells es) (first a₃ (a₄ ∷ a₅ ∷ []) t₃) in
    record {
      extents = first a₀ (a₁ ∷ a₂ ∷ a₃ ∷ a₄ ∷ a₅ ∷ []) t₀;
      model = first a₁ (a₂ ∷ a₃ ∷ a₄ ∷ a₅ ∷ []) t₁;
      odds_per_cell = first a₂ (a₃ ∷ a₄ ∷ a₅ ∷ []) t₂;
      stamps_per_cell = first a₃ (a₄ ∷ a₅ ∷ []) t₃;
      within = λ i l. every-at (odds_within h.model) nan g.odds (first a₄ (a₅ ∷ []) t₄) i (omega arith);
      unstamped =
          λ i l e. T_not (eqb (frame_of (get_or (grid_opened h g).stamps i 0)) (frame_opened h))
          (every-at (λ t. not (eqb (frame_of t) (frame_opened h))) 0 (grid_opened h g).stamps (first a₅ [] t₅) i (omega (arith, opened-length h.frame g.stamps)))
          (eq→eqb e);
    }

pub sweep_holds : (f : Format) (h : Head) (g : Grid) (bs : List Beam) → T (all_pass (sweep_tests f h g bs)) → Sweep f h g bs
sweep_holds f h g bs t =
    let test : Beam → Bool = λ b. is_given (beam_marks f h.extents b) in
    let p = split_tests (opened_tests h g) (every test bs ∷ []) t in
    record {
      opened = opened_holds h g p.0;
      taken = λ b d. is_given_lem (beam_marks f h.extents b) (every_of test bs (first (every test bs) [] p.1) b d);
    }

pub multiples_hold : (f : Format) (h : Head) (g : Grid) → T (one_per_cell h.extents (length g.odds)) → T (all_pass (multiples_tests f h g)) → Multiples f h g
unfolding one_per_cell
multiples_hold f h g s t₀ =
    let a₀ = model_of_units f h.model in
    let a₁ = every (of_units f) g.odds in
    let a₂ = every_at (λ i o. clear_of_floor f (steps_at h.model i) o) 0 g.odds in
    let t₁ = rest a₀ (a₁ ∷ a₂ ∷ []) t₀ in
    let n : length g.odds ≡ cells h.extents = eqb→eq (length g.odds) (cells h.extents) s in
    record {
      model = first a₀ (a₁ ∷ a₂ ∷ []) t₀;
      odds = λ i l. every-at (of_units f) nan g.odds (first a₁ (a₂ ∷ []) t₁) i (omega arith);
      clear_of_floor_lem = λ i l. subst (λ (j : ℕ). T (clear_of_floor f (steps_at h.model j) (get_or g.odds i nan))) (zero-add i)
          (at_each (λ j o. clear_of_floor f (steps_at h.model j) o) nan 0 g.odds (first a₂ [] (rest a₁ (a₂ ∷ []) t₁)) i (omega arith));
    }
