-- Lists of beams one after another in one sweep: how far a list comes, said apart from its answer, so that what follows
-- it can be put behind. Assumes nothing.
use Prim.Native.Nat.{ℕ, suc, ◌+◌}
use Rattle.std.specs.Prelude.{◌≡◌}
use Rattle.std.proofs.Math.Path.{refl, ap, ap₂}
use Rattle.std.proofs.Common.{sym, ◌∙◌, add_assoc, add-zero, add-suc, arith}
use mathlib.Core.List.{List, [], ◌∷◌, ◌++◌}
use Rattle.std.proofs.Math.ListN.{length}
use Rattle.std.specs.Float.{Format}
use Rattle.rules.specs.RefusalNumbers.{Answer, given, refused, ray_in_list}
use Rattle.rules.specs.TheGridAndItsBounds.{Model, Grid}
use Rattle.rules.specs.OneBeam.{Beam, Integrated, integrated_beam, or_stop, integrated_from, integrated}

-- a list ends with its count, or stops at a beam with the count before it
pub data Ended : Type 0 where
  done : ℕ → Ended
  stopped : ℕ → ℕ → Ended

abbrev pub end_answer : Ended → Answer ℕ
end_answer (done n) = given n
end_answer (stopped p n) = refused (ray_in_list p n)

-- behind p beams that counted c
abbrev pub behind : ℕ → ℕ → Ended → Ended
behind p c (done n) = done (c + n)
behind p c (stopped q n) = stopped (p + q) (c + n)

pub record Came : Type 0 where
  pub end : Ended
  pub grid : Grid

abbrev pub outcome_of : Came → Integrated
outcome_of r = record { answer = end_answer r.end; grid = r.grid }

-- one beam, and then the rest
abbrev or_else_stops : ℕ → ℕ → Grid → Answer ℕ → (ℕ → Came) → Came
or_else_stops place count g (given n) go = go (count + n)
or_else_stops place count g (refused r) go = record { end = stopped place count; grid = g }

-- a list that came so far, and what comes after it where it was not stopped
abbrev pub and_on : Ended → Grid → (ℕ → Grid → Came) → Came
and_on (done n) g go = go n g
and_on (stopped p n) g go = record { end = stopped p n; grid = g }

module _ (f : Format) (es : List ℕ) (m : Model) (k : ℕ) where
  unfoldable pub came : ℕ → ℕ → List Beam → Grid → Came
  came place count [] g = record { end = done count; grid = g }
  came place count (b ∷ bs) g =
      let r : Integrated = integrated_beam f es m k b g in
      or_else_stops place count r.grid r.answer (λ n. came (suc place) n bs r.grid)

  -- the rules' answer says where the list came to
  from-came : (place count : ℕ) (bs : List Beam) (g : Grid) → integrated_from f es m k place count bs g ≡ outcome_of (came place count bs g)
  unfolding integrated_from came
  from-came place count [] g = refl
  from-came place count (b ∷ bs) g = go (integrated_beam f es m k b g).answer (λ n. from-came (suc place) (count + n) bs (integrated_beam f es m k b g).grid)
    where
      go : (a : Answer ℕ) → ((n : ℕ) → integrated_from f es m k (suc place) (count + n) bs (integrated_beam f es m k b g).grid ≡ outcome_of (came (suc place) (count + n) bs (integrated_beam f es m k b g).grid))
          → or_stop place count (integrated_beam f es m k b g).grid a (λ n. integrated_from f es m k (suc place) n bs (integrated_beam f es m k b g).grid)
          ≡ outcome_of (or_else_stops place count (integrated_beam f es m k b g).grid a (λ n. came (suc place) n bs (integrated_beam f es m k b g).grid))
      go (given n) ih = ih n
      go (refused x) ih = refl

  -- a list begun behind p beams that counted c
  moved : (p c place count : ℕ) (bs : List Beam) (g : Grid)
      → came (p + place) (c + count) bs g ≡ record { end = behind p c (came place count bs g).end; grid = (came place count bs g).grid }
  unfolding came
  moved p c place count [] g = refl
  moved p c place count (b ∷ bs) g = go (integrated_beam f es m k b g).answer (λ n. moved p c (suc place) (count + n) bs (integrated_beam f es m k b g).grid)
    where
      go : (a : Answer ℕ)
          → ((n : ℕ) → came (p + suc place) (c + (count + n)) bs (integrated_beam f es m k b g).grid
          ≡ record {
            end = behind p c (came (suc place) (count + n) bs (integrated_beam f es m k b g).grid).end;
            grid = (came (suc place) (count + n) bs (integrated_beam f es m k b g).grid).grid;
          })
          → or_else_stops (p + place) (c + count) (integrated_beam f es m k b g).grid a (λ n. came (suc (p + place)) n bs (integrated_beam f es m k b g).grid)
          ≡ record {
            end = behind p c (or_else_stops place count (integrated_beam f es m k b g).grid a (λ n. came (suc place) n bs (integrated_beam f es m k b g).grid)).end;
            grid = (or_else_stops place count (integrated_beam f es m k b g).grid a (λ n. came (suc place) n bs (integrated_beam f es m k b g).grid)).grid;
          }
      go (given n) ih = ap₂ (λ (x y : ℕ). came x y bs (integrated_beam f es m k b g).grid) (sym (add-suc p place)) (add_assoc c count n) ∙ ih n
      go (refused x) ih = refl

  -- two lists as one
  joined : (place count : ℕ) (bs cs : List Beam) (g : Grid)
      → came place count (bs ++ cs) g ≡ and_on (came place count bs g).end (came place count bs g).grid (λ n x. came (place + length bs) n cs x)
  unfolding came
  joined place count [] cs g = ap (λ (x : ℕ). came x count cs g) (sym (add-zero place))
  joined place count (b ∷ bs) cs g = go (integrated_beam f es m k b g).answer (λ n. joined (suc place) (count + n) bs cs (integrated_beam f es m k b g).grid)
    where
      go : (a : Answer ℕ)
          → ((n : ℕ) → came (suc place) (count + n) (bs ++ cs) (integrated_beam f es m k b g).grid
          ≡ and_on (came (suc place) (count + n) bs (integrated_beam f es m k b g).grid).end (came (suc place) (count + n) bs (integrated_beam f es m k b g).grid).grid
          (λ j x. came (suc place + length bs) j cs x))
          → or_else_stops place count (integrated_beam f es m k b g).grid a (λ n. came (suc place) n (bs ++ cs) (integrated_beam f es m k b g).grid)
          ≡ and_on (or_else_stops place count (integrated_beam f es m k b g).grid a (λ n. came (suc place) n bs (integrated_beam f es m k b g).grid)).end
          (or_else_stops place count (integrated_beam f es m k b g).grid a (λ n. came (suc place) n bs (integrated_beam f es m k b g).grid)).grid
          (λ n x. came (place + suc (length bs)) n cs x)
      go (given n) ih =
          ih n
          ∙ ap (λ (y : ℕ). and_on (came (suc place) (count + n) bs (integrated_beam f es m k b g).grid).end (came (suc place) (count + n) bs (integrated_beam f es m k b g).grid).grid (λ j x. came y j cs x))
          (omega arith)
      go (refused x) ih = refl

  -- a list keeps whatever each of its beams keeps
  kept : {A : Type 0} (look : Grid → A) → ((b : Beam) (g : Grid) → look (integrated_beam f es m k b g).grid ≡ look g)
      → (place count : ℕ) (bs : List Beam) (g : Grid) → look (came place count bs g).grid ≡ look g
  unfolding came
  kept look keeps place count [] g = refl
  kept look keeps place count (b ∷ bs) g = go (integrated_beam f es m k b g).answer (λ n. kept look keeps (suc place) (count + n) bs (integrated_beam f es m k b g).grid) ∙ keeps b g
    where
      go : (a : Answer ℕ) → ((n : ℕ) → look (came (suc place) (count + n) bs (integrated_beam f es m k b g).grid).grid ≡ look (integrated_beam f es m k b g).grid)
          → look (or_else_stops place count (integrated_beam f es m k b g).grid a (λ n. came (suc place) n bs (integrated_beam f es m k b g).grid)).grid ≡ look (integrated_beam f es m k b g).grid
      go (given n) ih = ih n
      go (refused x) ih = refl

  -- from the start: the second list, on the grid that the first left, put behind it
  pub whole-list : List Beam → Grid → Came
  whole-list bs g = came 0 0 bs g

  pub list_is : (bs : List Beam) (g : Grid) → integrated f es m k bs g ≡ outcome_of (whole-list bs g)
  unfolding integrated whole-list
  list_is bs g = from-came 0 0 bs g

  pub list-keeps : {A : Type 0} (look : Grid → A) → ((b : Beam) (g : Grid) → look (integrated_beam f es m k b g).grid ≡ look g)
      → (bs : List Beam) (g : Grid) → look (whole-list bs g).grid ≡ look g
  unfolding whole-list
  list-keeps look keeps bs g = kept look keeps 0 0 bs g

  pub lists_joined : (bs cs : List Beam) (g : Grid)
      → whole-list (bs ++ cs) g ≡ and_on (whole-list bs g).end (whole-list bs g).grid (λ n x. record { end = behind (length bs) n (whole-list cs x).end; grid = (whole-list cs x).grid })
  unfolding whole-list
  lists_joined bs cs g = joined 0 0 bs cs g ∙ go (came 0 0 bs g).end
    where
      go : (e : Ended) → and_on e (came 0 0 bs g).grid (λ n x. came (0 + length bs) n cs x)
          ≡ and_on e (came 0 0 bs g).grid (λ n x. record { end = behind (length bs) n (came 0 0 cs x).end; grid = (came 0 0 cs x).grid })
      go (done n) =
          ap₂ (λ (p c : ℕ). came p c cs (came 0 0 bs g).grid) (omega arith) (sym (add-zero n)) ∙ moved (length bs) n 0 0 cs (came 0 0 bs g).grid
      go (stopped p n) = refl
