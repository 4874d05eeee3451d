-- A walk by whole numbers: what holds between its steps, over lines of any number of axes, in every format. Assumes
-- nothing.
use Prim.Native.Nat.{ℕ, ◌+◌, ◌<◌, ◌≤◌}
use mathlib.Core.List.{List, map}
use mathlib.Core.Path.{◌≡◌, refl, sym, subst}
use native.Mathlib.Omega.{arith}
use mathlib.Core.Bool.{false}
use lib.Ieee.{Float, Format}
use lib.IntN.{pos}
use Rattle.rules.specs.TheGridAndItsBounds.{Head, most_extent}
use Rattle.rules.specs.Coordinates.{flat_index}
use Rattle.rules.specs.RefusalNumbers.{given}
use Rattle.rules.specs.TheLine.{Line, axes_after}
use Rattle.laws.specs.Following.{AllFollowed, AllSmall, followed_cells}
use Rattle.laws.specs.LineSteps.{line_after}
use Rattle.beam.specs.Applying.{Applied, one}
use Rattle.beam.specs.Walking.{Begun}
use Rattle.beam.proofs.Walking.{goes_free}

pub record Along (f : Format) (h : Head) (line : Line) (odds₀ : List Float) (stamps₀ : List ℕ) (cells : List ℕ) (rest : Line) (odds : List Float) (stamps : List ℕ) (count remaining : ℕ)
    : Type 0 where
  pub begun : Begun f h line odds₀ stamps₀ rest odds stamps count
  pub left : remaining ≡ rest.remaining
  pub followed : AllFollowed f cells rest.axes

pub on_a_map : (n extent : ℕ) → n < extent → extent ≤ most_extent → n ≤ most_extent
on_a_map n extent h g = omega arith

module _ (f : Format) (h : Head) (line : Line) (odds₀ : List Float) (stamps₀ : List ℕ) where
  module _ (cells : List ℕ) (rest : Line) (odds : List Float) (stamps : List ℕ) (count remaining : ℕ)
      (a : Along f h line odds₀ stamps₀ cells rest odds stamps count remaining) where
    pub follows : (cells' : List ℕ) (after : Line) (at n : ℕ) (odds' : List Float) (stamps' : List ℕ) → 1 < remaining → AllSmall cells
        → flat_index h.extents (map pos cells) ≡ given at → Applied f (one at false) h.model h.frame odds stamps n odds' stamps'
        → after ≡ line_after f rest → AllFollowed f cells' (axes_after f 0 rest.primary rest.threshold rest.axes)
        → Along f h line odds₀ stamps₀ cells' after odds' stamps' (count + n) after.remaining
    follows cells' after at n odds' stamps' more small found marked moved on =
        let e = a.left in
        let b = goes_free f h line odds₀ stamps₀ rest odds stamps count a.begun at n odds' stamps' (omega arith)
        (rw (followed_cells f cells rest.axes a.followed small) found) marked in
        record {
          begun = subst (λ (l : Line). Begun f h line odds₀ stamps₀ l odds' stamps' (count + n)) (sym moved) b;
          left = refl;
          followed = subst (λ (l : Line). AllFollowed f cells' l.axes) (sym moved) on;
        }
