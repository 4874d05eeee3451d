-- Lists that were cleared, one number per cell, are a fresh map's. Assumes nothing.
use Prim.Native.Nat.{ℕ}
use mathlib.Core.List.{List}
use mathlib.Core.Path.{◌≡◌, ap, ap₂, ◌∙◌}
use lib.Ieee.{Float}
use lib.ListN.{length, replicate}
use Rattle.rules.specs.Floats.{zero_f}
use Rattle.rules.specs.RefusalNumbers.{given}
use Rattle.rules.specs.RefusalNumbers.Entries.{Outcome}
use Rattle.rules.specs.TheGridAndItsBounds.{Head, Grid, cells, fresh_grid}
use Rattle.marks.specs.Marking.{grid_of}

pub cleared : (h : Head) (es : List ℕ) (odds odds' : List Float) (stamps stamps' : List ℕ)
    → odds' ≡ replicate (length odds) zero_f → stamps' ≡ replicate (length stamps) 0 → length odds ≡ cells es → length stamps ≡ cells es
    → ◌≡◌ {A = Outcome Head Grid} (record { answer = given h; lent = grid_of odds' stamps' }) (record { answer = given h; lent = fresh_grid es })
unfolding fresh_grid
cleared h es odds odds' stamps stamps' o s m n =
    ap₂ (λ (a : List Float) (b : List ℕ). record { answer = given h; lent = grid_of a b }) (o ∙ ap (λ (k : ℕ). replicate k zero_f) m) (s ∙ ap (λ (k : ℕ). replicate k 0) n)
