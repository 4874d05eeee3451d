-- Rows are tried by the ceiling alone. Over any number of axes. Assumes nothing.
use Prim.Native.Nat.{ℕ, zero, suc, ◌+◌}
use mathlib.Core.Bool.{Bool}
use mathlib.Core.List.{List}
use mathlib.Core.Path.{◌≡◌, refl, ap₂}
use lib.Ieee.{Float}
use lib.ListN.{take, drop}
use Rattle.rules.specs.RefusalNumbers.{Answer, and_then}
use Rattle.rules.specs.TheGridAndItsBounds.{Model}
use Rattle.rules.specs.Fields.{field_size, sound_or, rows_tried}
use Rattle.rules.specs.MapRecord.{row_length, rows_checked}
use Rattle.rows.proofs.Odds.{odds_by_ceiling}

pub rows_by_ceiling : (m k : Model) → m.ceiling ≡ k.ceiling → (width n o : ℕ) (odds : List Float) → rows_checked m width n o odds ≡ rows_checked k width n o odds
unfolding rows_checked rows_tried
rows_by_ceiling m k e width zero o odds = refl
rows_by_ceiling m k e width (suc n) o odds =
    ap₂ (λ (b : Bool) (rest : Answer (Unit {0})). and_then (sound_or o b tt) (λ (t : Unit {0}). rest)) (odds_by_ceiling m k e (take width odds))
    (rows_by_ceiling m k e width n (o + field_size (row_length width)) (drop width odds))
