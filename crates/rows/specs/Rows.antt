-- What is refused without what is given; and the rows of a record: their odds without the refusals, and their refusal
-- without the odds. Definitions only.
use Rattle.std.specs.Prelude.{ℕ, zero, suc, ◌+◌, Bool, cond, List, [], ◌∷◌, ◌++◌, Float, drop}
use Rattle.std.proofs.Math.Option.{Option, some, none}
use Rattle.rules.specs.RefusalNumbers.{Refusal, Answer, given, refused, broken_record}
use Rattle.rules.specs.RefusalNumbers.Entries.{or_else}
use Rattle.rules.specs.TheGridAndItsBounds.{Model}
use Rattle.rules.specs.Fields.{floats_in, head_size, field_size, Field, sound_here}
use Rattle.rules.specs.MapRecord.{row_length, row_field}

abbrev pub refusal_in : {A : Type 0} → Answer A → Option Refusal
refusal_in (given a) = none
refusal_in (refused r) = some r

-- a field that is not sound breaks the record at its offset; a sound one leaves it to the next
abbrev pub unless_sound : ℕ → Bool → Option Refusal → Option Refusal
unless_sound offset sound next = cond sound next (some (broken_record offset))

-- what breaks a field; so many parts of one kind, each of so many bytes: what breaks the first that is broken, and what
-- they have
abbrev pub field_broken : {A : Type 0} → Field A → ℕ → List ℕ → Option Refusal
field_broken f offset rest = unless_sound offset (sound_here f rest) none

unfoldable pub rows_broken : (ℕ → List ℕ → Option Refusal) → ℕ → ℕ → ℕ → List ℕ → Option Refusal
rows_broken broken size zero offset rest = none
rows_broken broken size (suc n) offset rest = or_else (broken offset rest) (rows_broken broken size n (offset + size) (drop size rest))

unfoldable pub rows_have : {A : Type 0} → (List ℕ → A) → ℕ → ℕ → List ℕ → List A
rows_have has size zero rest = []
rows_have has size (suc n) rest = has rest ∷ rows_have has size n (drop size rest)

-- the odds of so many rows, one after another
unfoldable pub odds_at : ℕ → ℕ → List ℕ → List Float
odds_at width zero rest = []
odds_at width (suc n) rest = floats_in width (drop head_size rest) ++ odds_at width n (drop (field_size (row_length width)) rest)

-- the first of them that is not sound
unfoldable pub rows_refusal : Model → ℕ → ℕ → ℕ → List ℕ → Option Refusal
rows_refusal m width zero offset rest = none
rows_refusal m width (suc n) offset rest =
    let size : ℕ = field_size (row_length width) in
    unless_sound offset (sound_here (row_field m width) rest) (rows_refusal m width n (offset + size) (drop size rest))
