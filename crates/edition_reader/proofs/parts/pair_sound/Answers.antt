-- The field of a pair first, then its ceiling.
use Prim.Native.Nat.{ℕ}
use mathlib.Core.Bool.{Bool, true, false, ◌&&◌}
use mathlib.Core.List.{List}
use mathlib.Core.Path.{◌≡◌, refl, sym, ap, ap₂, ◌∙◌}
use native.Mathlib.Omega.{arith}
use lib.Dec.{eqb}
use lib.Ieee.{Float, binary64, to_bits}
use lib.ListN.{drop}
use Rattle.rules.specs.TheGridAndItsBounds.{Model, bounded}
use Rattle.rules.specs.Fields.{field_here, contents, sound_here}
use Rattle.rules.specs.MapRecord.{model_tag, model_length, model_field, same_bits}
use Rattle.rules.specs.EditionTwo.{pair_field}
use Rattle.fields.proofs.Bytes.{whole-at, both_l}
use Rattle.edition_reader.proofs.parts.pair_sound.Goals as goal

-- the field and its bounds, then one test more
all_but : (here sound more : Bool) → here && sound ≡ true → more ≡ here && (sound && more)
all_but true true more e = refl
all_but true false more e = let z : ◌≡◌ {A = Bool} false true = e in cc
all_but false sound more e = let z : ◌≡◌ {A = Bool} false true = e in cc

none_of : (here sound more : Bool) → here && sound ≡ false → false ≡ here && (sound && more)
none_of true true more e = let z : ◌≡◌ {A = Bool} true false = e in cc
none_of true false more e = refl
none_of false sound more e = refl

pair-there : (ceiling : Float) (rest : List ℕ) → sound_here model_field rest ≡ true → same_bits (contents model_field rest).ceiling ceiling ≡ sound_here (pair_field ceiling) rest
pair-there ceiling rest e = all_but (field_here model_tag model_length rest) (bounded (contents model_field rest)) (same_bits (contents model_field rest).ceiling ceiling) e

pair-absent : (ceiling : Float) (rest : List ℕ) → sound_here model_field rest ≡ false → false ≡ sound_here (pair_field ceiling) rest
pair-absent ceiling rest e = none_of (field_here model_tag model_length rest) (bounded (contents model_field rest)) (same_bits (contents model_field rest).ceiling ceiling) e

pub model_field_at-model-requires : goal.model_field_at-model-requires
model_field_at-model-requires c = let a = c.args in
    let w = whole-at model_tag model_length a.at a.bytes.now (both_l _ _ (sym c.model_sound.ensures ∙ c.if-model_sound.true)) in
    record { whole = omega arith }

pub returns-then-model_sound : goal.returns-then-model_sound
unfolding same_bits
returns-then-model_sound c = let a = c.args in
    let read = c.model_field_at-model in
    ap₂ eqb (c.bits_of.ensures ∙ ap (λ (m : Model). to_bits binary64 m.ceiling) read.ensures) c.bits_of-then-model_sound.ensures
    ∙ pair-there a.ceiling (drop a.at a.bytes.now) (sym c.model_sound.ensures ∙ c.if-model_sound.true)

pub returns : goal.returns
returns c = let a = c.args in
    pair-absent a.ceiling (drop a.at a.bytes.now) (sym c.model_sound.ensures ∙ c.if-model_sound.false)
